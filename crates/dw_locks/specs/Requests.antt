-- What a request is answered, and what it leaves.
use Rattle.std.specs.Prelude.{ℕ, List, [], ◌∷◌, Option, Some, None}
use Rattle.std.specs.List.{slice_set}
use Rattle.dw_journal.specs.declared.locks.Want.{Want}
use Rattle.dw_locks.specs.declared.locks.Asked.{Asked}
use Rattle.dw_locks.specs.declared.locks.Asked.TheVariants.{Granted, Waits, Deadlock}
use Rattle.dw_locks.specs.LockTable.{LockTable, entry_of, table_blockers, table_cycle, granted, waiting}

-- a session that is blocked waits, unless it would close a cycle
abbrev pub blocked_answer : List ℕ → Option (List ℕ) → Asked
blocked_answer holders None = Waits holders
blocked_answer holders (Some cycle) = Deadlock cycle

-- one that nobody blocks is granted what it asks for
abbrev pub answer_by : List ℕ → Option (List ℕ) → Asked
answer_by [] cycle = Granted
answer_by (holder ∷ holders) cycle = blocked_answer (holder ∷ holders) cycle

abbrev pub answer_to : LockTable → ℕ → List Want → Asked
answer_to table session wants = answer_by (table_blockers table session wants) (table_cycle table session wants)

-- a deadlock changes nothing
abbrev pub table_after : LockTable → ℕ → List Want → Asked → LockTable
table_after table session wants Granted = slice_set table session (granted wants (entry_of table session))
table_after table session wants (Waits holders) = slice_set table session (waiting wants (entry_of table session))
table_after table session wants (Deadlock cycle) = table
