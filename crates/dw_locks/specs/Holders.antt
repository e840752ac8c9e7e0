-- Who holds a table for itself alone, by the events of a journal.
use Rattle.std.specs.Prelude.{ℕ, suc, Bool, ◌&&◌, List, Option}
use Rattle.std.specs.List.{find, list_any, range_with_len}
use Rattle.dw_model.specs.Binding.{same_name}
use Rattle.dw_journal.specs.Locks.{LockState, held_locks}
use Rattle.dw_locks.specs.LockTable.{is_exclusive}

-- a session holds the table of this name in AccessExclusive
abbrev pub has_exclusively : LockState → List ℕ → ℕ → Bool
has_exclusively state name session =
    list_any (λ lock. same_name lock.table name && is_exclusive lock.mode) (held_locks state session)

-- the least session that does, among all and the background worker
abbrev pub exclusive_holder_by : LockState → List ℕ → Option ℕ
exclusive_holder_by state name = find (has_exclusively state name) (range_with_len 0 (suc state.sessions))
