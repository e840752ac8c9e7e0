-- Where a commit is decided, and what the decision is: a serializable violation comes exactly where the low watermark
-- is at most the high one.
use Rattle.std.specs.Prelude.{◌≡◌, ℕ, ◌≤◌, ◌<◌, Option, Some}
use Rattle.dw_model.specs.declared.refusals.Refusal.TheVariants.{Memory}
use Rattle.dw_journal.specs.declared.BlockState.{BlockState}
use Rattle.dw_journal.specs.declared.BlockState.TheVariants.{Within}
use Rattle.dw_journal.specs.declared.Event.{Event}
use Rattle.dw_journal.specs.declared.Event.TheVariants.{Commit, Violation, Refuse}
use Rattle.dw_journal.specs.History.{History}
use Rattle.dw_journal.specs.Blocks.{block_of}
use Rattle.dw_journal.specs.Transactions.{Transaction, transaction_of}
use Rattle.dw_journal.specs.Turns.{Turn, CommitOf, Taking, Commits, turn_of}
use Rattle.dw_journal.specs.Legal.{low_of, high_of}

-- A decision is due of a session: an answered statement outside a block is to be committed, or the next statement is
-- the COMMIT of a block in which a transaction is open.
abbrev pub IsDecisionDue : Turn → BlockState → Option Transaction → Type 0
IsDecisionDue (CommitOf k) block transaction = Unit {0}
IsDecisionDue (Taking k Commits) Within (Some transaction) = Unit {0}
IsDecisionDue turn block transaction = ⊥

abbrev pub HasToDecide : History → ℕ → Type 0
HasToDecide older session =
    IsDecisionDue (turn_of older session) (block_of older session) (transaction_of session older.events)

-- The event decides: it is a violation where low is at most high, and else a commit or the refusal for want of memory.
abbrev pub DecidesExactly : History → ℕ → Event → Type 0
DecidesExactly older session (Violation other statement low high object) = low_of older session ≤ high_of older session
DecidesExactly older session (Commit other statement stamp low high) = high_of older session < low_of older session
DecidesExactly older session (Refuse other statement refusal) =
    (high_of older session < low_of older session) × (refusal ≡ Memory)
DecidesExactly older session event = ⊥
