-- That a refused statement, or a transaction that isn't committed, leaves no trace.
use Rattle.std.specs.Prelude.{◌≡◌, ℕ, [], None}
use Rattle.dw_journal.specs.History.{History}
use Rattle.dw_journal.specs.Transactions.{transaction_of}
use Rattle.dw_journal.specs.Contents.{contents_at}
use Rattle.dw_journal.specs.Locks.{held_locks, lock_state}
use Rattle.dw_core.specs.declared.decisions.Committed.{Committed}
use Rattle.dw_core.specs.declared.decisions.Committed.TheVariants.{Stamped, Violation, Memory}

-- Afterwards the session's transaction isn't open, the session holds no lock, and the committed contents after any
-- number of commits are as they were.
pub record LeavesNoTrace (before : History) (session : ℕ) (after : History) : Type 0 where
  pub closed : transaction_of session after.events ≡ None
  pub unlocked : held_locks (lock_state after) session ≡ []
  pub stand : (count : ℕ) → contents_at after.world after.events count ≡ contents_at before.world before.events count

-- a transaction that isn't committed leaves no trace
abbrev pub LeavesUnlessStamped : Committed → History → ℕ → History → Type 0
LeavesUnlessStamped (Stamped stamp low high) before session after = Unit {0}
LeavesUnlessStamped (Violation low high object) before session after = LeavesNoTrace before session after
LeavesUnlessStamped Memory before session after = LeavesNoTrace before session after
