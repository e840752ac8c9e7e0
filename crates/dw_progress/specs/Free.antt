-- Sessions that can go on. These definitions are this project's own.
use Rattle.std.specs.Prelude.{◌≡◌, ℕ, false, []}
use Rattle.dw_journal.specs.Driven.{RepeatsWait}
use Rattle.dw_journal.specs.History.{History, has_ended}
use Rattle.dw_journal.specs.Locks.{lock_state, waits_for}
use Rattle.dw_journal.specs.Worlds.{IsSession}

-- a session that hasn't ended and waits for nobody
pub record IsFree (history : History) : Type 0 where
  pub session : ℕ
  pub there : IsSession history.world session
  pub left : has_ended session history.events ≡ false
  pub free : waits_for (lock_state history) session ≡ []

-- a session that hasn't ended and wouldn't repeat its wait
pub record CanStep (history : History) : Type 0 where
  pub session : ℕ
  pub there : IsSession history.world session
  pub left : has_ended session history.events ≡ false
  pub unrepeated : RepeatsWait history session → ⊥
