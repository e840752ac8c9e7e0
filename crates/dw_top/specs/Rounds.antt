-- What steps of sessions, one after another, lead to: why a run is one of its schedule, and why it ends.
use Rattle.std.specs.Prelude.{◌≡◌, ℕ, zero, suc, ◌+◌, true, false, ◌⊎◌, List, ◌++◌}
use Rattle.dw_journal.specs.Worlds.{IsSession}
use Rattle.dw_journal.specs.History.{History, has_ended}
use Rattle.dw_journal.specs.Driven.{Move, Steps}
use Rattle.dw_journal.specs.Progress.{events_left}
use Rattle.dw_engine.specs.Steps.{IsStuck}

-- these moves, the latest first, lead from one history to the other
pub record Leads (moves : List Move) (before after : History) : Type 0 where
  pub shape : after.shape ≡ before.shape
  pub world : after.world ≡ before.world
  pub steps : (earlier : List Move) → Steps before.shape before.world earlier before.events
      → Steps before.shape before.world (moves ++ earlier) after.events

-- a session is at its end, or waits for somebody
abbrev pub IsHeld : History → ℕ → Type 0
IsHeld history session = (has_ended session history.events ≡ true) ⊎ IsStuck history session

-- the most events that so many sessions have before them, but for waits
abbrev pub total_left : History → ℕ → ℕ
total_left history zero = 0
total_left history (suc n) = total_left history n + events_left history (suc n)

-- there is a session that isn't at its end
pub record SomeoneIsLeft (history : History) : Type 0 where
  pub session : ℕ
  pub there : IsSession history.world session
  pub left : has_ended session history.events ≡ false
