-- What a session's step does to a history.
use Rattle.std.specs.Prelude.{◌≡◌, ◌<◌, ℕ, true, false, List, length, Some}
use Rattle.dw_journal.specs.declared.Event.{Event}
use Rattle.dw_journal.specs.declared.Event.TheVariants.{Wait}
use Rattle.dw_journal.specs.Driven.{RepeatsWait}
use Rattle.dw_journal.specs.History.{History, session_of, has_ended, with_event}
use Rattle.dw_journal.specs.Legal.{IsNextEvent}
use Rattle.dw_journal.specs.Locks.{lock_state, waits_for}
use Rattle.dw_journal.specs.Progress.{waits_or_sweeps}
use Rattle.dw_journal.specs.Turns.{number_due}

-- the session's newest event is a wait, and somebody stands in its way now
abbrev pub IsStuck : History → ℕ → Type 0
IsStuck history session = 0 < length (waits_for (lock_state history) session)

-- A session whose script is at its end does nothing, nor does one that would repeat its wait; else one event of it comes
-- that may come next. It is of no vacuum: none can be driven yet.
pub data IsStep (session : ℕ) : History → History → Type 0 where
  at_end : {history : History} → has_ended session history.events ≡ true → IsStep session history history
  repeats : {history : History} → RepeatsWait history session → IsStuck history session → IsStep session history history
  waited : {history : History} (holders : List ℕ) → IsNextEvent history (Wait session (number_due history session) holders)
      → IsStuck (with_event history (Wait session (number_due history session) holders)) session
      → IsStep session history (with_event history (Wait session (number_due history session) holders))
  moved : {history : History} (event : Event) → session_of event ≡ Some session → waits_or_sweeps event ≡ false
      → IsNextEvent history event → IsStep session history (with_event history event)
