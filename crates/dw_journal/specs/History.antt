-- A journal in the making, and what its events say of each session. Events stand newest first in all these definitions,
-- so that one more event leaves what was said of the older ones as it is; a journal lists them oldest first.
use Rattle.std.specs.Prelude.{ℕ, Bool, true, false, ◌==◌, if◌then◌else◌, List, [], ◌∷◌, reverse, Option, Some, None}
use Rattle.dw_journal.specs.declared.Event.{Event}
use Rattle.dw_journal.specs.declared.Event.TheVariants.{Begin, Pass, Wait, Opened, Answer, Commit, Violation, Refuse, Rollback, VacuumBegin, VacuumSlice, VacuumEnd, Refresh, End}
use Rattle.dw_journal.specs.declared.Journal.{Journal}
use Rattle.dw_journal.specs.declared.Shape.{Shape}
use Rattle.dw_journal.specs.declared.World.{World}

-- what happened so far in a warehouse of this shape, beside this world; the newest event first
pub record History : Type 0 where
  pub shape : Shape
  pub world : World
  pub events : List Event

-- with one more event
abbrev pub with_event : History → Event → History
with_event history event = record history { events = event ∷ history.events }

-- a journal's events, newest first
abbrev pub events_of : Journal → List Event
events_of journal = reverse journal.events

-- a journal beside its world
abbrev pub history_of : World → Journal → History
history_of world journal = record { shape = journal.shape; world = world; events = events_of journal }

-- the session that an event is of; a cluster's refresh is of none
abbrev pub session_of : Event → Option ℕ
session_of (Begin session statement) = Some session
session_of (Pass session statement word) = Some session
session_of (Wait session statement holders) = Some session
session_of (Opened session statement snapshot route) = Some session
session_of (Answer session statement answer) = Some session
session_of (Commit session statement stamp low high) = Some session
session_of (Violation session statement low high object) = Some session
session_of (Refuse session statement refusal) = Some session
session_of (Rollback session statement) = Some session
session_of (VacuumBegin session statement table) = Some session
session_of (VacuumSlice session statement slice horizon) = Some session
session_of (VacuumEnd session statement) = Some session
session_of (Refresh cluster stamp) = None
session_of (End session) = Some session

abbrev pub is_session : ℕ → Option ℕ → Bool
is_session session None = false
is_session session (Some other) = other == session

-- whether an event is of a session
abbrev pub is_of : ℕ → Event → Bool
is_of session event = is_session session (session_of event)

-- a session's newest event
abbrev pub newest_event : ℕ → List Event → Option Event
newest_event session [] = None
newest_event session (event ∷ older) = if is_of session event then Some event else newest_event session older

-- the events up to a session's newest one
abbrev pub up_to_newest : ℕ → List Event → List Event
up_to_newest session [] = []
up_to_newest session (event ∷ older) = if is_of session event then event ∷ older else up_to_newest session older

-- whether it is the end of a script
abbrev pub is_end : Option Event → Bool
is_end None = false
is_end (Some (End session)) = true
is_end (Some event) = false

-- whether a session's script is at its end
abbrev pub has_ended : ℕ → List Event → Bool
has_ended session events = is_end (newest_event session events)

-- How many statements of its script a session has taken once it has this event, where it had taken so many before. A
-- statement that waits is still to be taken.
abbrev pub statements_after : Event → ℕ → ℕ
statements_after (Begin session statement) before = statement
statements_after (Pass session statement word) before = statement
statements_after (Wait session statement holders) before = before
statements_after (Opened session statement snapshot route) before = statement
statements_after (Answer session statement answer) before = statement
statements_after (Commit session statement stamp low high) before = statement
statements_after (Violation session statement low high object) before = statement
statements_after (Refuse session statement refusal) before = statement
statements_after (Rollback session statement) before = statement
statements_after (VacuumBegin session statement table) before = statement
statements_after (VacuumSlice session statement slice horizon) before = statement
statements_after (VacuumEnd session statement) before = statement
statements_after (Refresh cluster stamp) before = before
statements_after (End session) before = before

-- how many statements of its script a session has taken
abbrev pub statements_taken : ℕ → List Event → ℕ
statements_taken session [] = 0
statements_taken session (event ∷ older) =
    if is_of session event then statements_after event (statements_taken session older)
    else statements_taken session older
