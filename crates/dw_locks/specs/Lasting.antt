-- A state of locks as the events go on.
use Rattle.std.specs.Prelude.{◌∷◌}
use Rattle.dw_journal.specs.declared.Event.{Event}
use Rattle.dw_journal.specs.Locks.{LockState}

-- with one more event
abbrev pub after_event : LockState → Event → LockState
after_event state event = record { wants = state.wants; sessions = state.sessions; events = event ∷ state.events }
