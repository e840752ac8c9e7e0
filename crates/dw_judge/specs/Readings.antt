-- What is read off the sessions that are kept.
use Rattle.std.specs.Prelude.{ℕ, Bool, List, slice_get, Option, option_and_then, option_map}
use Rattle.dw_journal.specs.declared.Event.{Event}
use Rattle.dw_journal.specs.declared.Route.{Route}
use Rattle.dw_journal.specs.Routes.{is_open_on}
use Rattle.dw_judge.specs.declared.sessions.OpenOne.{OpenOne}
use Rattle.dw_judge.specs.declared.sessions.Session.{Session}

-- the snapshot of a session's open transaction, if one is open
abbrev pub snapshot_kept : Session → Option ℕ
snapshot_kept kept = option_map (λ (one : OpenOne). one.taken.snapshot) kept.transaction

-- the newest event of a session, by its place among all events
abbrev pub newest_kept : List Event → Session → Option Event
newest_kept events kept = option_and_then (slice_get events) kept.newest

-- whether it opened a statement on a route
abbrev pub is_kept_open_on : List Event → Route → Session → Bool
is_kept_open_on events route kept = is_open_on route (newest_kept events kept)
