-- What an event is judged by, read off what is kept: whether its numbers are the due ones, as tests, what a session
-- sees, and where a statement is worked on.
use Rattle.std.specs.Prelude.{ℕ, ◌+◌, Bool, true, ◌&&◌, nat_eq, nat_le, nat_lt, if◌then◌else◌, List, length, Option, Some, None}
use Rattle.std.specs.List.{count_by, find, range_with_len}
use Rattle.dw_model.specs.declared.statements.Statement.{Statement}
use Rattle.dw_model.specs.Databases.{Tables}
use Rattle.dw_journal.specs.declared.Event.{Event}
use Rattle.dw_journal.specs.declared.Route.{Route}
use Rattle.dw_journal.specs.declared.Route.TheVariants.{Main, Cluster}
use Rattle.dw_journal.specs.declared.Shape.{Shape}
use Rattle.dw_journal.specs.Routes.{cluster_or_main, is_select, shows}
use Rattle.dw_judge.specs.declared.sessions.OpenOne.{OpenOne}
use Rattle.dw_judge.specs.declared.sessions.Session.{Session}
use Rattle.dw_judge.specs.Readings.{is_kept_open_on}
use Rattle.dw_judge.specs.Summaries.{stamp_kept}

-- the numbers of a commit with these watermarks, after so many
abbrev pub are_marks : ℕ → ℕ → ℕ → ℕ → ℕ → ℕ → Bool
are_marks count due_low due_high stamp low high =
    ((nat_eq stamp (count + 1) && nat_eq low due_low) && nat_eq high due_high) && nat_lt high low

-- those of a violation with these watermarks, whose object is named or not
abbrev pub are_violating : ℕ → ℕ → ℕ → ℕ → Bool → Bool
are_violating due_low due_high low high named =
    ((nat_eq low due_low && nat_eq high due_high) && nat_le low high) && named

-- those of a refresh, of so many clusters and after so many commits
abbrev pub is_refresh_of : ℕ → ℕ → ℕ → ℕ → Bool
is_refresh_of clusters count cluster stamp = (nat_le 1 cluster && nat_le cluster clusters) && nat_eq stamp count

-- what a session sees: its view, or the committed database
abbrev pub seen_in : Tables → Option OpenOne → Tables
seen_in database None = database
seen_in database (Some one) = one.view.database

-- the snapshot of a statement that is opened next, after so many commits
abbrev pub snapshot_due_in : ℕ → Option OpenOne → ℕ
snapshot_due_in commits None = commits
snapshot_due_in commits (Some one) = one.taken.snapshot

-- whether the transaction has written nothing
abbrev pub written_none_in : Option OpenOne → Bool
written_none_in None = true
written_none_in (Some one) = nat_eq (length one.taken.writes) 0

-- whether a statement may leave the main nodes, on which so many are open
abbrev pub leaves_kept : Statement → ℕ → ℕ → Option OpenOne → Bool
leaves_kept statement slots open_main transaction =
    (is_select statement && nat_le slots open_main) && written_none_in transaction

-- whether a cluster can take a statement of this snapshot
abbrev pub takes_kept : List Event → List Session → List (Option ℕ) → ℕ → ℕ → ℕ → Bool
takes_kept events sessions stamps slots snapshot cluster =
    shows (stamp_kept stamps cluster) snapshot
    && nat_lt (count_by (is_kept_open_on events (Cluster cluster)) sessions) slots

-- where a statement of this snapshot is worked on, by the sessions with a script
abbrev pub route_kept : List Event → Shape → List Session → List (Option ℕ) → Option OpenOne → ℕ → Statement → Route
route_kept events shape sessions stamps transaction snapshot statement =
    if leaves_kept statement shape.slots (count_by (is_kept_open_on events Main) sessions) transaction
    then cluster_or_main
    (find (takes_kept events sessions stamps shape.slots snapshot) (range_with_len 1 shape.clusters)) else Main
