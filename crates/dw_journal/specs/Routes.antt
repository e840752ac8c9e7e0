-- Where a statement is worked on: on the warehouse's own nodes, or on a scaling cluster. The rule is this project's
-- own, after the outline of Amazon Redshift's concurrency scaling.
use Rattle.std.specs.Prelude.{ℕ, Bool, true, false, ◌==◌, ◌&&◌, nat_le, nat_lt, nat_eq, if◌then◌else◌, List, [], ◌∷◌, length, Option, Some, None}
use Rattle.std.specs.List.{find, range_with_len, count_by}
use Rattle.dw_model.specs.declared.statements.Statement.{Statement}
use Rattle.dw_model.specs.declared.statements.Statement.TheVariants.{Select}
use Rattle.dw_journal.specs.declared.Event.{Event}
use Rattle.dw_journal.specs.declared.Event.TheVariants.{Opened, Refresh}
use Rattle.dw_journal.specs.declared.Route.{Route}
use Rattle.dw_journal.specs.declared.Route.TheVariants.{Main, Cluster}
use Rattle.dw_journal.specs.Worlds.{session_count}
use Rattle.dw_journal.specs.History.{History, newest_event}
use Rattle.dw_journal.specs.Transactions.{taken_of, written_in}

-- two routes are the same
abbrev pub same_route : Route → Route → Bool
same_route Main Main = true
same_route Main (Cluster b) = false
same_route (Cluster a) Main = false
same_route (Cluster a) (Cluster b) = a == b

-- whether a session's newest event opened a statement on this route
abbrev pub is_open_on : Route → Option Event → Bool
is_open_on route (Some (Opened session statement snapshot taken)) = same_route taken route
is_open_on route event = false

-- how many statements are open on a route
abbrev pub open_on : History → Route → ℕ
open_on history route =
    count_by (λ session. is_open_on route (newest_event session history.events)) (range_with_len 1 (session_count history.world))

-- the stamp of a cluster's newest refresh; a cluster without one isn't attached
abbrev pub refreshed : ℕ → List Event → Option ℕ
refreshed cluster [] = None
refreshed cluster (Refresh other stamp ∷ older) = if other == cluster then Some stamp else refreshed cluster older
refreshed cluster (event ∷ older) = refreshed cluster older

-- whether a cluster of this newest stamp shows the snapshot
abbrev pub shows : Option ℕ → ℕ → Bool
shows None snapshot = false
shows (Some stamp) snapshot = nat_le snapshot stamp

-- whether a cluster can take a statement of this snapshot: it shows the snapshot, and a slot is free
abbrev pub can_take : History → ℕ → ℕ → Bool
can_take history snapshot cluster =
    shows (refreshed cluster history.events) snapshot && nat_lt (open_on history (Cluster cluster)) history.shape.slots

abbrev pub is_select : Statement → Bool
is_select (Select query) = true
is_select statement = false

-- whether a session's transaction has written no object
abbrev pub has_written_none : History → ℕ → Bool
has_written_none history session = nat_eq (length (written_in (taken_of history session))) 0

-- whether a statement may leave the main nodes: a query, while all their slots are taken, of a transaction that has
-- written nothing
abbrev pub may_leave : History → ℕ → Statement → Bool
may_leave history session statement =
    is_select statement && nat_le history.shape.slots (open_on history Main) && has_written_none history session

abbrev pub cluster_or_main : Option ℕ → Route
cluster_or_main None = Main
cluster_or_main (Some cluster) = Cluster cluster

-- Where a session's statement of this snapshot is worked on: on the least cluster that can take it, where it may leave
-- the main nodes; else there.
abbrev pub route_of : History → ℕ → ℕ → Statement → Route
route_of history session snapshot statement =
    if may_leave history session statement
    then cluster_or_main (find (can_take history snapshot) (range_with_len 1 history.shape.clusters)) else Main
