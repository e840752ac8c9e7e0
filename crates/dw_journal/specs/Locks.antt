-- Locks of tables, after the table-level locks of the Amazon Redshift guide: what each statement wants, who holds them,
-- who waits for whom, and the cycle that a wait would close. A statement's locks are held from its opening to the end of
-- its transaction.
use Rattle.std.specs.Prelude.{ℕ, suc, zero, Bool, true, false, not, ◌==◌, ◌&&◌, if◌then◌else◌, List, [], ◌∷◌, ◌++◌, map, flat_map, Option, Some, None}
use Rattle.std.specs.List.{filter, list_any, find, range_with_len}
use Rattle.std.specs.Option.{option_or}
use Rattle.dw_model.specs.declared.statements.Statement.{Statement}
use Rattle.dw_model.specs.declared.statements.Statement.TheVariants.{Begin, Commit, Rollback, Vacuum, Create, Drop, Lock, Insert, Select}
use Rattle.dw_model.specs.Binding.{same_name}
use Rattle.dw_journal.specs.declared.locks.Mode.{Mode}
use Rattle.dw_journal.specs.declared.locks.Mode.TheVariants.{AccessShare, ShareRowExclusive, AccessExclusive}
use Rattle.dw_journal.specs.declared.locks.Want.{Want}
use Rattle.dw_journal.specs.declared.Event.{Event}
use Rattle.dw_journal.specs.declared.Event.TheVariants.{Wait}
use Rattle.dw_journal.specs.declared.World.{World}
use Rattle.dw_journal.specs.Worlds.{session_count, statement_at}
use Rattle.dw_journal.specs.History.{History, newest_event}
use Rattle.dw_journal.specs.Transactions.{opened_statements}
use Rattle.dw_journal.specs.Vacuums.{swept_by}

-- the locks that each statement of each session wants
abbrev pub Wants : Type 0
Wants = ℕ → ℕ → List Want

-- the lock of one who reads a table, and of a vacuum from its begin to its end
abbrev pub sweep_lock : List ℕ → Want
sweep_lock table = record { table = table; mode = AccessShare }

-- the lock of one who writes a table's rows, beside whom others read them
abbrev pub write_lock : List ℕ → Want
write_lock table = record { table = table; mode = ShareRowExclusive }

-- the lock of one who stands alone at a table
abbrev pub whole_lock : List ℕ → Want
whole_lock table = record { table = table; mode = AccessExclusive }

-- the locks that a statement wants, all together
abbrev pub wants_of_statement : Statement → List Want
wants_of_statement Begin = []
wants_of_statement Commit = []
wants_of_statement Rollback = []
wants_of_statement (Vacuum table) = sweep_lock table ∷ []
wants_of_statement (Create spec) = whole_lock spec.name ∷ []
wants_of_statement (Drop table) = whole_lock table ∷ []
wants_of_statement (Lock tables) = map whole_lock tables
wants_of_statement (Insert table columns rows) = write_lock table ∷ []
wants_of_statement (Select query) = sweep_lock query.table ∷ []

-- what isn't in the grammar wants none
abbrev pub wants_in : Option Statement → List Want
wants_in None = []
wants_in (Some statement) = wants_of_statement statement

abbrev pub wants_of : World → Wants
wants_of world session statement = wants_in (statement_at world session statement)

-- locks in these modes can't stand side by side
abbrev pub conflict : Mode → Mode → Bool
conflict AccessShare AccessShare = false
conflict AccessShare ShareRowExclusive = false
conflict AccessShare AccessExclusive = true
conflict ShareRowExclusive AccessShare = false
conflict ShareRowExclusive ShareRowExclusive = true
conflict ShareRowExclusive AccessExclusive = true
conflict AccessExclusive mode = true

-- a lock stands in the way of another: they are on the same table and conflict
abbrev pub stands_in_way : Want → Want → Bool
stands_in_way held want = same_name held.table want.table && conflict held.mode want.mode

abbrev pub sweep_locks : Option (List ℕ) → List Want
sweep_locks None = []
sweep_locks (Some table) = sweep_lock table ∷ []

-- what locks are judged by: the locks that statements want, the number of sessions beside the background worker, and
-- the events so far, newest first
pub record LockState : Type 0 where
  pub wants : Wants
  pub sessions : ℕ
  pub events : List Event

abbrev pub lock_state : History → LockState
lock_state history =
    record { wants = wants_of history.world; sessions = session_count history.world; events = history.events }

-- the locks that a session holds: those of the statements that its open transaction opened, and its vacuum's
abbrev pub held_locks : LockState → ℕ → List Want
held_locks state session =
    flat_map (state.wants session) (opened_statements session state.events) ++ sweep_locks (swept_by session state.events)

-- a session holds a lock that stands in the way of one of these
abbrev pub has_conflict : LockState → List Want → ℕ → Bool
has_conflict state asked session =
    list_any (λ lock. list_any (stands_in_way lock) asked) (held_locks state session)

-- the other sessions that hold locks in the way of these, among all and the background worker, in ascending order
abbrev pub blockers : LockState → ℕ → List Want → List ℕ
blockers state session asked =
    filter (λ other. not (other == session) && has_conflict state asked other) (range_with_len 0 (suc state.sessions))

-- for whom a session waits, by its newest event
abbrev pub waits_by : LockState → ℕ → Option Event → List ℕ
waits_by state session (Some (Wait other statement holders)) = blockers state session (state.wants session statement)
waits_by state session event = []

-- for whom a session waits: where its newest event is a wait, for those that block it now
abbrev pub waits_for : LockState → ℕ → List ℕ
waits_for state session = waits_by state session (newest_event session state.events)

-- for whom each session would wait, if this one asked for these locks
abbrev pub would_wait_for : LockState → ℕ → List Want → ℕ → List ℕ
would_wait_for state session asked other =
    if other == session then blockers state session asked else waits_for state other

-- the walks of so many steps from one session to the next that it waits for, in ascending order
abbrev pub walks : (ℕ → List ℕ) → ℕ → ℕ → List (List ℕ)
walks next zero session = (session ∷ []) ∷ []
walks next (suc steps) session = map (λ walk. session ∷ walk) (flat_map (walks next steps) (next session))

abbrev pub contains : List ℕ → ℕ → Bool
contains sessions session = list_any (λ other. other == session) sessions

-- no session stands twice
abbrev pub all_differ : List ℕ → Bool
all_differ [] = true
all_differ (session ∷ sessions) = not (contains sessions session) && all_differ sessions

-- the last of these waits for the session
abbrev pub last_waits_for : (ℕ → List ℕ) → ℕ → List ℕ → Bool
last_waits_for next session [] = false
last_waits_for next session (last ∷ []) = contains (next last) session
last_waits_for next session (first ∷ second ∷ rest) = last_waits_for next session (second ∷ rest)

-- a walk of different sessions closes a cycle where its last one waits for its first
abbrev pub closes : (ℕ → List ℕ) → ℕ → List ℕ → Bool
closes next session walk = all_differ walk && last_waits_for next session walk

-- the first cycle among the walks of these many steps
abbrev pub first_cycle : (ℕ → List ℕ) → ℕ → List ℕ → Option (List ℕ)
first_cycle next session [] = None
first_cycle next session (steps ∷ more) =
    option_or (find (closes next session) (walks next steps session)) (first_cycle next session more)

-- The cycle that a session would close by asking for these locks: different sessions, of which it is the first. Each
-- waits for the next and the last for the first. It is the shortest one, and of the shortest the least.
abbrev pub deadlock_cycle : LockState → ℕ → List Want → Option (List ℕ)
deadlock_cycle state session asked =
    first_cycle (would_wait_for state session asked) session (range_with_len 0 (suc state.sessions))
