-- The table of locks: an entry for each session, the background worker's first. It says who stands in whose way, for
-- whom each session waits, and which cycle a session would close, in the words that say it of the events of a journal.
use Rattle.std.specs.Prelude.{◌≡◌, ℕ, suc, Bool, true, false, not, ◌==◌, ◌&&◌, if◌then◌else◌, List, [], ◌++◌, length, get_or, Option, Some, None}
use Rattle.std.specs.List.{filter, find, list_any, range_with_len}
use Rattle.dw_model.specs.Binding.{same_name}
use Rattle.dw_journal.specs.declared.locks.Mode.{Mode}
use Rattle.dw_journal.specs.declared.locks.Mode.TheVariants.{AccessShare, ShareRowExclusive, AccessExclusive}
use Rattle.dw_journal.specs.declared.locks.Want.{Want}
use Rattle.dw_journal.specs.declared.Event.{Event}
use Rattle.dw_journal.specs.declared.Event.TheVariants.{Wait}
use Rattle.dw_journal.specs.History.{newest_event}
use Rattle.dw_journal.specs.Locks.{LockState, stands_in_way, held_locks, first_cycle}

-- the locks that a session holds, in the order of granting, and those that it waits for
pub record Standing : Type 0 where
  pub held : List Want
  pub waits : Option (List Want)

-- the same, and what it was before the last granted request, where that was the last thing that changed it
pub record LockEntry : Type 0 where
  pub held : List Want
  pub waits : Option (List Want)
  pub before : Option Standing

abbrev pub LockTable : Type 0
LockTable = List LockEntry

-- a session that holds nothing and waits for nothing
abbrev pub free_entry : LockEntry
free_entry = record { held = []; waits = None; before = None }

abbrev pub entry_of : LockTable → ℕ → LockEntry
entry_of table session = get_or table session free_entry

-- an entry has a lock that stands in the way of one of these
abbrev pub holds_against : List Want → LockEntry → Bool
holds_against asked entry = list_any (λ lock. list_any (stands_in_way lock) asked) entry.held

-- another session than this one holds a lock in the way of these
abbrev pub is_blocker : LockTable → ℕ → List Want → ℕ → Bool
is_blocker table session asked other = not (other == session) && holds_against asked (entry_of table other)

-- the sessions that do, in ascending order
abbrev pub table_blockers : LockTable → ℕ → List Want → List ℕ
table_blockers table session asked = filter (is_blocker table session asked) (range_with_len 0 (length table))

abbrev pub blockers_of : LockTable → ℕ → Option (List Want) → List ℕ
blockers_of table session None = []
blockers_of table session (Some asked) = table_blockers table session asked

-- for whom a session waits: for those that block what it waits for
abbrev pub table_waits_for : LockTable → ℕ → List ℕ
table_waits_for table session = blockers_of table session (entry_of table session).waits

-- for whom each session would wait, if this one asked for these locks
abbrev pub table_would_wait_for : LockTable → ℕ → List Want → ℕ → List ℕ
table_would_wait_for table session asked other =
    if other == session then table_blockers table session asked else table_waits_for table other

-- the cycle that a session would close by asking for these locks
abbrev pub table_cycle : LockTable → ℕ → List Want → Option (List ℕ)
table_cycle table session asked =
    first_cycle (table_would_wait_for table session asked) session (range_with_len 0 (length table))

abbrev pub is_exclusive : Mode → Bool
is_exclusive AccessExclusive = true
is_exclusive mode = false

-- an entry has the table of this name in AccessExclusive
abbrev pub holds_exclusively : List ℕ → LockEntry → Bool
holds_exclusively name entry = list_any (λ lock. same_name lock.table name && is_exclusive lock.mode) entry.held

-- the least session that holds a table in AccessExclusive
abbrev pub exclusive_holder : LockTable → List ℕ → Option ℕ
exclusive_holder table name =
    find (λ session. holds_exclusively name (entry_of table session)) (range_with_len 0 (length table))

abbrev pub same_mode : Mode → Mode → Bool
same_mode AccessShare AccessShare = true
same_mode ShareRowExclusive ShareRowExclusive = true
same_mode AccessExclusive AccessExclusive = true
same_mode a b = false

abbrev pub same_lock : Want → Want → Bool
same_lock a b = same_name a.table b.table && same_mode a.mode b.mode

-- those of these locks that aren't held yet
abbrev pub not_held : List Want → List Want → List Want
not_held held wants = filter (λ want. not (list_any (same_lock want) held)) wants

-- what an entry is once these locks are granted, once it waits for them, and once its last grant is withdrawn
abbrev pub granted : List Want → LockEntry → LockEntry
granted wants entry = record {
  held = entry.held ++ not_held entry.held wants;
  waits = None;
  before = Some (record { held = entry.held; waits = entry.waits });
}

abbrev pub waiting : List Want → LockEntry → LockEntry
waiting wants entry = record { held = entry.held; waits = Some wants; before = None }

abbrev pub stands_again : LockEntry → Option Standing → LockEntry
stands_again entry None = entry
stands_again entry (Some standing) = record { held = standing.held; waits = standing.waits; before = None }

abbrev pub withdrawn : LockEntry → LockEntry
withdrawn entry = stands_again entry entry.before

-- the locks that a session waits for, by its newest event
abbrev pub wants_waited : LockState → ℕ → Option Event → Option (List Want)
wants_waited state session (Some (Wait other statement holders)) = Some (state.wants session statement)
wants_waited state session event = None

-- the same locks stand in two lists, in whatever order and however often: what one of these is, one of those is too
abbrev pub HaveSame : List Want → List Want → Type 0
HaveSame these those = (test : Want → Bool) → list_any test these ≡ list_any test those

-- A table stands for a state of locks: each session, and the background worker, holds the locks that the events say,
-- and waits for the locks of the statement of its newest event where that is a wait.
pub record StandsForLocks (table : LockTable) (state : LockState) : Type 0 where
  pub counted : length table ≡ suc state.sessions
  pub held : (session : ℕ) → HaveSame (entry_of table session).held (held_locks state session)
  pub waits : (session : ℕ) →
      (entry_of table session).waits ≡ wants_waited state session (newest_event session state.events)
