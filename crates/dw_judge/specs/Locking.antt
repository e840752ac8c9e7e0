-- What an event that is right makes of the table of locks.
use Rattle.std.specs.Prelude.{◌≡◌, ℕ, ◌<◌, List, [], ◌∷◌, length, Option, Some, None}
use Rattle.std.specs.List.{slice_set}
use Rattle.dw_journal.specs.declared.Event.{Event}
use Rattle.dw_journal.specs.declared.Event.TheVariants.{Begin, Pass, Wait, Opened, Answer, Commit, Violation, Refuse, Rollback, VacuumBegin, VacuumSlice, VacuumEnd, Refresh, End}
use Rattle.dw_journal.specs.declared.World.{World}
use Rattle.dw_journal.specs.declared.locks.Want.{Want}
use Rattle.dw_journal.specs.Locks.{sweep_lock, wants_of}
use Rattle.dw_locks.specs.LockTable.{LockTable, entry_of, free_entry, granted, table_blockers, waiting}

-- a session holds these locks too, and waits no more
abbrev pub with_grant : ℕ → List Want → LockTable → LockTable
with_grant session wants table = slice_set table session (granted wants (entry_of table session))

abbrev pub with_wait : ℕ → List Want → LockTable → LockTable
with_wait session wants table = slice_set table session (waiting wants (entry_of table session))

abbrev pub with_release : ℕ → LockTable → LockTable
with_release session table = slice_set table session free_entry

-- An opening grants what its statement wants, and the begin of a vacuum the vacuum's lock; a wait asks for what its
-- statement wants; the ends of transactions and of vacuums release all locks; any other event of a session grants none.
abbrev pub locks_after : World → Event → LockTable → LockTable
locks_after world (Begin session statement) table = with_grant session [] table
locks_after world (Pass session statement word) table = with_grant session [] table
locks_after world (Wait session statement holders) table = with_wait session (wants_of world session statement) table
locks_after world (Opened session statement snapshot route) table =
    with_grant session (wants_of world session statement) table
locks_after world (Answer session statement answer) table = with_grant session [] table
locks_after world (Commit session statement stamp low high) table = with_release session table
locks_after world (Violation session statement low high object) table = with_release session table
locks_after world (Refuse session statement refusal) table = with_release session table
locks_after world (Rollback session statement) table = with_release session table
locks_after world (VacuumBegin session statement name) table = with_grant session (sweep_lock name ∷ []) table
locks_after world (VacuumSlice session statement slice horizon) table = with_grant session [] table
locks_after world (VacuumEnd session statement) table = with_release session table
locks_after world (Refresh cluster stamp) table = table
locks_after world (End session) table = with_release session table

-- nobody stands in the way of what the event grants
abbrev pub IsUnblocked : World → Event → LockTable → Type 0
IsUnblocked world (Opened session statement snapshot route) table =
    table_blockers table session (wants_of world session statement) ≡ []
IsUnblocked world (VacuumBegin session statement name) table = table_blockers table session (sweep_lock name ∷ []) ≡ []
IsUnblocked world event table = Unit {0}

-- the session has an entry, if there is one
abbrev pub HasEntry : Option ℕ → LockTable → Type 0
HasEntry None table = Unit {0}
HasEntry (Some session) table = session < length table
