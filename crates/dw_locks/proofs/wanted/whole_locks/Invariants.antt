-- The locks of the tables so far are in the list.
use Rattle.std.proofs.Common.{◌≡◌, map, take}
use Rattle.dw_journal.specs.Locks.{whole_lock}
use Rattle.dw_locks.proofs.wanted.whole_locks.Given as goal

abbrev pub invariant-loop-table : goal.invariant-loop-table
invariant-loop-table l = l.wants ≡ map whole_lock (take l.table-index l.tables)
