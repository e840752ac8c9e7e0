use Rattle.std.proofs.Common.{◌≡◌}
use Rattle.std.specs.Prelude.{replicate}
use Rattle.dw_locks.specs.LockTable.{free_entry}
use Rattle.dw_locks.proofs.locks.Locks.new.Given as goal

-- so many entries, all of them free
abbrev pub invariant-loop : goal.invariant-loop
invariant-loop l = l.entries.items ≡ replicate l.counter free_entry
