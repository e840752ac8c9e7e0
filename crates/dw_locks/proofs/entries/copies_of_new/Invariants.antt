use Rattle.std.proofs.Common.{◌≡◌, take}
use Rattle.dw_locks.specs.LockTable.{not_held}
use Rattle.dw_locks.proofs.entries.copies_of_new.Given as goal

-- those so far are copied
abbrev pub invariant-loop-want : goal.invariant-loop-want
invariant-loop-want l = l.copies ≡ not_held l.held (take l.want-index l.wants)
