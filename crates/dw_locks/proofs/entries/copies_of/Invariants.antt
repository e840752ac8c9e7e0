use Rattle.std.proofs.Common.{◌≡◌, take}
use Rattle.dw_locks.proofs.entries.copies_of.Given as goal

-- those so far are copied
abbrev pub invariant-loop-want : goal.invariant-loop-want
invariant-loop-want l = l.copies ≡ take l.want-index l.wants
