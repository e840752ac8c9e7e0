use Rattle.std.proofs.Common.{◌≡◌, drop}
use Rattle.std.specs.List.{list_any}
use Rattle.dw_journal.specs.Locks.{stands_in_way}
use Rattle.dw_locks.proofs.entries.stands_in_any_way.Given as goal

-- it stands in the way of none so far
abbrev pub invariant-loop-wanted : goal.invariant-loop-wanted
invariant-loop-wanted l = list_any (stands_in_way l.held) l.wants ≡ list_any (stands_in_way l.held) (drop l.wanted-index l.wants)
