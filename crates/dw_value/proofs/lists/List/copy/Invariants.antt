-- The copy holds the items that the loop has passed.
use Rattle.std.proofs.Common.{◌≡◌, take}
use Rattle.dw_value.proofs.lists.List.copy.Given as goal

abbrev pub invariant-loop-item : goal.invariant-loop-item
invariant-loop-item g l = l.copy ≡ take l.item-index l.item-items
