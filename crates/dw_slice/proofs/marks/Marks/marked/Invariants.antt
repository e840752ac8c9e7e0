-- The marks so far, with the deletions.
use Rattle.std.proofs.Common.{◌≡◌, take, map}
use Rattle.dw_slice.specs.Marks.{marked_mark}
use Rattle.dw_slice.proofs.marks.Marks.marked.Given as goal

abbrev pub invariant-loop-item : goal.invariant-loop-item
invariant-loop-item l = l.items.items ≡ map (marked_mark l.fn.stamp l.gone) (take l.item-index l.item-items)
