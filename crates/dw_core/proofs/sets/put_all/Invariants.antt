-- The objects that are left make the whole set of the list so far, which has room for them.
use Rattle.std.proofs.Common.{◌≡◌, ◌+◌, ◌≤◌, length}
use Rattle.std.specs.Vec.{vec_capacity, vec_len}
use Rattle.dw_model.specs.Objects.{with_objects, IsAscendingObjects}
use Rattle.dw_core.proofs.sets.put_all.Given as goal

abbrev pub invariant-loop-object : goal.invariant-loop-object
invariant-loop-object l = record {
  whole : with_objects l.left l.set.items ≡ with_objects l.fn.more l.initial.set.items;
  up : IsAscendingObjects l.set.items;
  room : vec_len l.set + length l.left ≤ vec_capacity l.set;
}

abbrev pub decreases-loop-object : goal.decreases-loop-object
decreases-loop-object l = length l.left
