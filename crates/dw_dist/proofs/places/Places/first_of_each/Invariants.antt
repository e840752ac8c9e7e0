use Rattle.std.proofs.Common.{◌≡◌, ◌*◌, map, take, length}
use Rattle.std.specs.List.{range_with_len}
use Rattle.dw_dist.proofs.places.Places.first_of_each.Given as goal

-- the nodes so far have their first slices
abbrev pub invariant-loop-node : goal.invariant-loop-node
invariant-loop-node l = record {
  so_far : take l.node l.firsts ≡ map (λ node. node * l.slices) (range_with_len 0 l.node);
  long : length l.firsts ≡ 16;
}
