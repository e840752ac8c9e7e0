use Rattle.std.proofs.Common.{◌*◌, ◌<◌, ◌++◌, ◌∷◌, [], length, ap, sym, ◌∙◌, arith, rules}
use Rattle.std.proofs.lemmas.List.{take_more_set}
use Rattle.std.proofs.lemmas.List.FromFn.{map-range_with_len_more}
use Rattle.dw_dist.proofs.places.Places.first_of_each.Goals as goal

-- one more node has its first slice
pub loop-node-preserved : goal.loop-node-preserved
loop-node-preserved c =
    let node = c.loop-node.node in
    let slice = node * c.args.slices in
    let among : node < length c.loop-node.firsts = omega (arith, c.loop-node.invariant.long, c.loop-node-test.true, c.requires.nodes) in
    record {
      so_far = take_more_set c.loop-node.firsts node slice among ∙ ap (λ front. front ++ slice ∷ []) c.loop-node.invariant.so_far
          ∙ sym (map-range_with_len_more (λ node. node * c.args.slices) 0 node node (omega arith));
      long = search rules;
    }
