-- A row comes after those before it, for each place that both lists have.
use Rattle.std.proofs.Common.{◌≡◌, ◌+◌, ◌<◌, ◌≤◌, List, length, min, ap, sym, subst, ◌∙◌, arith}
use Rattle.dw_value.specs.declared.values.Value.{Value}
use Rattle.dw_expr.specs.BoundTree.{BoundTree}
use Rattle.dw_value.specs.declared.values.Row.{Row}
use Rattle.dw_query.specs.Filling.{filled_tuple, filled_row}
use Rattle.dw_query.specs.Outcomes.{Gives}
use Rattle.dw_query.proofs.Joining.{zip-turn, zip-end, came-to-gives}
use Rattle.dw_query.proofs.filling.filled_tuples.Goals as goal

pub loop-place-preserved : goal.loop-place-preserved
loop-place-preserved c =
    let within_x : c.loop-place.place < length c.args.tuples.now = omega (arith, c.min-count.ensures, c.loop-place-test.true) in
    let within_y : c.loop-place.place < length c.args.rows.now = omega (arith, c.min-count.ensures, c.loop-place-test.true) in
    let gives : Gives (filled_row c.args.targets.now c.index-tuples-place.result c.index-rows-place.result.values c.args.defaults.now) c.filled_row.result =
    subst (λ (tuple : List BoundTree). Gives (filled_row c.args.targets.now tuple c.index-rows-place.result.values c.args.defaults.now) c.filled_row.result) c.as_slice-tuple.ensures.items
    (subst (λ (new : List Value). Gives (filled_row c.args.targets.now c.as_slice-tuple.result.now new c.args.defaults.now) c.filled_row.result) (c.as_slice-values.ensures.items ∙ sym (ap (λ (row : Row). row.values) c.index-rows-place.is)) c.filled_row.ensures) in
    zip-turn (filled_tuple c.args.targets.now c.args.defaults.now) c.args.tuples.now c.args.rows.now c.loop-place.place c.index-tuples-place.result c.index-rows-place.result _ _ _ within_x within_y c.index-tuples-place.is c.index-rows-place.is (c.in_ok-take_row.ensures _ gives) c.loop-place.invariant

pub returns : goal.returns
returns c =
    let past : min (length c.args.tuples.now) (length c.args.rows.now) ≤ c.loop-place.place = omega (arith, c.min-count.ensures, c.loop-place-test.false) in
    rw c.finish.ensures (came-to-gives c.loop-place.filled.made c.loop-place.filled.least _ (zip-end (filled_tuple c.args.targets.now c.args.defaults.now) c.args.tuples.now c.args.rows.now c.loop-place.place _ _ past c.loop-place.invariant))
