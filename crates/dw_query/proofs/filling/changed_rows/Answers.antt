-- A row comes after those before it, for each place that both lists have.
use Rattle.std.proofs.Common.{◌≡◌, ◌+◌, ◌<◌, ◌≤◌, List, length, min, ap, sym, subst, ◌∙◌, arith}
use Rattle.dw_value.specs.declared.values.Value.{Value}
use Rattle.dw_value.specs.declared.values.Row.{Row}
use Rattle.dw_query.specs.Filling.{changed_row, filled_row}
use Rattle.dw_query.specs.Outcomes.{Gives}
use Rattle.dw_query.proofs.Joining.{zip-turn, zip-end, came-to-gives}
use Rattle.dw_query.proofs.filling.changed_rows.Goals as goal

pub loop-place-preserved : goal.loop-place-preserved
loop-place-preserved c =
    let within_x : c.loop-place.place < length c.args.rows.now = omega (arith, c.min-count.ensures, c.loop-place-test.true) in
    let within_y : c.loop-place.place < length c.args.values.now = omega (arith, c.min-count.ensures, c.loop-place-test.true) in
    let gives : Gives (filled_row c.args.targets.now c.args.sets.now c.index-values-place.result.values c.index-rows-place.result.values) c.filled_row.result =
    subst (λ (new : List Value). Gives (filled_row c.args.targets.now c.args.sets.now new c.index-rows-place.result.values) c.filled_row.result) (c.as_slice-new.ensures.items ∙ sym (ap (λ (row : Row). row.values) c.index-values-place.is))
    (subst (λ (old : List Value). Gives (filled_row c.args.targets.now c.args.sets.now c.as_slice-new.result.now old) c.filled_row.result) (c.as_slice-others.ensures.items ∙ sym (ap (λ (row : Row). row.values) c.index-rows-place.is)) c.filled_row.ensures) in
    zip-turn (changed_row c.args.targets.now c.args.sets.now) c.args.rows.now c.args.values.now c.loop-place.place c.index-rows-place.result c.index-values-place.result _ _ _ within_x within_y c.index-rows-place.is c.index-values-place.is (c.in_ok-take_row.ensures _ gives) c.loop-place.invariant

pub returns : goal.returns
returns c =
    let past : min (length c.args.rows.now) (length c.args.values.now) ≤ c.loop-place.place = omega (arith, c.min-count.ensures, c.loop-place-test.false) in
    rw c.finish.ensures (came-to-gives c.loop-place.changed.made c.loop-place.changed.least _ (zip-end (changed_row c.args.targets.now c.args.sets.now) c.args.rows.now c.args.values.now c.loop-place.place _ _ past c.loop-place.invariant))
