-- An expression comes after those before it.
use Rattle.std.proofs.Common.{◌∙◌, ap, [], false}
use Rattle.dw_expr.specs.Binding.{bound}
use Rattle.dw_query.specs.Binding.{appended, only_bound}
use Rattle.dw_bind_query.specs.Parts.{so_far}
use Rattle.dw_bind_query.proofs.Gathering.{values-turn}
use Rattle.dw_bind_query.proofs.rows.bind_values.Goals as goal

pub loop-place-preserved : goal.loop-place-preserved
loop-place-preserved c =
    values-turn c.args.wanted.now c.args.tuple.now c.loop-place.place c.index-tuple-place.result _ _ _ c.loop-place-test.true c.index-tuple-place.is
    (c.in_ok-take_value.ensures ∙ ap (λ one. appended (so_far c.loop-place.parts.made c.loop-place.parts.refusal) (only_bound (bound [] false one c.index-tuple-place.result))) c.wanted_at.ensures)
    c.loop-place.invariant
