-- A tuple comes after those before it.
use Rattle.std.proofs.Common.{◌∙◌, ap}
use Rattle.dw_query.specs.Binding.{appended}
use Rattle.dw_query.specs.BindingRows.{a_tuple}
use Rattle.dw_bind_query.specs.Parts.{so_far}
use Rattle.dw_bind_query.proofs.Gathering.{parts-turn, parts-end, so-far-gives}
use Rattle.dw_bind_query.proofs.rows.bind_all.Goals as goal

pub loop-tuple-preserved : goal.loop-tuple-preserved
loop-tuple-preserved c =
    parts-turn (a_tuple c.args.wanted.now) c.args.tuples.now c.loop-tuple.tuple-index c.tuple-item.result _ _ _ c.loop-tuple-test.true c.tuple-item.is
    (c.in_ok-take_bound_tuple.ensures ∙ ap (λ tuple. appended (so_far c.loop-tuple.parts.made c.loop-tuple.parts.refusal) (a_tuple c.args.wanted.now tuple)) c.as_slice.ensures.items)
    c.loop-tuple.invariant

pub returns : goal.returns
returns c =
    rw c.finish.ensures (so-far-gives c.loop-tuple.parts.made c.loop-tuple.parts.refusal _
    (parts-end (a_tuple c.args.wanted.now) c.args.tuples.now c.loop-tuple.tuple-index _ _ c.loop-tuple-test.false c.loop-tuple.invariant))
