use Rattle.std.proofs.Common.{◌≡◌, sym, ◌∙◌, arith}
use Rattle.dw_judge.proofs.SameAnswers.{take_both}
use Rattle.dw_judge.proofs.sames.are_same_rows.Goals as goal

pub loop-place-preserved : goal.loop-place-preserved
loop-place-preserved c =
    let x = c.index-a-place.result in
    let y = c.index-b-place.result in
    let same : x ≡ y = sym c.as_slice.ensures.items ∙ c.are_same_fields.ensures.0 c.if-not-are_same_fields.false ∙ c.as_slice-in-loop-place.ensures.items in (
      take_both c.args.a.now c.args.b.now c.loop-place.place x y c.index-a-place.is c.index-b-place.is (omega arith) (omega (arith, c.loop-place.invariant.1)) same c.loop-place.invariant.0,
      c.loop-place.invariant.1,
    )
