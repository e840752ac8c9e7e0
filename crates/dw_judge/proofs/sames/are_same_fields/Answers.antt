use Rattle.std.proofs.Common.{◌≡◌, sym, ◌∙◌, arith}
use Rattle.dw_judge.proofs.SameAnswers.{field-decides, take_both}
use Rattle.dw_judge.proofs.sames.are_same_fields.Goals as goal

pub loop-place-preserved : goal.loop-place-preserved
loop-place-preserved c =
    let x = c.index-a-place.result in
    let y = c.index-b-place.result in
    let same : x ≡ y = (field-decides x y).0 (sym c.is_same_field.ensures ∙ c.if-not-is_same_field.false) in (
      take_both c.args.a.now c.args.b.now c.loop-place.place x y c.index-a-place.is c.index-b-place.is (omega arith) (omega (arith, c.loop-place.invariant.1)) same c.loop-place.invariant.0,
      c.loop-place.invariant.1,
    )
