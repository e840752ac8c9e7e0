use Rattle.std.proofs.Common.{◌-ℤ◌, to_z, of_z, arith}
use Rattle.std.specs.Int.{w128}
use Rattle.std.proofs.lemmas.Int.{ints, clamps}
use Rattle.dw_codec_plain.proofs.Forms.{le_from_test, gt_from_test}
use Rattle.dw_codec_plain.proofs.Signed.{sized}
use Rattle.dw_codec_plain.proofs.step.short_high.Goals as goal

pub returns-then-base-greatest : goal.returns-then-base-greatest
returns-then-base-greatest c =
    let size = sized c.args.width c.requires.width in
    omega (arith, ints, clamps, size.room, size.full, c.requires.base.least, c.requires.base.greatest, c.mark_size-half.ensures.greatest, c.mark_size-half.ensures.least, c.mark_size-half.ensures.value, c.greatest_number-greatest.ensures, le_from_test (to_z w128 (of_z w128 c.args.base)) (to_z w128 (of_z w128 (to_z w128 (of_z w128 c.greatest_number-greatest.result) -ℤ to_z w128 (of_z w128 c.mark_size-half.result)))) c.if-base-greatest.true)

pub returns-else-base-greatest : goal.returns-else-base-greatest
returns-else-base-greatest c =
    let size = sized c.args.width c.requires.width in
    omega (arith, ints, clamps, size.room, size.full, c.requires.base.least, c.requires.base.greatest, c.mark_size-half.ensures.greatest, c.mark_size-half.ensures.least, c.mark_size-half.ensures.value, c.greatest_number-greatest.ensures, gt_from_test (to_z w128 (of_z w128 c.args.base)) (to_z w128 (of_z w128 (to_z w128 (of_z w128 c.greatest_number-greatest.result) -ℤ to_z w128 (of_z w128 c.mark_size-half.result)))) c.if-base-greatest.false)
