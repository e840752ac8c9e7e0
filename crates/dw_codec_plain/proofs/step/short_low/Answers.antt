use Rattle.std.proofs.Common.{◌+ℤ◌, to_z, of_z, arith}
use Rattle.std.specs.Int.{w128}
use Rattle.std.proofs.lemmas.Int.{ints, clamps}
use Rattle.dw_codec_plain.proofs.Forms.{le_from_test, gt_from_test}
use Rattle.dw_codec_plain.proofs.Signed.{sized}
use Rattle.dw_codec_plain.proofs.step.short_low.Goals as goal

pub returns-then-least-half : goal.returns-then-least-half
returns-then-least-half c =
    let size = sized c.args.width c.requires.width in
    omega (arith, ints, clamps, size.room, size.full, c.requires.base.least, c.requires.base.greatest, c.mark_size-half.ensures.greatest, c.mark_size-half.ensures.least, c.mark_size-half.ensures.value, c.least_number-least.ensures, le_from_test (to_z w128 (of_z w128 (to_z w128 (of_z w128 c.least_number-least.result) +ℤ to_z w128 (of_z w128 c.mark_size-half.result)))) (to_z w128 (of_z w128 c.args.base)) c.if-least-half.true)

pub returns-else-least-half : goal.returns-else-least-half
returns-else-least-half c =
    let size = sized c.args.width c.requires.width in
    omega (arith, ints, clamps, size.room, size.full, c.requires.base.least, c.requires.base.greatest, c.mark_size-half.ensures.greatest, c.mark_size-half.ensures.least, c.mark_size-half.ensures.value, c.least_number-least.ensures, gt_from_test (to_z w128 (of_z w128 (to_z w128 (of_z w128 c.least_number-least.result) +ℤ to_z w128 (of_z w128 c.mark_size-half.result)))) (to_z w128 (of_z w128 c.args.base)) c.if-least-half.false)
