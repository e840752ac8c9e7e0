use Rattle.std.proofs.Common.{◌≡◌, ℤ, pos, ◌+ℤ◌, ◌-ℤ◌, to_z, of_z, arith, ap, ◌∙◌, subst}
use Rattle.std.specs.Int.{w128}
use Rattle.std.proofs.lemmas.Int.{ints}
use Rattle.dw_codec_plain.specs.Numbers.{half}
use Rattle.dw_codec_plain.specs.Encodings.{IsMarkedWithin}
use Rattle.dw_codec_plain.specs.Spelling.{IsLongestFront}
use Rattle.dw_codec_plain.proofs.Forms.{mark, mark_fits, le_from_test, gt_from_test}
use Rattle.dw_codec_plain.proofs.FormFronts.{some_front, no_front}
use Rattle.dw_codec_plain.proofs.Signed.{sized, same_bits}
use Rattle.dw_codec_plain.proofs.step.below_front.Goals as goal

pub marked_front-requires-clause-order : goal.marked_front-requires-clause-order
marked_front-requires-clause-order c =
    let size = sized c.args.width c.requires.width in
    omega (arith, ints, size.room, size.full, c.requires.base.least, c.requires.base.greatest, c.mark_size-half.ensures.greatest, c.mark_size-half.ensures.least, c.least_number-least.ensures, le_from_test (to_z w128 (of_z w128 (to_z w128 (of_z w128 c.least_number-least.result) +ℤ to_z w128 (of_z w128 c.mark_size-half.result)))) (to_z w128 (of_z w128 c.args.base)) c.if-least-half.true)

pub returns-then-least-half : goal.returns-then-least-half
returns-then-least-half c =
    let size = sized c.args.width c.requires.width in
    let least : to_z w128 (of_z w128 c.least_number-least.result) ≡ mark c.args.width =
    ap (λ (z : ℤ). to_z w128 (of_z w128 z)) c.least_number-least.ensures ∙ same_bits c.args.width c.requires.width (mark c.args.width) (mark_fits c.args.width c.requires.width) in
    let high : ℤ = to_z w128 (of_z w128 (to_z w128 (of_z w128 c.args.base) -ℤ to_z w128 (of_z w128 c.mark_size-half.result))) in
    let greatest : high ≡ c.args.base -ℤ pos (half c.args.step) =
    omega (arith, ints, size.room, size.full, c.requires.base.least, c.requires.base.greatest, c.mark_size-half.ensures.value, c.mark_size-half.ensures.greatest, c.mark_size-half.ensures.least, c.least_number-least.ensures, le_from_test (to_z w128 (of_z w128 (to_z w128 (of_z w128 c.least_number-least.result) +ℤ to_z w128 (of_z w128 c.mark_size-half.result)))) (to_z w128 (of_z w128 c.args.base)) c.if-least-half.true) in
    some_front (IsMarkedWithin c.args.width c.args.step (mark c.args.width) (c.args.base -ℤ pos (half c.args.step))) c.args.bytes.now c.marked_front.result
    (subst (λ h. IsLongestFront (IsMarkedWithin c.args.width c.args.step (mark c.args.width) h) c.args.bytes.now c.marked_front.result) greatest
    (subst (λ l. IsLongestFront (IsMarkedWithin c.args.width c.args.step l high) c.args.bytes.now c.marked_front.result) least c.marked_front.ensures))

pub returns-else-least-half : goal.returns-else-least-half
returns-else-least-half c =
    let size = sized c.args.width c.requires.width in
    no_front (IsMarkedWithin c.args.width c.args.step (mark c.args.width) (c.args.base -ℤ pos (half c.args.step))) c.args.bytes.now
    (λ text m. omega (arith, ints, size.room, size.full, c.requires.base.least, c.requires.base.greatest, c.mark_size-half.ensures.value, c.mark_size-half.ensures.greatest, c.mark_size-half.ensures.least, c.least_number-least.ensures, gt_from_test (to_z w128 (of_z w128 (to_z w128 (of_z w128 c.least_number-least.result) +ℤ to_z w128 (of_z w128 c.mark_size-half.result)))) (to_z w128 (of_z w128 c.args.base)) c.if-least-half.false, m.least, m.greatest))
