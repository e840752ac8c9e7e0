use Rattle.std.proofs.Common.{◌≡◌, ℤ, pos, ◌+ℤ◌, ◌-ℤ◌, to_z, of_z, arith, subst}
use Rattle.std.specs.Int.{w128}
use Rattle.std.proofs.lemmas.Int.{ints}
use Rattle.dw_codec_plain.specs.Numbers.{half}
use Rattle.dw_codec_plain.specs.Encodings.{IsMarkedWithin}
use Rattle.dw_codec_plain.specs.Spelling.{IsLongestFront}
use Rattle.dw_codec_plain.proofs.Forms.{le_from_test, gt_from_test}
use Rattle.dw_codec_plain.proofs.FormFronts.{some_front, no_front}
use Rattle.dw_codec_plain.proofs.Signed.{sized}
use Rattle.dw_codec_plain.proofs.step.above_front.Goals as goal

pub marked_front-requires-clause-order : goal.marked_front-requires-clause-order
marked_front-requires-clause-order c =
    let size = sized c.args.width c.requires.width in
    omega (arith, ints, size.room, size.full, c.requires.base.least, c.requires.base.greatest, c.mark_size-half.ensures.greatest, c.mark_size-half.ensures.least, c.greatest_number-greatest.ensures, le_from_test (to_z w128 (of_z w128 c.args.base)) (to_z w128 (of_z w128 (to_z w128 (of_z w128 c.greatest_number-greatest.result) -ℤ to_z w128 (of_z w128 c.mark_size-half.result)))) c.if-base-greatest.true)

pub returns-then-base-greatest : goal.returns-then-base-greatest
returns-then-base-greatest c =
    let size = sized c.args.width c.requires.width in
    let high : to_z w128 (of_z w128 c.greatest_number-greatest.result) ≡ pos (half c.args.width) -ℤ pos 1 =
    omega (arith, ints, size.room, size.full, c.greatest_number-greatest.ensures) in
    let low : ℤ = to_z w128 (of_z w128 (to_z w128 (of_z w128 c.args.base) +ℤ to_z w128 (of_z w128 c.mark_size-half.result))) in
    let least : low ≡ c.args.base +ℤ pos (half c.args.step) =
    omega (arith, ints, size.room, size.full, c.requires.base.least, c.requires.base.greatest, c.mark_size-half.ensures.value, c.mark_size-half.ensures.greatest, c.mark_size-half.ensures.least, c.greatest_number-greatest.ensures, le_from_test (to_z w128 (of_z w128 c.args.base)) (to_z w128 (of_z w128 (to_z w128 (of_z w128 c.greatest_number-greatest.result) -ℤ to_z w128 (of_z w128 c.mark_size-half.result)))) c.if-base-greatest.true) in
    some_front (IsMarkedWithin c.args.width c.args.step (c.args.base +ℤ pos (half c.args.step)) (pos (half c.args.width) -ℤ pos 1)) c.args.bytes.now c.marked_front.result
    (subst (λ h. IsLongestFront (IsMarkedWithin c.args.width c.args.step (c.args.base +ℤ pos (half c.args.step)) h) c.args.bytes.now c.marked_front.result) high
    (subst (λ l. IsLongestFront (IsMarkedWithin c.args.width c.args.step l (to_z w128 (of_z w128 c.greatest_number-greatest.result))) c.args.bytes.now c.marked_front.result) least c.marked_front.ensures))

pub returns-else-base-greatest : goal.returns-else-base-greatest
returns-else-base-greatest c =
    let size = sized c.args.width c.requires.width in
    no_front (IsMarkedWithin c.args.width c.args.step (c.args.base +ℤ pos (half c.args.step)) (pos (half c.args.width) -ℤ pos 1)) c.args.bytes.now
    (λ text m. omega (arith, ints, size.room, size.full, c.requires.base.least, c.requires.base.greatest, c.mark_size-half.ensures.value, c.mark_size-half.ensures.greatest, c.mark_size-half.ensures.least, c.greatest_number-greatest.ensures, gt_from_test (to_z w128 (of_z w128 c.args.base)) (to_z w128 (of_z w128 (to_z w128 (of_z w128 c.greatest_number-greatest.result) -ℤ to_z w128 (of_z w128 c.mark_size-half.result)))) c.if-base-greatest.false, m.least, m.greatest))
