use Rattle.std.proofs.Common.{◌≡◌, ℤ, pos, ◌-◌, None, to_z, of_z, arith, sym, ap, ◌∙◌, subst}
use Rattle.std.specs.Int.{w128}
use Rattle.std.proofs.lemmas.Int.{ints}
use Rattle.dw_codec_plain.specs.Numbers.{half, FitsWidth, IsNumberWithin}
use Rattle.dw_codec_plain.specs.Encodings.{near_item}
use Rattle.dw_codec_plain.specs.Spelling.{IsItem, IsLongestFront}
use Rattle.dw_codec_plain.proofs.Forms.{mark, mark_fits, width_of_step}
use Rattle.dw_codec_plain.proofs.Signed.{sized, wide, from_bit, same_bits}
use Rattle.dw_codec_delta.specs.Delta.{delta_item}
use Rattle.dw_codec_delta.proofs.DeltaItems.{near_front, first_front}
use Rattle.dw_codec_delta.proofs.item.item_front.Goals as goal

pub returns-in-Some : goal.returns-in-Some
returns-in-Some c =
    let is = width_of_step c.args.step c.requires.step in
    let base : ℤ = c.in-Some.base in
    let fits : FitsWidth c.args.width base = c.requires.before base c.in-Some.is in
    let front : IsLongestFront (IsItem (near_item c.args.width c.args.step base) (FitsWidth c.args.width) None) c.args.bytes.now c.short_or_full_front.result =
    from_bit (λ b. IsLongestFront (IsItem (near_item c.args.width c.args.step b) (FitsWidth c.args.width) None) c.args.bytes.now c.short_or_full_front.result) base
    (wide c.args.width c.requires.width base fits) c.short_or_full_front.ensures in
    subst (λ o. IsLongestFront (IsItem (delta_item c.args.width c.args.step) (FitsWidth c.args.width) o) c.args.bytes.now c.short_or_full_front.result) (sym c.in-Some.is)
    (near_front c.args.width c.args.step c.requires.width is base c.args.bytes.now c.short_or_full_front.result front)

pub returns-in-None : goal.returns-in-None
returns-in-None c =
    let is = width_of_step c.args.step c.requires.step in
    let size = sized c.args.width c.requires.width in
    let least : to_z w128 (of_z w128 c.least_number.result) ≡ mark c.args.width =
    ap (λ (z : ℤ). to_z w128 (of_z w128 z)) c.least_number.ensures ∙ same_bits c.args.width c.requires.width (mark c.args.width) (mark_fits c.args.width c.requires.width) in
    let greatest : to_z w128 (of_z w128 c.greatest_number.result) ≡ pos (half c.args.width - 1) = omega (arith, ints, size.room, size.full, c.greatest_number.ensures) in
    let front : IsLongestFront (IsNumberWithin c.args.width (mark c.args.width) (pos (half c.args.width - 1))) c.args.bytes.now c.longest_front.result =
    subst (λ h. IsLongestFront (IsNumberWithin c.args.width (mark c.args.width) h) c.args.bytes.now c.longest_front.result) greatest
    (subst (λ l. IsLongestFront (IsNumberWithin c.args.width l (to_z w128 (of_z w128 c.greatest_number.result))) c.args.bytes.now c.longest_front.result) least c.longest_front.ensures) in
    subst (λ o. IsLongestFront (IsItem (delta_item c.args.width c.args.step) (FitsWidth c.args.width) o) c.args.bytes.now c.longest_front.result) (sym c.in-None.is)
    (first_front c.args.width c.args.step c.requires.width is c.args.bytes.now c.longest_front.result front)
