use Rattle.std.proofs.Common.{◌≡◌, ℕ, max, ◌⊎◌, ℤ, pos, neg_ℤ, ◌+ℤ◌, ◌-ℤ◌, None, List, arith, subst, FitsSigned}
use Rattle.std.specs.Int.{w128, int_max, int_min}
use Rattle.std.proofs.lemmas.Int.{ints, clamps}
use Rattle.dw_codec_plain.specs.Numbers.{half, FitsWidth, IsNumberWithin}
use Rattle.dw_codec_plain.specs.Encodings.{near_item, IsShortForm, IsMarkedWithin}
use Rattle.dw_codec_plain.specs.Spelling.{IsItem, IsLongestFront, IsLongestFrontIfAny}
use Rattle.dw_codec_plain.proofs.Forms.{mark, width_of_step}
use Rattle.dw_codec_plain.proofs.FormFronts.{same_texts, either_front, to_short, from_short, IsForm, from_forms, to_forms}
use Rattle.dw_codec_plain.proofs.Signed.{sized, from_bit, from_bits}
use Rattle.dw_codec_plain.proofs.step.short_or_full_front.Goals as goal

pub longest_front-short-requires-clause-order : goal.longest_front-short-requires-clause-order
longest_front-short-requires-clause-order c =
    let size = sized c.args.width c.requires.width in
    let size' = sized c.args.step (width_of_step c.args.step c.requires.step) in
    omega (arith, ints, clamps, size.room, size.full, size'.room, size'.full, c.requires.base.least, c.requires.base.greatest, c.short_low-low.ensures, c.short_high-high.ensures)

pub returns : goal.returns
returns c =
    let w : ℕ = c.args.width in
    let s : ℕ = c.args.step in
    let base : ℤ = c.args.base in
    let bytes : List ℕ = c.args.bytes.now in
    let low : ℤ = c.short_low-low.result in
    let high : ℤ = c.short_high-high.result in
    let low_is : low ≡ int_max (pos 1 -ℤ pos (half s)) (neg_ℤ (pos (half w)) -ℤ base) =
    from_bit (λ b. low ≡ int_max (pos 1 -ℤ pos (half s)) (neg_ℤ (pos (half w)) -ℤ b)) base c.ranges.base c.short_low-low.ensures in
    let high_is : high ≡ int_min (pos (half s) -ℤ pos 1) ((pos (half w) -ℤ pos 1) -ℤ base) =
    from_bit (λ b. high ≡ int_min (pos (half s) -ℤ pos 1) ((pos (half w) -ℤ pos 1) -ℤ b)) base c.ranges.base c.short_high-high.ensures in
    let fits_low : FitsSigned w128 low = record { sfits = c.short_low-low.type_inv } in
    let fits_high : FitsSigned w128 high = record { sfits = c.short_high-high.type_inv } in
    let numbers : IsLongestFront (IsNumberWithin s low high) bytes c.longest_front-short.result =
    from_bits (λ l h. IsLongestFront (IsNumberWithin s l h) bytes c.longest_front-short.result) low high fits_low fits_high c.longest_front-short.ensures in
    let short : IsLongestFront (IsShortForm w s base) bytes c.longest_front-short.result =
    same_texts (IsNumberWithin s low high) (IsShortForm w s base) (to_short w s base low high low_is high_is) (from_short w s base low high low_is high_is) bytes c.longest_front-short.result numbers in
    let below : IsLongestFrontIfAny (IsMarkedWithin w s (mark w) (base -ℤ pos (half s))) bytes c.below_front-below.result =
    from_bit (λ b. IsLongestFrontIfAny (IsMarkedWithin w s (mark w) (b -ℤ pos (half s))) bytes c.below_front-below.result) base c.ranges.base c.below_front-below.ensures in
    let above : IsLongestFrontIfAny (IsMarkedWithin w s (base +ℤ pos (half s)) (pos (half w) -ℤ pos 1)) bytes c.above_front-above.result =
    from_bit (λ b. IsLongestFrontIfAny (IsMarkedWithin w s (b +ℤ pos (half s)) (pos (half w) -ℤ pos 1)) bytes c.above_front-above.result) base c.ranges.base c.above_front-above.ensures in
    let two = either_front (IsShortForm w s base) (IsMarkedWithin w s (mark w) (base -ℤ pos (half s))) bytes c.longest_front-short.result c.below_front-below.result short below in
    let three = either_front (λ text. IsShortForm w s base text ⊎ IsMarkedWithin w s (mark w) (base -ℤ pos (half s)) text) (IsMarkedWithin w s (base +ℤ pos (half s)) (pos (half w) -ℤ pos 1)) bytes
    (max c.longest_front-short.result c.below_front-below.result) c.above_front-above.result two above in
    let whole : IsLongestFront (IsItem (near_item w s base) (FitsWidth w) None) bytes (max (max c.longest_front-short.result c.below_front-below.result) c.above_front-above.result) =
    same_texts (IsForm w s base) (IsItem (near_item w s base) (FitsWidth w) None) (from_forms w s base c.requires.base) (to_forms w s base c.requires.base) bytes
    (max (max c.longest_front-short.result c.below_front-below.result) c.above_front-above.result) three in
    let e : max (max c.longest_front-short.result c.below_front-below.result) c.above_front-above.result ≡ c.max.result = omega (arith, c.max-longest.ensures, c.max.ensures) in
    subst (λ k. IsLongestFront (IsItem (near_item w s base) (FitsWidth w) None) bytes k) e whole
