use Rattle.std.proofs.Common.{◌≡◌, ◌≤◌, ◌<◌, ◌-◌, ◌+ℤ◌, ℤ, pos, neg_ℤ, to_z, of_z, arith, ap, ◌∙◌, take}
use Rattle.std.specs.Int.{w128}
use Rattle.std.proofs.lemmas.Int.{ints}
use Rattle.dw_codec_plain.specs.Numbers.{half, natural_of}
use Rattle.dw_codec_plain.proofs.Signed.{sized, number_low, number_high, worth_below}
use Rattle.dw_codec_plain.proofs.numbers.number_at.Goals as goal

pub overflow_cast-result-else-unsigned-half : goal.overflow_cast-result-else-unsigned-half
overflow_cast-result-else-unsigned-half c =
    let below = worth_below c.args.width c.requires.width c.args.bytes.now (λ i. omega (arith, c.type_inv.bytes i)) c.requires.enough in
    let worth : c.natural-unsigned.result ≡ natural_of (take c.args.width c.args.bytes.now) =
    c.natural-unsigned.ensures ∙ ap (λ w. natural_of (take w c.args.bytes.now)) c.from.ensures in
    let size = sized c.args.width c.requires.width in
    grind (arith, ints, size.room, size.twice, below)

pub overflow_add-result : goal.overflow_add-result
overflow_add-result c =
    let below = worth_below c.args.width c.requires.width c.args.bytes.now (λ i. omega (arith, c.type_inv.bytes i)) c.requires.enough in
    let worth : c.natural-unsigned.result ≡ natural_of (take c.args.width c.args.bytes.now) =
    c.natural-unsigned.ensures ∙ ap (λ w. natural_of (take w c.args.bytes.now)) c.from.ensures in
    let size = sized c.args.width c.requires.width in
    grind (arith, ints, size.room, size.twice, below)

pub returns-then-unsigned-half-clause-spells : goal.returns-then-unsigned-half-clause-spells
returns-then-unsigned-half-clause-spells c =
    let worth : c.natural-unsigned.result ≡ natural_of (take c.args.width c.args.bytes.now) =
    c.natural-unsigned.ensures ∙ ap (λ w. natural_of (take w c.args.bytes.now)) c.from.ensures in
    let size = sized c.args.width c.requires.width in
    let low : c.natural-unsigned.result < half c.args.width = omega (arith, c.half_range-half.ensures.value) in
    let same : to_z w128 c.natural-unsigned.result ≡ pos c.natural-unsigned.result = omega (arith, ints, size.room) in
    rw same (number_low c.args.width c.requires.width c.args.bytes.now (λ i. omega (arith, c.type_inv.bytes i)) c.requires.enough c.natural-unsigned.result worth low)

pub returns-else-unsigned-half : goal.returns-else-unsigned-half
returns-else-unsigned-half c =
    let worth : c.natural-unsigned.result ≡ natural_of (take c.args.width c.args.bytes.now) =
    c.natural-unsigned.ensures ∙ ap (λ w. natural_of (take w c.args.bytes.now)) c.from.ensures in
    let below = worth_below c.args.width c.requires.width c.args.bytes.now (λ i. omega (arith, c.type_inv.bytes i)) c.requires.enough in
    let size = sized c.args.width c.requires.width in
    let high : half c.args.width ≤ c.natural-unsigned.result = omega (arith, c.half_range-half.ensures.value) in
    let value : ℤ = to_z w128 (of_z w128 (to_z w128 (of_z w128 c.least_number.result) +ℤ to_z w128 (c.natural-unsigned.result - c.half_range-half.result))) in
    let same : value ≡ neg_ℤ (pos (half c.args.width)) +ℤ pos (c.natural-unsigned.result - half c.args.width) =
    omega (arith, ints, size.room, size.twice, below, c.half_range-half.ensures.value, c.least_number.ensures) in
    let r = number_high c.args.width c.requires.width c.args.bytes.now (λ i. omega (arith, c.type_inv.bytes i)) c.requires.enough c.natural-unsigned.result worth high value same in
    record { fits = r.0; spells = r.1 }
