use Rattle.std.proofs.Common.{◌≡◌, ◌≤◌, ◌<◌, ◌+◌, ◌*◌, ◌^◌, ◌-ℤ◌, ℕ, length, arith, refl, unsigned_abs}
use Rattle.std.proofs.lemmas.Bool.{le-leb, leb-true}
use Rattle.dw_codec_plain.specs.Numbers.{natural_of}
use Rattle.dw_codec_plain.proofs.Naturals.{greatest_is}
use Rattle.dw_codec_plain.proofs.Gaps.{IsGap, start_of, start_is, start_below, gap_up, gap_round, gap_found, gap_within, distance_is}
use Rattle.dw_codec_plain.proofs.numbers.is_number_within.Goals as goal
use Rattle.dw_codec_plain.proofs.numbers.is_number_within.Goals.{then-start-wanted, else-start-wanted}

pub overflow_sub-gap-else-start-wanted : goal.overflow_sub-gap-else-start-wanted
overflow_sub-gap-else-start-wanted c =
    let start : c.natural-start.result ≡ start_of c.args.low c.args.bytes.now =
    start_is c.args.low c.ranges.low c.args.bytes.now c.to_le_bytes.result c.natural-start.result c.requires.most c.to_le_bytes.ensures c.natural-start.ensures in
    let most : c.natural.result + 1 ≡ 2 ^ (8 * length c.args.bytes.now) = greatest_is (length c.args.bytes.now) c.natural.result _ c.requires.most refl c.natural.ensures in
    omega (arith, start, most, start_below c.args.low c.args.bytes.now)

pub returns : goal.returns
returns c =
    let start : c.natural-start.result ≡ start_of c.args.low c.args.bytes.now =
    start_is c.args.low c.ranges.low c.args.bytes.now c.to_le_bytes.result c.natural-start.result c.requires.most c.to_le_bytes.ensures c.natural-start.ensures in
    let wanted : c.natural-wanted.result ≡ natural_of c.args.bytes.now = c.natural-wanted.ensures in
    let modulus : ℕ = 2 ^ (8 * length c.args.bytes.now) in
    let below : start_of c.args.low c.args.bytes.now < modulus = start_below c.args.low c.args.bytes.now in
    let is : IsGap modulus (start_of c.args.low c.args.bytes.now) (natural_of c.args.bytes.now) c.if-start-wanted.gap =
    elim c.if-start-wanted.branch [
      | then-start-wanted w ↦ gap_up modulus _ _ _ (omega arith) (omega arith)
      | else-start-wanted w ↦
          let most : w.natural.result + 1 ≡ modulus = greatest_is (length c.args.bytes.now) w.natural.result _ c.requires.most refl w.natural.ensures in
          gap_round modulus _ _ _ w.natural.result (omega arith) below most (omega arith)
    ] in
    let distance : c.abs_diff.result ≡ unsigned_abs (c.args.high -ℤ c.args.low) = distance_is c.args.high c.args.low c.ranges.high c.ranges.low c.abs_diff.result c.abs_diff.ensures in (
      λ yes. gap_found c.args.low c.args.high c.ranges.low c.ranges.high c.requires.order c.args.bytes.now (λ i. omega (arith, c.type_inv.bytes i)) c.requires.most c.if-start-wanted.gap is
          (let near : c.if-start-wanted.gap ≤ c.abs_diff.result = leb-true _ _ yes in omega arith),
      λ within. le-leb _ _
          (let near : c.if-start-wanted.gap ≤ unsigned_abs (c.args.high -ℤ c.args.low) =
          gap_within c.args.low c.args.high c.ranges.low c.ranges.high c.requires.order c.args.bytes.now (λ i. omega (arith, c.type_inv.bytes i)) c.requires.most c.if-start-wanted.gap is within in omega arith),
    )
