use Rattle.std.proofs.Common.{◌≡◌, ◌+◌, inl, inr, take, length, arith, subst}
use Rattle.std.proofs.lemmas.Bool.{cases_lt, both_ways}
use Rattle.dw_codec_plain.specs.Numbers.{IsNumberWithin}
use Rattle.dw_codec_plain.specs.Spelling.{Begins}
use Rattle.dw_codec_plain.proofs.Signed.{at_bits, from_bits}
use Rattle.dw_codec_plain.proofs.NumberFronts.{begins_at_all, stops_at, stops_whole, goes_further}
use Rattle.dw_codec_plain.proofs.numbers.longest_front.Goals as goal

pub loop-len-init : goal.loop-len-init
loop-len-init c = at_bits (λ low high. Begins (IsNumberWithin c.args.width low high) (take 0 c.args.bytes.now)) c.args.low c.args.high c.ranges.low c.ranges.high
    (begins_at_all c.args.width c.args.low c.args.high c.args.bytes.now c.requires.order)

pub returns-then-not-is_number_within : goal.returns-then-not-is_number_within
returns-then-not-is_number_within c =
    stops_at c.args.width c.args.low c.args.high c.args.bytes.now c.loop-len.len (omega arith)
    (from_bits (λ low high. Begins (IsNumberWithin c.args.width low high) (take c.loop-len.len c.args.bytes.now)) c.args.low c.args.high c.ranges.low c.ranges.high c.loop-len.invariant)
    (λ within. both_ways _ c.if-not-is_number_within.true
    (c.is_number_within.ensures.1
    (at_bits (λ low high. IsNumberWithin (length (take (c.loop-len.len + 1) c.args.bytes.now)) low high (take (c.loop-len.len + 1) c.args.bytes.now)) c.args.low c.args.high c.ranges.low c.ranges.high within)))

pub loop-len-preserved : goal.loop-len-preserved
loop-len-preserved c = at_bits (λ low high. Begins (IsNumberWithin c.args.width low high) (take (c.loop-len.len + 1) c.args.bytes.now)) c.args.low c.args.high c.ranges.low c.ranges.high
    (goes_further c.args.width c.args.low c.args.high c.args.bytes.now c.loop-len.len (omega arith) (omega arith)
    (from_bits (λ low high. IsNumberWithin (length (take (c.loop-len.len + 1) c.args.bytes.now)) low high (take (c.loop-len.len + 1) c.args.bytes.now)) c.args.low c.args.high c.ranges.low c.ranges.high
    (c.is_number_within.ensures.0 c.if-not-is_number_within.false)))

pub returns : goal.returns
returns c =
    let len : c.loop-len.len ≡ c.min-most.result = omega arith in
    stops_whole c.args.width c.args.low c.args.high c.args.bytes.now c.min-most.result (omega arith)
    (elim (cases_lt (length c.args.bytes.now) c.args.width) [ inl lt ↦ inr (omega arith) | inr le ↦ inl (omega arith) ])
    (subst (λ k. Begins (IsNumberWithin c.args.width c.args.low c.args.high) (take k c.args.bytes.now)) len
    (from_bits (λ low high. Begins (IsNumberWithin c.args.width low high) (take c.loop-len.len c.args.bytes.now)) c.args.low c.args.high c.ranges.low c.ranges.high c.loop-len.invariant))
