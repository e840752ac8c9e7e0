use Rattle.std.proofs.Common.{◌≡◌, ◌≤◌, ◌+◌, ℤ, ℕ, to_z, of_z, arith, sym, ap, ◌∙◌, drop, subst}
use Rattle.std.specs.Int.{w128}
use Rattle.dw_codec_plain.specs.Numbers.{IsNumberWithin}
use Rattle.dw_codec_plain.specs.Encodings.{IsMarkedWithin}
use Rattle.dw_codec_plain.specs.Spelling.{IsLongestFront}
use Rattle.dw_codec_plain.proofs.Forms.{mark, mark_fits, width_of_step}
use Rattle.dw_codec_plain.proofs.FormFronts.{mark_stops, mark_goes, front_within}
use Rattle.dw_codec_plain.proofs.Signed.{same_bits, from_bits}
use Rattle.dw_codec_plain.proofs.step.marked_front.Goals as goal

pub returns-then-marked-short : goal.returns-then-marked-short
returns-then-marked-short c =
    let is = width_of_step c.args.step c.requires.step in
    let least : to_z w128 (of_z w128 c.least_number-mark.result) ≡ mark c.args.step =
    ap (λ (z : ℤ). to_z w128 (of_z w128 z)) c.least_number-mark.ensures ∙ same_bits c.args.step is (mark c.args.step) (mark_fits c.args.step is) in
    let front : IsLongestFront (IsNumberWithin c.args.step (mark c.args.step) (mark c.args.step)) c.args.bytes.now c.longest_front-marked.result =
    subst (λ z. IsLongestFront (IsNumberWithin c.args.step z z) c.args.bytes.now c.longest_front-marked.result) least c.longest_front-marked.ensures in
    mark_stops c.args.width c.args.step c.args.low c.args.high c.requires.order c.args.bytes.now c.longest_front-marked.result (omega arith) front

pub returns : goal.returns
returns c =
    let is = width_of_step c.args.step c.requires.step in
    let least : to_z w128 (of_z w128 c.least_number-mark.result) ≡ mark c.args.step =
    ap (λ (z : ℤ). to_z w128 (of_z w128 z)) c.least_number-mark.ensures ∙ same_bits c.args.step is (mark c.args.step) (mark_fits c.args.step is) in
    let front : IsLongestFront (IsNumberWithin c.args.step (mark c.args.step) (mark c.args.step)) c.args.bytes.now c.longest_front-marked.result =
    subst (λ z. IsLongestFront (IsNumberWithin c.args.step z z) c.args.bytes.now c.longest_front-marked.result) least c.longest_front-marked.ensures in
    let bound : c.longest_front-marked.result ≤ c.args.step = front_within c.args.step (mark c.args.step) (mark c.args.step) c.args.bytes.now c.longest_front-marked.result front in
    let whole : c.longest_front-marked.result ≡ c.args.step = omega arith in
    let front' : IsLongestFront (IsNumberWithin c.args.step (mark c.args.step) (mark c.args.step)) c.args.bytes.now c.args.step =
    subst (λ k. IsLongestFront (IsNumberWithin c.args.step (mark c.args.step) (mark c.args.step)) c.args.bytes.now k) whole front in
    let back : c.split_at.result.1.now ≡ drop c.args.step c.args.bytes.now = c.split_at.ensures.back ∙ ap (λ (k : ℕ). drop k c.args.bytes.now) whole in
    let behind : IsLongestFront (IsNumberWithin c.args.width c.args.low c.args.high) (drop c.args.step c.args.bytes.now) c.longest_front.result =
    subst (λ t. IsLongestFront (IsNumberWithin c.args.width c.args.low c.args.high) t c.longest_front.result) back
    (from_bits (λ low high. IsLongestFront (IsNumberWithin c.args.width low high) c.split_at.result.1.now c.longest_front.result) c.args.low c.args.high c.ranges.low c.ranges.high c.longest_front.ensures) in
    subst (λ k. IsLongestFront (IsMarkedWithin c.args.width c.args.step c.args.low c.args.high) c.args.bytes.now (k + c.longest_front.result)) (sym whole)
    (mark_goes c.args.width c.args.step c.args.low c.args.high c.requires.order c.args.bytes.now c.longest_front.result front' behind)
