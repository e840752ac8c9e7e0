use Rattle.std.proofs.Common.{◌≡◌, ◌≢◌, ◌+◌, true, false, ℤ, ℕ, to_z, of_z, arith, sym, ap, ◌∙◌, ◌-ℤ◌, ◌+ℤ◌, length, take, drop}
use Rattle.std.specs.Int.{w128}
use Rattle.dw_codec_plain.specs.Numbers.{IsWidth, FitsWidth}
use Rattle.dw_codec_plain.specs.Encodings.{is_short, short_or_full}
use Rattle.dw_codec_plain.proofs.Forms.{mark, mark_fits, width_of_step, none_outside, some_short, none_cut, none_near, some_full}
use Rattle.dw_codec_plain.proofs.Signed.{wide, at_bits, from_bits, same_bits, same_from_bits}
use Rattle.dw_codec_plain.proofs.step.short_or_full_at.Goals as goal

-- the number at the front is the mark, or isn't
marked : (step : ℕ) → IsWidth step → (small least : ℤ) → FitsWidth step small → least ≡ mark step → of_z w128 small ≡ of_z w128 least → small ≡ mark step
marked step is small least fits e same =
    same_from_bits small (mark step) (wide step is small fits) (wide step is (mark step) (mark_fits step is)) (same ∙ ap (of_z w128) e)

unmarked : (step : ℕ) (small least : ℤ) → least ≡ mark step → (of_z w128 small ≡ of_z w128 least → ⊥) → small ≢ mark step
unmarked step small least e apart same = apart (ap (of_z w128) (same ∙ sym e))

pub returns-in_err-value-clause-none : goal.returns-in_err-value-clause-none
returns-in_err-value-clause-none c =
    let is = width_of_step c.args.step c.requires.step in
    let other : c.number_at-small.result ≢ mark c.args.step = unmarked c.args.step c.number_at-small.result c.least_number.result c.least_number.ensures c.if-small-least_number.true in
    rw c.from_residual.ensures (none_outside c.args.width c.args.step c.requires.width is c.args.base c.args.bytes.now c.number_at-small.result (omega arith)
    c.number_at-small.ensures.fits c.number_at-small.ensures.spells other
    (λ fits. c.in_err-value.ensures.none (at_bits (λ base small. FitsWidth c.args.width (base +ℤ small)) c.args.base c.number_at-small.result c.ranges.base
    (wide c.args.step is c.number_at-small.result c.number_at-small.ensures.fits) fits)))

pub returns-then-small-least_number-clause-spells :
    goal.returns-then-small-least_number-clause-spells
returns-then-small-least_number-clause-spells c =
    let is = width_of_step c.args.step c.requires.step in
    let other : c.number_at-small.result ≢ mark c.args.step = unmarked c.args.step c.number_at-small.result c.least_number.result c.least_number.ensures c.if-small-least_number.true in
    let value : ℤ = c.in_ok-value.value in
    let sum : value ≡ c.args.base +ℤ c.number_at-small.result = from_bits (λ base small. value ≡ base +ℤ small) c.args.base c.number_at-small.result c.ranges.base
    (wide c.args.step is c.number_at-small.result c.number_at-small.ensures.fits) c.in_ok-value.ensures.some.0 in
    let short : take c.args.step c.args.bytes.now ≡ short_or_full c.args.width c.args.step (value -ℤ c.args.base) value =
    some_short c.args.width c.args.step c.requires.width is c.args.base c.args.bytes.now c.number_at-small.result (omega arith)
    c.number_at-small.ensures.fits c.number_at-small.ensures.spells other value sum in
    let bits : to_z w128 (of_z w128 value) ≡ value = same_bits c.args.width c.requires.width value c.in_ok-value.ensures.some.1 in
    ap (λ (k : ℕ). take k c.args.bytes.now) c.from-short.ensures ∙ (short ∙ ap (λ (z : ℤ). short_or_full c.args.width c.args.step (z -ℤ c.args.base) z) (sym bits))

pub returns-then-rest-from-clause-none : goal.returns-then-rest-from-clause-none
returns-then-rest-from-clause-none c =
    let is = width_of_step c.args.step c.requires.step in
    let least : c.number_at-small.result ≡ mark c.args.step =
    marked c.args.step is c.number_at-small.result c.least_number.result c.number_at-small.ensures.fits c.least_number.ensures c.if-small-least_number.false in
    let back : c.split_at.result.1.now ≡ drop c.args.step c.args.bytes.now = c.split_at.ensures.back ∙ ap (λ (k : ℕ). drop k c.args.bytes.now) c.from-short.ensures in
    none_cut c.args.width c.args.step c.requires.width is c.args.base c.args.bytes.now c.number_at-small.result (omega arith)
    c.number_at-small.ensures.fits c.number_at-small.ensures.spells least (omega (arith, ap length back))

pub returns-then-is_near-clause-none : goal.returns-then-is_near-clause-none
returns-then-is_near-clause-none c =
    let is = width_of_step c.args.step c.requires.step in
    let least : c.number_at-small.result ≡ mark c.args.step =
    marked c.args.step is c.number_at-small.result c.least_number.result c.number_at-small.ensures.fits c.least_number.ensures c.if-small-least_number.false in
    let back : c.split_at.result.1.now ≡ drop c.args.step c.args.bytes.now = c.split_at.ensures.back ∙ ap (λ (k : ℕ). drop k c.args.bytes.now) c.from-short.ensures in
    let full : ℤ = c.number_at-value.result in
    none_near c.args.width c.args.step c.requires.width is c.args.base c.args.bytes.now c.number_at-small.result (omega arith)
    c.number_at-small.ensures.fits c.number_at-small.ensures.spells full c.number_at-value.ensures.fits least (omega (arith, ap length back))
    (c.number_at-value.ensures.spells ∙ ap (take c.args.width) back)
    (from_bits (λ v b. is_short c.args.step (v -ℤ b) ≡ true) full c.args.base (wide c.args.width c.requires.width full c.number_at-value.ensures.fits) c.ranges.base (sym c.is_near.ensures ∙ c.if-is_near.true))

pub returns-clause-spells : goal.returns-clause-spells
returns-clause-spells c =
    let is = width_of_step c.args.step c.requires.step in
    let least : c.number_at-small.result ≡ mark c.args.step =
    marked c.args.step is c.number_at-small.result c.least_number.result c.number_at-small.ensures.fits c.least_number.ensures c.if-small-least_number.false in
    let back : c.split_at.result.1.now ≡ drop c.args.step c.args.bytes.now = c.split_at.ensures.back ∙ ap (λ (k : ℕ). drop k c.args.bytes.now) c.from-short.ensures in
    let full : ℤ = c.number_at-value.result in
    let bits : to_z w128 (of_z w128 full) ≡ full = same_bits c.args.width c.requires.width full c.number_at-value.ensures.fits in
    let size : c.from-short.result + c.from-2.result ≡ c.args.step + c.args.width = omega arith in
    let read : take (c.args.step + c.args.width) c.args.bytes.now ≡ short_or_full c.args.width c.args.step (full -ℤ c.args.base) full =
    some_full c.args.width c.args.step c.requires.width is c.args.base c.args.bytes.now c.number_at-small.result (omega arith)
    c.number_at-small.ensures.fits c.number_at-small.ensures.spells full c.number_at-value.ensures.fits least (omega (arith, ap length back))
    (c.number_at-value.ensures.spells ∙ ap (take c.args.width) back)
    (from_bits (λ v b. is_short c.args.step (v -ℤ b) ≡ false) full c.args.base (wide c.args.width c.requires.width full c.number_at-value.ensures.fits) c.ranges.base (sym c.is_near.ensures ∙ c.if-is_near.false)) in
    ap (λ (k : ℕ). take k c.args.bytes.now) size ∙ (read ∙ ap (λ (z : ℤ). short_or_full c.args.width c.args.step (z -ℤ c.args.base) z) (sym bits))
