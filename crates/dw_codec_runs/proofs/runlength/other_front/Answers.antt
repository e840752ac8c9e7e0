use Rattle.std.proofs.Common.{◌≡◌, ◌-◌, ◌<◌, ◌++◌, ℕ, ℤ, None, Some, List, length, drop, arith, sym, ap, ◌∙◌, subst}
use Rattle.std.specs.Ordering.{int_eq}
use Rattle.std.proofs.lemmas.Bool.{both_ways}
use Rattle.std.proofs.lemmas.List.{take-append-drop}
use Rattle.dw_codec_plain.specs.Numbers.{FitsWidth, number}
use Rattle.dw_codec_plain.specs.Spelling.{IsLongestFront}
use Rattle.dw_codec_plain.proofs.Naturals.{AreBytes}
use Rattle.dw_codec_plain.proofs.RawItems.{raw_none, raw_front, length-number}
use Rattle.dw_codec_plain.proofs.Signed.{same_bits}
use Rattle.dw_codec_runs.proofs.RunsValues.{IsOtherText, cut_front, same_value_front, other_value_front}
use Rattle.dw_codec_runs.proofs.RunsNumbers.{number_code}
use Rattle.dw_codec_runs.proofs.runlength.other_front.Goals as goal

pub returns-then-bytes-from : goal.returns-then-bytes-from
returns-then-bytes-from c =
    let short : length c.args.bytes.now < c.args.width = omega arith in
    let are : AreBytes c.args.bytes.now = λ i. omega (arith, c.type_inv.bytes i) in
    cut_front int_eq (number c.args.width) (FitsWidth c.args.width) (number_code c.args.width c.requires.width) c.args.before c.args.bytes.now
    (raw_none c.args.width c.requires.width None c.args.bytes.now short)
    (raw_front c.args.width c.requires.width None c.args.bytes.now are short)

pub returns-then-is_same : goal.returns-then-is_same
returns-then-is_same c =
    let value : ℤ = c.number_at.result in
    let whole : c.args.bytes.now ≡ number c.args.width value ++ drop c.args.width c.args.bytes.now =
    sym (take-append-drop c.args.width c.args.bytes.now) ∙ ap (λ (t : List ℕ). t ++ drop c.args.width c.args.bytes.now) (sym c.number_at.ensures.spells) in
    let before : c.args.before ≡ Some value = c.is_same.ensures.0 c.if-is_same.true ∙ ap (λ (z : ℤ). Some z) (same_bits c.args.width c.requires.width value c.number_at.ensures.fits) in
    let long : length (number c.args.width value) - 1 ≡ c.from-then-is_same.result - 1 = omega (arith, length-number c.args.width value) in
    subst (λ k. IsLongestFront (IsOtherText (number c.args.width) (FitsWidth c.args.width) c.args.before) c.args.bytes.now k) long
    (same_value_front int_eq (number c.args.width) (FitsWidth c.args.width) (number_code c.args.width c.requires.width) c.args.before c.args.bytes.now value (drop c.args.width c.args.bytes.now)
    c.number_at.ensures.fits before whole)

pub returns : goal.returns
returns c =
    let value : ℤ = c.number_at.result in
    let whole : c.args.bytes.now ≡ number c.args.width value ++ drop c.args.width c.args.bytes.now =
    sym (take-append-drop c.args.width c.args.bytes.now) ∙ ap (λ (t : List ℕ). t ++ drop c.args.width c.args.bytes.now) (sym c.number_at.ensures.spells) in
    let differs : c.args.before ≡ Some value → ⊥ = λ e. both_ways _ c.if-is_same.false
    (c.is_same.ensures.1 (e ∙ ap (λ (z : ℤ). Some z) (sym (same_bits c.args.width c.requires.width value c.number_at.ensures.fits)))) in
    let long : length (number c.args.width value) ≡ c.from-2.result = omega (arith, length-number c.args.width value) in
    subst (λ k. IsLongestFront (IsOtherText (number c.args.width) (FitsWidth c.args.width) c.args.before) c.args.bytes.now k) long
    (other_value_front int_eq (number c.args.width) (FitsWidth c.args.width) (number_code c.args.width c.requires.width) c.args.before c.args.bytes.now value (drop c.args.width c.args.bytes.now)
    (record { fits = c.number_at.ensures.fits; differs = differs }) whole)
