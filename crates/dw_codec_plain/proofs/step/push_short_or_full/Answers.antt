use Rattle.std.proofs.Common.{◌≡◌, ◌++◌, true, false, ℤ, List, ℕ, to_z, of_z, sym, ap, ◌∙◌, ◌-ℤ◌, append_assoc}
use Rattle.std.specs.Int.{w128}
use Rattle.std.proofs.lemmas.Int.{to_z-of_z}
use Rattle.std.proofs.lemmas.Result.{on_ok_weaker}
use Rattle.dw_codec_plain.specs.Numbers.{number}
use Rattle.dw_codec_plain.specs.Encodings.{is_short}
use Rattle.dw_codec_plain.proofs.Forms.{mark, width_of_step, short_fits, mark_fits, form_short, form_full}
use Rattle.dw_codec_plain.proofs.Signed.{wide, at_bits, from_bits, same_bits}
use Rattle.dw_codec_plain.proofs.step.push_short_or_full.Goals as goal

pub overflow_sub-value : goal.overflow_sub-value
overflow_sub-value c =
    let short = sym c.is_near.ensures ∙ c.if-is_near.true in
    let is = width_of_step c.args.step c.requires.step in
    wide c.args.step is (to_z w128 (of_z w128 c.args.value) -ℤ to_z w128 (of_z w128 c.args.base))
    (short_fits c.args.step (to_z w128 (of_z w128 c.args.value) -ℤ to_z w128 (of_z w128 c.args.base)) short)

pub returns-then-is_near : goal.returns-then-is_near
returns-then-is_near c =
    let is = width_of_step c.args.step c.requires.step in
    let old : List ℕ = c.args.out.now.items in
    let d : ℤ = c.args.value -ℤ c.args.base in
    let short : is_short c.args.step d ≡ true =
    from_bits (λ v b. is_short c.args.step (v -ℤ b) ≡ true) c.args.value c.args.base c.ranges.value c.ranges.base (sym c.is_near.ensures ∙ c.if-is_near.true) in
    let same : to_z w128 (of_z w128 (to_z w128 (of_z w128 c.args.value) -ℤ to_z w128 (of_z w128 c.args.base))) ≡ d =
    at_bits (λ v b. to_z w128 (of_z w128 (v -ℤ b)) ≡ d) c.args.value c.args.base c.ranges.value c.ranges.base (same_bits c.args.step is d (short_fits c.args.step d short)) in
    record {
      ok = on_ok_weaker c.push_number.result (λ written.
          written ∙ (ap (λ (z : ℤ). old ++ number c.args.step z) same ∙ ap (λ (t : List ℕ). old ++ t) (sym (form_short c.args.width c.args.step d c.args.value short)))) c.push_number.ensures.ok;
    }

pub returns-in_ok-push_number : goal.returns-in_ok-push_number
returns-in_ok-push_number c =
    let is = width_of_step c.args.step c.requires.step in
    let old : List ℕ = c.args.out.now.items in
    let d : ℤ = c.args.value -ℤ c.args.base in
    let long : is_short c.args.step d ≡ false =
    from_bits (λ v b. is_short c.args.step (v -ℤ b) ≡ false) c.args.value c.args.base c.ranges.value c.ranges.base (sym c.is_near.ensures ∙ c.if-is_near.false) in
    let least : to_z w128 (of_z w128 c.least_number.result) ≡ mark c.args.step =
    ap (λ (z : ℤ). to_z w128 (of_z w128 z)) c.least_number.ensures ∙ same_bits c.args.step is (mark c.args.step) (mark_fits c.args.step is) in
    let value : to_z w128 (of_z w128 c.args.value) ≡ c.args.value = to_z-of_z w128 c.args.value c.ranges.value in
    record {
      ok = on_ok_weaker c.push_number-else-is_near-2.result (λ written.
          written ∙ (ap (λ (t : List ℕ). t ++ number c.args.width (to_z w128 (of_z w128 c.args.value))) c.in_ok-push_number.ensures.ok
          ∙ (ap (λ (z : ℤ). (old ++ number c.args.step z) ++ number c.args.width (to_z w128 (of_z w128 c.args.value))) least
          ∙ (ap (λ (z : ℤ). (old ++ number c.args.step (mark c.args.step)) ++ number c.args.width z) value
          ∙ (append_assoc old (number c.args.step (mark c.args.step)) (number c.args.width c.args.value)
          ∙ ap (λ (t : List ℕ). old ++ t) (sym (form_full c.args.width c.args.step d c.args.value long))))))) c.push_number-else-is_near-2.ensures.ok;
    }
