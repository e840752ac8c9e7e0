use Rattle.std.proofs.Common.{◌≡◌, ◌∙◌, ◌++◌, ◌∷◌, ◌+◌, ◌≤◌, [], ℕ, ℤ, length, take, sym, ap, arith, subst}
use Rattle.std.specs.Prelude.{All}
use Rattle.std.proofs.lemmas.List.Elements.{All-get_or}
use Rattle.dw_codec_plain.specs.Numbers.{FitsWidth}
use Rattle.dw_codec_plain.proofs.Signed.{same_bits}
use Rattle.dw_value.specs.Encodings.{width}
use Rattle.dw_block.specs.Blocks.{IsValueOf, number_in, numbers_of}
use Rattle.dw_block.proofs.Forms.{IsWidth-width}
use Rattle.dw_block.proofs.Present.{some_step, none_step}
use Rattle.dw_block.proofs.kinds.numbers_of.Goals as goal
use Rattle.dw_block.proofs.kinds.numbers_of.Goals.{in-Some+in_ok-push, in_default}

pub number_in-requires-clause-is : goal.number_in-requires-clause-is
number_in-requires-clause-is c =
    subst (IsValueOf c.args.kind) (sym c.value-item.is) (All-get_or (IsValueOf c.args.kind) c.args.values.now c.loop-value.value-index c.value-item.result c.loop-value-test.true c.requires.each)

pub loop-value-preserved : goal.loop-value-preserved
loop-value-preserved c =
    let i : ℕ = c.loop-value.value-index in
    let r : (c.match-number_in.numbers.items ≡ numbers_of (take (i + 1) c.args.values.now)) × All (FitsWidth (width c.args.kind)) c.match-number_in.numbers.items × (length c.match-number_in.numbers.items ≤ i + 1) =
    elim c.match-number_in.branch [
      | in-Some+in_ok-push w ↦
          let fits : FitsWidth (width c.args.kind) w.in-Some.number = w.in-Some.ensures.fits in
          let pushed : c.match-number_in.numbers.items ≡ c.loop-value.numbers.items ++ w.in-Some.number ∷ [] =
          ap (λ v. v.items) w.numbers-is ∙ w.in_ok-push.ensures.items
          ∙ ap (λ (n : ℤ). c.loop-value.numbers.items ++ n ∷ []) (same_bits (width c.args.kind) (IsWidth-width c.args.kind) w.in-Some.number fits) in
          some_step number_in (FitsWidth (width c.args.kind)) c.args.values.now i c.value-item.result w.in-Some.number c.loop-value.numbers.items c.match-number_in.numbers.items
          c.loop-value-test.true c.value-item.is (sym w.in-Some.ensures.value) fits c.loop-value.invariant.numbers c.loop-value.invariant.fit c.loop-value.invariant.few pushed
      | in_default w ↦
          let same : c.match-number_in.numbers.items ≡ c.loop-value.numbers.items = ap (λ v. v.items) w.numbers-is in (
            same ∙ none_step number_in c.args.values.now i c.value-item.result c.loop-value.numbers.items c.loop-value-test.true c.value-item.is (sym w.in_default.ensures.value) c.loop-value.invariant.numbers,
            subst (All (FitsWidth (width c.args.kind))) (sym same) c.loop-value.invariant.fit,
            omega (arith, ap length same),
          )
    ] in
    record { numbers = r.0; fit = r.1; few = r.2 }
