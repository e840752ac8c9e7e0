use Rattle.std.proofs.Common.{◌≡◌, ◌∙◌, ◌++◌, ◌∷◌, ◌+◌, ◌≤◌, [], ℕ, Some, List, length, take, sym, ap, arith, subst}
use Rattle.std.specs.Prelude.{All}
use Rattle.dw_block.specs.Blocks.{IsBlockText, text_in, texts_of}
use Rattle.dw_block.proofs.Present.{some_step, none_step, no_text}
use Rattle.dw_block.proofs.kinds.texts_of.Goals as goal
use Rattle.dw_block.proofs.kinds.texts_of.Goals.{in-Words+in_ok-bytes_of+in_ok-push, in_default}

pub loop-value-preserved : goal.loop-value-preserved
loop-value-preserved c =
    let i : ℕ = c.loop-value.value-index in
    let r : (c.match-value.texts.items ≡ texts_of (take (i + 1) c.args.values.now)) × All IsBlockText c.match-value.texts.items × (length c.match-value.texts.items ≤ i + 1) =
    elim c.match-value.branch [
      | in-Words+in_ok-bytes_of+in_ok-push w ↦
          let pushed : c.match-value.texts.items ≡ c.loop-value.texts.items ++ w.in_ok-bytes_of.field-0 ∷ [] = ap (λ v. v.items) w.texts-is ∙ w.in_ok-push.ensures.items in
          some_step text_in IsBlockText c.args.values.now i c.value-item.result w.in_ok-bytes_of.field-0 c.loop-value.texts.items c.match-value.texts.items
          c.loop-value-test.true c.value-item.is (ap text_in w.in-Words.is ∙ ap (λ (t : List ℕ). Some t) (sym w.in_ok-bytes_of.ensures.0)) w.in_ok-bytes_of.ensures.1
          c.loop-value.invariant.texts c.loop-value.invariant.stored c.loop-value.invariant.few pushed
      | in_default w ↦
          let same : c.match-value.texts.items ≡ c.loop-value.texts.items = ap (λ v. v.items) w.texts-is in (
            same ∙ none_step text_in c.args.values.now i c.value-item.result c.loop-value.texts.items c.loop-value-test.true c.value-item.is (no_text c.value-item.result w.in_default.not-Words) c.loop-value.invariant.texts,
            subst (All IsBlockText) (sym same) c.loop-value.invariant.stored,
            omega (arith, ap length same),
          )
    ] in
    record { texts = r.0; stored = r.1; few = r.2 }
