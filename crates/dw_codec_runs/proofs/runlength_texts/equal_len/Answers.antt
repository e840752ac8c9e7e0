use Rattle.std.proofs.Common.{◌≡◌, ◌+◌, ◌++◌, ◌∷◌, [], ℕ, List, Some, drop, get_or, sym, ap, ◌∙◌, subst}
use Rattle.std.specs.Prelude.{replicate}
use Rattle.std.proofs.lemmas.Bool.{not-true, not-false, both_ways}
use Rattle.std.proofs.lemmas.List.{drop_more, take_more, replicate_more}
use Rattle.std.proofs.lemmas.Slice.Eq.{bytes_eq-Decides}
use Rattle.dw_codec_runs.specs.Runs.{StartsOther}
use Rattle.dw_codec_runs.proofs.RunsSplit.{none_same}
use Rattle.dw_codec_runs.proofs.runlength_texts.equal_len.Goals as goal

pub returns-then-ne-clause-stops : goal.returns-then-ne-clause-stops
returns-then-ne-clause-stops c =
    let i : ℕ = c.loop-len.len in
    let item : List ℕ = c.index-texts-len.result in
    let rest : drop i c.args.texts.now ≡ item ∷ drop (i + 1) c.args.texts.now =
    drop_more c.args.texts.now i item c.loop-len-test.true ∙ ap (λ (t : List ℕ). t ∷ drop (i + 1) c.args.texts.now) (sym c.index-texts-len.is) in
    subst (λ t. StartsOther (Some c.args.text.now) t) (sym rest)
    (λ e. both_ways _ (not-true _ (sym c.ne.ensures ∙ c.if-ne.true))
    ((bytes_eq-Decides c.as_slice.result.now c.args.text.now).1 (c.as_slice.ensures ∙ sym (none_same c.args.text.now item e))))

pub loop-len-preserved : goal.loop-len-preserved
loop-len-preserved c =
    let i : ℕ = c.loop-len.len in
    let item : List ℕ = c.index-texts-len.result in
    let same : item ≡ c.args.text.now =
    sym c.as_slice.ensures ∙ (bytes_eq-Decides c.as_slice.result.now c.args.text.now).0 (not-false _ (sym c.ne.ensures ∙ c.if-ne.false)) in
    take_more c.args.texts.now i item c.loop-len-test.true
    ∙ (ap (λ (t : List (List ℕ)). t ++ get_or c.args.texts.now i item ∷ []) c.loop-len.invariant
    ∙ (ap (λ (t : List ℕ). replicate i c.args.text.now ++ t ∷ []) (sym c.index-texts-len.is ∙ same) ∙ replicate_more i c.args.text.now))
