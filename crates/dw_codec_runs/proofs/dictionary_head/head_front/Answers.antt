use Rattle.std.proofs.Common.{◌≡◌, length, sym, ◌∙◌, arith}
use Rattle.std.proofs.lemmas.Bool.{eqb-true, eqb-false, false≢true}
use Rattle.dw_codec_runs.proofs.DictionaryReady.{head_empty, head_first, head_dead}
use Rattle.dw_codec_runs.proofs.dictionary_head.head_front.Goals as goal

pub returns-then-is_empty : goal.returns-then-is_empty
returns-then-is_empty c = λ wide none. head_empty wide c.args.count c.args.bytes.now (eqb-true _ _ (sym c.is_empty.ensures ∙ c.if-is_empty.true))

pub returns-then-is_first : goal.returns-then-is_first
returns-then-is_first c = λ wide none.
    let some : length c.args.bytes.now ≡ 0 → ⊥ = eqb-false _ _ (sym c.is_empty.ensures ∙ c.if-is_empty.false) in
    head_first wide c.args.count c.args.bytes.now (λ i. omega (arith, c.type_inv.bytes i)) (omega (arith, some)) (c.is_first.ensures.0 c.if-is_first.true) none

pub returns-else-is_first : goal.returns-else-is_first
returns-else-is_first c = λ wide none.
    head_dead wide c.args.count c.args.bytes.now (λ first. false≢true (sym c.if-is_first.false ∙ c.is_first.ensures.1 first))
