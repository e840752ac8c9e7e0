use Rattle.std.proofs.Common.{rules, ◌≡◌, ◌++◌, ℕ, List, [], length, take, drop, sym, ◌∙◌, arith}
use Rattle.std.proofs.lemmas.Bool.{false≢true}
use Rattle.std.proofs.lemmas.Bool.Decides.{Decides-eqb}
use Rattle.std.proofs.lemmas.List.{take_all}
use Rattle.std.proofs.lemmas.List.Elements.{All-more, All-same}
use Rattle.std.proofs.lemmas.Slice.Eq.{starts_is}
use Rattle.dw_codec_runs.proofs.dictionary_known.Known.all_begin.Goals as goal

pub returns-then-not-starts_with : goal.returns-then-not-starts_with
returns-then-not-starts_with c = (
  λ out. absurd (false≢true out),
  λ each.
      let r = each c.loop-place.place [] (omega arith) in
      let is : c.get.result.now ≡ c.args.front.now ++ r.0 = c.get.ensures ∙ r.1 in
      let found = (starts_is Decides-eqb c.get.result.now c.args.front.now c.starts_with.result c.starts_with.ensures.value).1 r.0 is in
      absurd (false≢true (sym c.if-not-starts_with.true ∙ found)),
)

pub loop-place-preserved : goal.loop-place-preserved
loop-place-preserved c =
    let found = (starts_is Decides-eqb c.get.result.now c.args.front.now c.starts_with.result c.starts_with.ensures.value).0 c.if-not-starts_with.false in
    All-more (λ item. (rest : List ℕ) × (item ≡ c.args.front.now ++ rest)) c.args.self.now c.loop-place.place [] (omega arith) c.loop-place.invariant
    (drop (length c.args.front.now) c.get.result.now, sym c.get.ensures ∙ found)

pub returns : goal.returns
returns c =
    let P : List ℕ → Type 0 = λ item. (rest : List ℕ) × (item ≡ c.args.front.now ++ rest) in
    let whole : take c.loop-place.place c.args.self.now ≡ c.args.self.now = take_all c.loop-place.place c.args.self.now (omega arith) in
    (λ _. All-same P c.args.self.now (take c.loop-place.place c.args.self.now) (sym whole) c.loop-place.invariant, λ _. search rules)
