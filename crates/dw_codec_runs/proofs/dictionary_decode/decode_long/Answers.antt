use Rattle.std.proofs.Common.{◌≡◌, ◌+◌, ◌-◌, ℕ, List, [], length, take, refl, sym, ap, ◌∙◌, subst, arith}
use Rattle.std.specs.Prelude.{nat_lt}
use Rattle.std.proofs.lemmas.Bool.{eqb-true, eqb-false}
use Rattle.dw_codec_runs.specs.Dictionary.{met}
use Rattle.dw_codec_runs.specs.DictionaryParts.{IsUnpacked}
use Rattle.dw_codec_runs.proofs.DictionaryDecoding.{IsPassing, passing_begins, passing_goes, passing_stops, passing_done, passing_trails}
use Rattle.dw_codec_runs.proofs.dictionary_decode.decode_long.Goals as goal

pub loop-at-init : goal.loop-at-init
loop-at-init c =
    let K : List (List ℕ) → List ℕ → Type 0 = λ known rest. IsPassing c.args.shape c.requires.shape c.args.count c.args.bytes.now known rest 0 in (
      c.requires.shape,
      subst (λ known. K known c.split_at.result.1.now) (sym c.new-known.ensures)
          (subst (K []) (sym c.split_at.ensures.back) (passing_begins c.args.shape c.requires.shape c.args.count c.args.bytes.now c.requires.head)),
    )

pub returns-in-Err-clause-fault : goal.returns-in-Err-clause-fault
returns-in-Err-clause-fault c =
    let k = c.loop-at.invariant in
    let left : ℕ = c.args.count - 1 - c.loop-at.at in
    passing_stops c.args.shape k.0 c.args.count c.args.bytes.now c.requires.head c.loop-at.known c.loop-at.rest.now c.loop-at.at left (nat_lt 256 (c.len.result + left)) k.1 (omega arith)
    (ap (λ (n : ℕ). nat_lt 256 (n + left)) c.len.ensures) c.in-Err.front (length c.args.bytes.now - length c.loop-at.rest.now + c.in-Err.front) refl c.in-Err.ensures.none c.in-Err.ensures.front

pub loop-at-preserved : goal.loop-at-preserved
loop-at-preserved c =
    let k = c.loop-at.invariant in
    let left : ℕ = c.args.count - 1 - c.loop-at.at in
    let K : List (List ℕ) → List ℕ → Type 0 = λ known rest. IsPassing c.args.shape k.0 c.args.count c.args.bytes.now known rest (c.loop-at.at + 1) in
    let same : c.meet.new.self ≡ met c.loop-at.known (take c.in-Ok.len c.loop-at.rest.now) = c.in_ok-meet-in-Ok.ensures.known ∙ ap (met c.loop-at.known) c.split_at-in-Ok.ensures.front in (
      k.0,
      subst (λ known. K known c.split_at-in-Ok.result.1.now) (sym same) (subst (K (met c.loop-at.known (take c.in-Ok.len c.loop-at.rest.now))) (sym c.split_at-in-Ok.ensures.back)
          (passing_goes c.args.shape k.0 c.args.count c.args.bytes.now c.requires.head c.loop-at.known c.loop-at.rest.now c.loop-at.at left (nat_lt 256 (c.len.result + left)) k.1 (omega arith)
          (ap (λ (n : ℕ). nat_lt 256 (n + left)) c.len.ensures) c.in-Ok.len c.in-Ok.ensures.item)),
    )

pub returns-then-not-is_empty-clause-fault : goal.returns-then-not-is_empty-clause-fault
returns-then-not-is_empty-clause-fault c =
    let k = c.loop-at.invariant in
    let some : length c.loop-at.rest.now ≡ 0 → ⊥ = eqb-false _ _ (sym c.is_empty.ensures ∙ c.if-not-is_empty.true) in
    passing_trails c.args.shape k.0 c.args.count c.args.bytes.now c.requires.head c.loop-at.known c.loop-at.rest.now c.loop-at.at k.1 (omega arith)
    (length c.args.bytes.now - length c.loop-at.rest.now) refl (omega (arith, some))

pub returns-clause-plain : goal.returns-clause-plain
returns-clause-plain c =
    let k = c.loop-at.invariant in
    let none : length c.loop-at.rest.now ≡ 0 = eqb-true _ _ (sym c.is_empty.ensures ∙ c.if-not-is_empty.false) in
    subst (IsUnpacked c.args.shape c.args.count c.args.bytes.now) (sym (c.in_ok-from_slice.ensures.items ∙ c.split_at.ensures.back))
    (passing_done c.args.shape k.0 c.args.count c.args.bytes.now c.requires.head c.loop-at.known c.loop-at.rest.now c.loop-at.at k.1 (omega arith) none)
