use Rattle.std.proofs.Common.{◌≡◌, ◌+◌, ◌-◌, ℕ, List, [], length, take, refl, sym, ap, ◌∙◌, subst, arith}
use Rattle.dw_codec_plain.specs.Spelling.{IsSpelling}
use Rattle.dw_codec_runs.specs.Dictionary.{met, dictionary}
use Rattle.dw_codec_runs.specs.DictionaryParts.{IsItemOf, IsAt, HasPlaces, HasItems}
use Rattle.dw_codec_runs.proofs.DictionaryDecoding.{IsKnowing, knowing_begins, knowing_goes, knowing_stops, knowing_done, at_rest}
use Rattle.dw_codec_runs.proofs.dictionary_decode.read_items.Goals as goal

pub loop-init : goal.loop-init
loop-init c =
    let K : List (List ℕ) → List ℕ → Type 0 = λ known rest. IsKnowing c.args.shape c.requires.shape c.args.count c.args.bytes.now c.args.number known rest 0 in (
      c.requires.shape,
      subst (λ known. K known c.split_at.result.1.now) (sym c.new-known.ensures)
          (subst (K []) (sym c.split_at.ensures.back) (knowing_begins c.args.shape c.requires.shape c.args.count c.args.bytes.now c.args.number c.requires.head)),
    )

pub returns-in-Err-clause-fault : goal.returns-in-Err-clause-fault
returns-in-Err-clause-fault c =
    let k = c.loop.invariant in
    knowing_stops c.args.shape k.0 c.args.count c.args.bytes.now c.args.number c.requires.head c.loop.known c.loop.rest.now c.loop.counter k.1 c.in-Err.front
    (length c.args.bytes.now - length c.loop.rest.now + c.in-Err.front) (omega arith) refl c.in-Err.ensures.none c.in-Err.ensures.front

pub loop-preserved : goal.loop-preserved
loop-preserved c =
    let k = c.loop.invariant in
    let K : List (List ℕ) → List ℕ → Type 0 = λ known rest. IsKnowing c.args.shape k.0 c.args.count c.args.bytes.now c.args.number known rest (c.loop.counter + 1) in
    let same : c.meet.new.self ≡ met c.loop.known (take c.in-Ok.len c.loop.rest.now) = c.in_ok-meet-in-Ok.ensures.known ∙ ap (met c.loop.known) c.split_at-in-Ok.ensures.front in (
      k.0,
      subst (λ known. K known c.split_at-in-Ok.result.1.now) (sym same) (subst (K (met c.loop.known (take c.in-Ok.len c.loop.rest.now))) (sym c.split_at-in-Ok.ensures.back)
          (knowing_goes c.args.shape k.0 c.args.count c.args.bytes.now c.args.number c.requires.head c.loop.known c.loop.rest.now c.loop.counter k.1 c.in-Ok.len (omega arith) c.in-Ok.ensures.item)),
    )

pub returns-clause-follows : goal.returns-clause-follows
returns-clause-follows c =
    let k = c.loop.invariant in
    let T : List ℕ → Type 0 = IsSpelling dictionary (IsItemOf c.args.shape) c.args.count in
    subst (λ rest. IsAt T c.args.bytes.now rest (HasPlaces c.args.number 0 c.args.count))
    (sym (at_rest T c.args.bytes.now c.loop.rest.now (HasItems (IsItemOf c.args.shape) c.args.number c.args.count c.loop.known) k.1.follows))
    (knowing_done c.args.shape k.0 c.args.count c.args.bytes.now c.args.number c.requires.head c.loop.known c.loop.rest.now c.loop.counter k.1 (omega arith))
