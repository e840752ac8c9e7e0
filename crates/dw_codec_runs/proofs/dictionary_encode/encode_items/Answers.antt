use Rattle.std.proofs.Common.{◌≡◌, ◌+◌, ◌++◌, ◌∷◌, [], ℕ, List, Vec, Global, length, take, drop, sym, ap, ◌∙◌, subst, arith}
use Rattle.std.specs.Prelude.{IfOk}
use Rattle.std.specs.List.{concat}
use Rattle.dw_codec_plain.specs.Numbers.{low_bytes}
use Rattle.dw_codec_runs.specs.Dictionary.{met, place_among}
use Rattle.dw_codec_runs.specs.DictionaryParts.{IsUnpacked}
use Rattle.dw_codec_runs.proofs.DictionaryEncoding.{IsEncoding, encoding_begins, begins_there, encoding_goes, encoding_long, encoding_short}
use Rattle.dw_codec_runs.proofs.DictionaryValues.{if_ok}
use Rattle.dw_codec_runs.proofs.dictionary_encode.encode_items.Goals as goal

pub loop-init : goal.loop-init
loop-init c =
    let E : List (List ℕ) → List ℕ → Type 0 = λ known places. IsEncoding c.args.shape c.args.count c.args.plain.now known places c.args.plain.now 0 in
    record {
      encoding = subst (λ known. E known c.in_ok-places.places.items) (sym c.new-known.ensures)
          (subst (E []) (sym c.in_ok-places.ensures.items) (encoding_begins c.args.shape c.args.count c.args.plain.now c.requires.items));
      few = omega (arith, ap length c.new-known.ensures);
    }

pub first_len-requires-clause-there : goal.first_len-requires-clause-there
first_len-requires-clause-there c =
    begins_there c.args.shape c.requires.shape c.args.count c.args.plain.now c.loop.known c.loop.places.items c.loop.rest.now c.loop.counter c.loop.invariant.encoding (omega arith)

pub returns-then-len-gt256 : goal.returns-then-len-gt256
returns-then-len-gt256 c =
    let len : ℕ = c.first_len.result in
    let same : c.meet.new.self ≡ met c.loop.known (take len c.loop.rest.now) = c.in_ok-place.ensures.known ∙ ap (met c.loop.known) c.split_at.ensures.front in
    if_ok (λ (bytes : Vec ℕ Global). bytes.items ≡ 255 ∷ 255 ∷ c.args.plain.now)
    (λ (bytes : Vec ℕ Global). IsUnpacked c.args.shape c.args.count bytes.items c.args.plain.now)
    (λ bytes. encoding_long c.args.shape c.requires.shape c.args.count c.args.plain.now c.loop.known c.loop.places.items c.loop.rest.now c.loop.counter c.loop.invariant.encoding (omega arith) len c.first_len.ensures.item
    bytes.items (omega (arith, c.len.ensures, c.if-len-gt256.true, ap length same)))
    c.write_long.result c.write_long.ensures

pub loop-preserved : goal.loop-preserved
loop-preserved c =
    let len : ℕ = c.first_len.result in
    let item : List ℕ = take len c.loop.rest.now in
    let same : c.meet.new.self ≡ met c.loop.known item = c.in_ok-place.ensures.known ∙ ap (met c.loop.known) c.split_at.ensures.front in
    let placed : c.in_ok-place.place ≡ place_among (met c.loop.known item) item =
    c.in_ok-place.ensures.place ∙ (ap (λ known. place_among known c.split_at.result.0.now) same ∙ ap (place_among (met c.loop.known item)) c.split_at.ensures.front) in
    let pushed : c.push.new.self.items ≡ c.loop.places.items ++ place_among (met c.loop.known item) item ∷ [] =
    c.in_ok-push.ensures.items ∙ ap (λ (p : ℕ). c.loop.places.items ++ p ∷ []) placed in
    let E : List (List ℕ) → List ℕ → List ℕ → Type 0 = λ known places rest. IsEncoding c.args.shape c.args.count c.args.plain.now known places rest (c.loop.counter + 1) in
    let goes : E (met c.loop.known item) (c.loop.places.items ++ place_among (met c.loop.known item) item ∷ []) (drop len c.loop.rest.now) =
    encoding_goes c.args.shape c.requires.shape c.args.count c.args.plain.now c.loop.known c.loop.places.items c.loop.rest.now c.loop.counter c.loop.invariant.encoding (omega arith) len c.first_len.ensures.item in
    record {
      encoding = subst (λ known. E known c.push.new.self.items c.split_at.result.1.now) (sym same)
          (subst (λ places. E (met c.loop.known item) places c.split_at.result.1.now) (sym pushed)
          (subst (E (met c.loop.known item) (c.loop.places.items ++ place_among (met c.loop.known item) item ∷ [])) (sym c.split_at.ensures.back) goes));
      few = omega (arith, c.len.ensures, c.if-len-gt256.false);
    }

pub write_short-requires : goal.write_short-requires
write_short-requires c = c.loop.invariant.few

pub returns : goal.returns
returns c =
    if_ok (λ (bytes : Vec ℕ Global). bytes.items ≡ low_bytes 2 (length c.loop.known) ++ (concat c.loop.known ++ c.loop.places.items))
    (λ (bytes : Vec ℕ Global). IsUnpacked c.args.shape c.args.count bytes.items c.args.plain.now)
    (λ bytes. encoding_short c.args.shape c.requires.shape c.args.count c.args.plain.now c.loop.known c.loop.places.items c.loop.rest.now c.loop.counter c.loop.invariant.encoding bytes.items (omega arith) c.loop.invariant.few)
    c.write_short.result
    (subst (λ (p : List ℕ). IfOk c.write_short.result (λ bytes. bytes.items ≡ low_bytes 2 (length c.loop.known) ++ (concat c.loop.known ++ p))) c.as_slice.ensures.value c.write_short.ensures)
