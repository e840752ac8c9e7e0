use Rattle.std.proofs.Common.{◌≡◌, ◌++◌, ◌∷◌, ◌+◌, ◌≤◌, [], ℕ, List, length, None, arith, sym, ap, ◌∙◌, refl}
use Rattle.std.proofs.lemmas.Bool.{eqb-false}
use Rattle.std.proofs.lemmas.List.{length_push}
use Rattle.dw_codec_plain.specs.Encodings.{IsText, raw_text, raw_text_item}
use Rattle.dw_codec_plain.proofs.Items.{last_of}
use Rattle.dw_codec_plain.proofs.Decoding.{decoding_goes_on, decoding_stops, decoding_trails, decoding_within}
use Rattle.dw_codec_plain.proofs.TextItems.{texts_free, texts_none, texts_front}
use Rattle.dw_codec_plain.proofs.texts.decode_raw_texts.Goals as goal

pub returns-in-None-clause-fault : goal.returns-in-None-clause-fault
returns-in-None-clause-fault c =
    let within : length c.loop.rest.now ≤ length c.args.bytes.now = decoding_within raw_text_item IsText c.args.bytes.now c.loop.values.items c.loop.rest.now c.loop.invariant.decoding in
    decoding_stops raw_text_item IsText texts_free c.args.bytes.now c.loop.values.items c.loop.rest.now c.args.count
    (length c.loop.rest.now) (length c.args.bytes.now) c.loop.invariant.decoding (omega arith) (omega arith)
    (texts_none (last_of None c.loop.values.items) c.loop.rest.now c.in-None.ensures.none)
    (texts_front (last_of None c.loop.values.items) c.loop.rest.now (length c.loop.rest.now) c.in-None.ensures.front)

pub loop-preserved : goal.loop-preserved
loop-preserved c =
    let text : List ℕ = c.in-Some.text.now in
    let is : c.loop.rest.now ≡ raw_text text ++ c.in-Some.after.now = c.in-Some.ensures.spells in
    let copied : c.in_ok-value-in-Some.value ≡ text = c.in_ok-value-in-Some.ensures in
    let pushed : c.push.new.self.items ≡ c.loop.values.items ++ text ∷ [] =
    c.in_ok-push-in-Some.ensures.items ∙ ap (λ (t : List ℕ). c.loop.values.items ++ t ∷ []) copied in
    record {
      decoding = rw pushed (decoding_goes_on raw_text_item IsText c.args.bytes.now c.loop.values.items c.loop.rest.now c.in-Some.after.now text c.loop.invariant.decoding c.in-Some.ensures.text is);
      counted = rw pushed (length_push c.loop.values.items text ∙ ap (λ (n : ℕ). n + 1) c.loop.invariant.counted);
    }

pub returns-then-not-is_empty-clause-fault : goal.returns-then-not-is_empty-clause-fault
returns-then-not-is_empty-clause-fault c =
    let some : length c.loop.rest.now ≡ 0 → ⊥ = eqb-false _ _ (sym c.is_empty.ensures ∙ c.if-not-is_empty.true) in
    decoding_trails raw_text_item IsText texts_free c.args.bytes.now c.loop.values.items c.loop.rest.now c.args.count _ c.loop.invariant.decoding (omega arith) refl (omega arith)
