use Rattle.std.proofs.Common.{◌≡◌, ◌++◌, List, ℕ, get_or, ap, ◌∙◌}
use Rattle.dw_codec_plain.specs.Encodings.{IsText, raw_text, raw_text_item}
use Rattle.dw_codec_plain.proofs.Encoding.{encoding_goes_on}
use Rattle.dw_codec_plain.proofs.texts.encode_raw_texts.Goals as goal

pub loop-text-preserved : goal.loop-text-preserved
loop-text-preserved c =
    let text : List ℕ = c.text-item.result in
    let old : List ℕ = c.loop-text.bytes.items in
    let written : c.push_text.new.out.items ≡ old ++ raw_text (get_or c.args.values.now c.loop-text.text-index text) =
    c.in_ok-push_text.ensures.ok ∙ ap (λ (t : List ℕ). old ++ raw_text t) c.text-item.is in
    encoding_goes_on raw_text_item IsText c.args.values.now c.loop-text.text-index text old c.push_text.new.out.items c.loop-text-test.true c.loop-text.invariant written
