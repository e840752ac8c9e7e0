use Rattle.std.proofs.Common.{◌≡◌, ℕ, Vec, Global, length, ◌∙◌}
use Rattle.dw_codec_plain.specs.Encodings.{IsText, raw_text}
use Rattle.dw_codec_runs.specs.Dictionary.{bytedict_texts}
use Rattle.dw_codec_runs.specs.DictionaryParts.{IsTextItem, IsUnpacked}
use Rattle.dw_codec_runs.specs.declared.dictionary_item.Shape.TheVariants.{Text}
use Rattle.dw_codec_runs.proofs.DictionaryEncoding.{raw_items}
use Rattle.dw_codec_runs.proofs.DictionaryValues.{texts_spelled, if_ok, packed}
use Rattle.dw_codec_runs.proofs.dictionary.encode_bytedict_texts.Goals as goal

pub encode_items-requires-clause-items : goal.encode_items-requires-clause-items
encode_items-requires-clause-items c =
    raw_items IsText raw_text IsTextItem texts_spelled c.args.values.now c.as_slice.result.now c.requires.texts (c.as_slice.ensures.value ∙ c.in_ok-plain.ensures)

pub returns : goal.returns
returns c =
    if_ok (λ (bytes : Vec ℕ Global). IsUnpacked Text (length c.args.values.now) bytes.items c.as_slice.result.now)
    (λ (bytes : Vec ℕ Global). bytes.items ≡ bytedict_texts c.args.values.now)
    (λ bytes. packed Text tt IsText raw_text texts_spelled (length c.args.values.now) c.args.values.now bytes.items c.as_slice.result.now c.requires.texts (c.as_slice.ensures.value ∙ c.in_ok-plain.ensures))
    c.encode_items.result c.encode_items.ensures
