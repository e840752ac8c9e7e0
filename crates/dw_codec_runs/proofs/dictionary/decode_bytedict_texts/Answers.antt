use Rattle.std.proofs.Common.{◌≡◌, ℕ, List, Vec, Global, sym, subst}
use Rattle.dw_codec_plain.specs.declared.fault.CodecFault.{CodecFault}
use Rattle.dw_codec_plain.specs.Encodings.{IsText, raw_text, raw_texts}
use Rattle.dw_codec_plain.specs.Spelling.{IsListOf, Explains}
use Rattle.dw_codec_runs.specs.Dictionary.{bytedict_texts}
use Rattle.dw_codec_runs.specs.DictionaryParts.{IsUnpacked}
use Rattle.dw_codec_runs.specs.declared.dictionary_item.Shape.TheVariants.{Text}
use Rattle.dw_codec_runs.proofs.DictionaryValues.{texts_spelled, if_ok, if_err, decoded, raw_fault, items_fault}
use Rattle.dw_codec_runs.proofs.dictionary.decode_bytedict_texts.Goals as goal

pub returns-in-Ok-clause-values : goal.returns-in-Ok-clause-values
returns-in-Ok-clause-values c =
    let u : IsUnpacked Text c.args.count c.args.bytes.now c.as_slice.result.now =
    subst (IsUnpacked Text c.args.count c.args.bytes.now) (sym c.as_slice.ensures.value) c.in-Ok.ensures.plain in
    if_ok (λ (values : Vec (List ℕ) Global). IsListOf IsText c.args.count values.items × (c.as_slice.result.now ≡ raw_texts values.items))
    (λ (values : Vec (List ℕ) Global). IsListOf IsText c.args.count values.items × (c.args.bytes.now ≡ bytedict_texts values.items))
    (λ values. decoded Text tt IsText raw_text texts_spelled c.args.count c.args.bytes.now c.as_slice.result.now u values.items)
    c.decode_raw_texts.result c.decode_raw_texts.ensures.values

pub returns-in-Ok-clause-fault : goal.returns-in-Ok-clause-fault
returns-in-Ok-clause-fault c =
    let u : IsUnpacked Text c.args.count c.args.bytes.now c.as_slice.result.now =
    subst (IsUnpacked Text c.args.count c.args.bytes.now) (sym c.as_slice.ensures.value) c.in-Ok.ensures.plain in
    if_err (λ (fault : CodecFault). Explains fault raw_texts IsText c.args.count c.as_slice.result.now)
    (λ (fault : CodecFault). Explains fault bytedict_texts IsText c.args.count c.args.bytes.now)
    (raw_fault Text tt IsText raw_text texts_spelled c.args.count c.args.bytes.now c.as_slice.result.now u)
    c.decode_raw_texts.result c.decode_raw_texts.ensures.fault

pub returns-in-Err-clause-fault : goal.returns-in-Err-clause-fault
returns-in-Err-clause-fault c =
    items_fault Text tt IsText raw_text texts_spelled c.args.count c.args.bytes.now c.in-Err.fault c.in-Err.ensures.fault
