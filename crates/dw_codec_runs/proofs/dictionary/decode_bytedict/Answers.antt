use Rattle.std.proofs.Common.{◌≡◌, ℤ, Vec, Global, sym, subst}
use Rattle.dw_codec_plain.specs.declared.fault.CodecFault.{CodecFault}
use Rattle.dw_codec_plain.specs.Numbers.{FitsWidth, number}
use Rattle.dw_codec_plain.specs.Encodings.{raw}
use Rattle.dw_codec_plain.specs.Spelling.{IsListOf, Explains}
use Rattle.dw_codec_runs.specs.Dictionary.{bytedict}
use Rattle.dw_codec_runs.specs.DictionaryParts.{IsUnpacked}
use Rattle.dw_codec_runs.specs.declared.dictionary_item.Shape.TheVariants.{Number}
use Rattle.dw_codec_runs.proofs.DictionaryValues.{numbers_spelled, if_ok, if_err, decoded, raw_fault, items_fault}
use Rattle.dw_codec_runs.proofs.dictionary.decode_bytedict.Goals as goal

pub returns-in-Ok-clause-values : goal.returns-in-Ok-clause-values
returns-in-Ok-clause-values c =
    let u : IsUnpacked (Number c.args.width) c.args.count c.args.bytes.now c.as_slice.result.now =
    subst (IsUnpacked (Number c.args.width) c.args.count c.args.bytes.now) (sym c.as_slice.ensures.value) c.in-Ok.ensures.plain in
    if_ok (λ (values : Vec ℤ Global). IsListOf (FitsWidth c.args.width) c.args.count values.items × (c.as_slice.result.now ≡ raw c.args.width values.items))
    (λ (values : Vec ℤ Global). IsListOf (FitsWidth c.args.width) c.args.count values.items × (c.args.bytes.now ≡ bytedict c.args.width values.items))
    (λ values. decoded (Number c.args.width) c.requires.width (FitsWidth c.args.width) (number c.args.width) (numbers_spelled c.args.width c.requires.width) c.args.count c.args.bytes.now c.as_slice.result.now u values.items)
    c.decode_raw.result c.decode_raw.ensures.values

pub returns-in-Ok-clause-fault : goal.returns-in-Ok-clause-fault
returns-in-Ok-clause-fault c =
    let u : IsUnpacked (Number c.args.width) c.args.count c.args.bytes.now c.as_slice.result.now =
    subst (IsUnpacked (Number c.args.width) c.args.count c.args.bytes.now) (sym c.as_slice.ensures.value) c.in-Ok.ensures.plain in
    if_err (λ (fault : CodecFault). Explains fault (raw c.args.width) (FitsWidth c.args.width) c.args.count c.as_slice.result.now)
    (λ (fault : CodecFault). Explains fault (bytedict c.args.width) (FitsWidth c.args.width) c.args.count c.args.bytes.now)
    (raw_fault (Number c.args.width) c.requires.width (FitsWidth c.args.width) (number c.args.width) (numbers_spelled c.args.width c.requires.width) c.args.count c.args.bytes.now c.as_slice.result.now u)
    c.decode_raw.result c.decode_raw.ensures.fault

pub returns-in-Err-clause-fault : goal.returns-in-Err-clause-fault
returns-in-Err-clause-fault c =
    items_fault (Number c.args.width) c.requires.width (FitsWidth c.args.width) (number c.args.width) (numbers_spelled c.args.width c.requires.width) c.args.count c.args.bytes.now c.in-Err.fault c.in-Err.ensures.fault
