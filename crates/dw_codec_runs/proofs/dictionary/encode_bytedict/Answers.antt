use Rattle.std.proofs.Common.{◌≡◌, ℕ, Vec, Global, length, ◌∙◌}
use Rattle.dw_codec_plain.specs.Numbers.{FitsWidth, number}
use Rattle.dw_codec_runs.specs.Dictionary.{bytedict}
use Rattle.dw_codec_runs.specs.DictionaryParts.{IsNumberItem, IsUnpacked}
use Rattle.dw_codec_runs.specs.declared.dictionary_item.Shape.TheVariants.{Number}
use Rattle.dw_codec_runs.proofs.DictionaryEncoding.{raw_items}
use Rattle.dw_codec_runs.proofs.DictionaryValues.{numbers_spelled, if_ok, packed}
use Rattle.dw_codec_runs.proofs.dictionary.encode_bytedict.Goals as goal

pub encode_items-requires-clause-items : goal.encode_items-requires-clause-items
encode_items-requires-clause-items c =
    raw_items (FitsWidth c.args.width) (number c.args.width) (IsNumberItem c.args.width) (numbers_spelled c.args.width c.requires.width) c.args.values.now c.as_slice.result.now c.requires.fit
    (c.as_slice.ensures.value ∙ c.in_ok-plain.ensures)

pub returns : goal.returns
returns c =
    if_ok (λ (bytes : Vec ℕ Global). IsUnpacked (Number c.args.width) (length c.args.values.now) bytes.items c.as_slice.result.now)
    (λ (bytes : Vec ℕ Global). bytes.items ≡ bytedict c.args.width c.args.values.now)
    (λ bytes. packed (Number c.args.width) c.requires.width (FitsWidth c.args.width) (number c.args.width) (numbers_spelled c.args.width c.requires.width) (length c.args.values.now) c.args.values.now
    bytes.items c.as_slice.result.now c.requires.fit (c.as_slice.ensures.value ∙ c.in_ok-plain.ensures))
    c.encode_items.result c.encode_items.ensures
