use Rattle.std.proofs.Common.{None, arith}
use Rattle.dw_codec_plain.specs.Encodings.{IsText, raw_text_item}
use Rattle.dw_codec_plain.proofs.Items.{one_form}
use Rattle.dw_codec_plain.proofs.TextItems.{texts_free, length-raw_text}
use Rattle.dw_codec_plain.proofs.laws.raw_texts_have_one_form.Goals as goal

pub returns : goal.returns
returns c = λ values others fits fits' same.
    one_form raw_text_item IsText texts_free (λ before text. omega (arith, length-raw_text text)) None values others fits fits' same
