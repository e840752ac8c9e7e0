use Rattle.std.proofs.Common.{None, arith}
use Rattle.dw_codec_plain.specs.Numbers.{FitsWidth}
use Rattle.dw_codec_plain.proofs.Items.{one_form}
use Rattle.dw_codec_plain.proofs.RawItems.{raw_item, raw_free, length-number}
use Rattle.dw_codec_plain.proofs.Signed.{sized}
use Rattle.dw_codec_plain.proofs.laws.raw_has_one_form.Goals as goal

pub returns : goal.returns
returns c = λ width values others is fits fits' same.
    one_form (raw_item width) (FitsWidth width) (raw_free width is)
    (λ before value. let size = sized width is in omega (arith, size.some, length-number width value)) None values others fits fits' same
