use Rattle.std.proofs.Common.{None, arith}
use Rattle.dw_codec_plain.specs.Numbers.{FitsWidth}
use Rattle.dw_codec_plain.proofs.Items.{one_form}
use Rattle.dw_codec_plain.proofs.Forms.{width_of_step, length-form}
use Rattle.dw_codec_plain.proofs.MostlyItems.{mostly_item, mostly_free}
use Rattle.dw_codec_plain.proofs.Signed.{sized}
use Rattle.dw_codec_plain.proofs.laws.mostly_has_one_form.Goals as goal

pub returns : goal.returns
returns c = λ width step values others is is' fits fits' same.
    let isw = width_of_step step is' in
    one_form (mostly_item width step) (FitsWidth width) (mostly_free width step is isw)
    (λ before value. let size = sized step isw in omega (arith, size.some, length-form width step value value)) None values others fits fits' same
