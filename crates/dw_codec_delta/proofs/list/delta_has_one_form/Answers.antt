use Rattle.std.proofs.Common.{None}
use Rattle.dw_codec_plain.specs.Numbers.{FitsWidth}
use Rattle.dw_codec_plain.proofs.Items.{one_form}
use Rattle.dw_codec_plain.proofs.Forms.{width_of_step}
use Rattle.dw_codec_delta.specs.Delta.{delta_item}
use Rattle.dw_codec_delta.proofs.DeltaItems.{mostly_step, delta_free, delta_some}
use Rattle.dw_codec_delta.proofs.list.delta_has_one_form.Goals as goal

pub returns : goal.returns
returns c = λ width step values others is is' fits fits' same.
    let isw = width_of_step step (mostly_step step is') in
    one_form (delta_item width step) (FitsWidth width) (delta_free width step is isw) (delta_some width step is isw) None values others fits fits' same
