use Rattle.std.specs.Ordering.{int_eq}
use Rattle.dw_codec_plain.specs.Numbers.{FitsWidth, number}
use Rattle.dw_codec_runs.proofs.RunsForm.{one_form}
use Rattle.dw_codec_runs.proofs.RunsNumbers.{number_code}
use Rattle.dw_codec_runs.proofs.runlength.runlength_has_one_form.Goals as goal

pub returns : goal.returns
returns c = λ width values others is most most' fits fits' same.
    one_form int_eq (number width) (FitsWidth width) (number_code width is) values others most most' fits fits' same
