use Rattle.dw_value.proofs.Rounding.{IsRounded-rounded}
use Rattle.dw_value.proofs.laws.rounding_is_to_the_nearest.Goals as goal

pub returns : goal.returns
returns c = IsRounded-rounded
