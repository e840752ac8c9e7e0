use Rattle.dw_expr.proofs.Constants.{alike}
use Rattle.dw_expr.proofs.laws.constants_have_one_value.Goals as goal

pub returns : goal.returns
returns c = alike
