use Rattle.dw_expr.proofs.Faultless.{plain_compared}
use Rattle.dw_expr.proofs.laws.plain_comparisons_have_no_fault.Goals as goal

pub returns : goal.returns
returns c = plain_compared
