use Rattle.dw_expr.proofs.Faultless.{safe}
use Rattle.dw_expr.proofs.laws.safe_predicates_have_no_fault.Goals as goal

pub returns : goal.returns
returns c = safe
