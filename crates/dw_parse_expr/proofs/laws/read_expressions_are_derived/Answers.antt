use Rattle.dw_parse_expr.proofs.Answered.{derived}
use Rattle.dw_parse_expr.proofs.laws.read_expressions_are_derived.Goals as goal

pub returns : goal.returns
returns c = derived
