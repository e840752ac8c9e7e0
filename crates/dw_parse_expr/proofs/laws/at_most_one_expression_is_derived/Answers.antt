use Rattle.dw_parse_expr.proofs.Answered.{one_expression}
use Rattle.dw_parse_expr.proofs.laws.at_most_one_expression_is_derived.Goals as goal

pub returns : goal.returns
returns c = one_expression
