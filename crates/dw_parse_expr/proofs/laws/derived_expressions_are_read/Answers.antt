use Rattle.dw_parse_expr.proofs.Answered.{read_of}
use Rattle.dw_parse_expr.proofs.laws.derived_expressions_are_read.Goals as goal

pub returns : goal.returns
returns c = read_of
