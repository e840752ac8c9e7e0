use Rattle.dw_expr.specs.BoundTreeCodes.{coded_bound}
use Rattle.dw_expr.specs.Sameness.{same_by_from_iff}
use Rattle.dw_expr.proofs.bound.BoundExprPartialEq.eq.Goals as goal

pub returns-clause-answer : goal.returns-clause-answer
returns-clause-answer c = same_by_from_iff coded_bound _ _ _ c.is_same.ensures
