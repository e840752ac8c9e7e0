use Rattle.dw_expr.specs.TreeCodes.{coded_tree}
use Rattle.dw_expr.specs.Sameness.{same_by_from_iff}
use Rattle.dw_expr.proofs.trees.ExprPartialEq.eq.Goals as goal

pub returns-clause-answer : goal.returns-clause-answer
returns-clause-answer c = same_by_from_iff coded_tree _ _ _ c.is_same.ensures
