-- What is left of a row that is let go is no larger than the row.
use Rattle.std.proofs.Common.{◌≤◌}
use Rattle.dw_expr.specs.BoundTree.{bounds_size}
use Rattle.dw_expr.proofs.+bound.Given as goal

abbrev pub invariant-bound::BoundExprs::drop-loop-self : goal.invariant-bound::BoundExprs::drop-loop-self
invariant-bound::BoundExprs::drop-loop-self l = bounds_size l.self ≤ bounds_size l.initial.self
