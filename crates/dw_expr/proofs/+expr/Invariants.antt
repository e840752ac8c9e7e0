-- What is left of a row that is let go is no larger than the row.
use Rattle.std.proofs.Common.{◌≤◌}
use Rattle.dw_expr.specs.Tree.{trees_size}
use Rattle.dw_expr.proofs.+expr.Given as goal

abbrev pub invariant-trees::Exprs::drop-loop-self : goal.invariant-trees::Exprs::drop-loop-self
invariant-trees::Exprs::drop-loop-self l = trees_size l.self ≤ trees_size l.initial.self
