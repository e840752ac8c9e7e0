-- The values so far, with those that are left, are all.
use Rattle.std.proofs.Common.{◌≡◌, drop}
use Rattle.dw_query.specs.Stages.{joined, stage, value_on}
use Rattle.dw_query.specs.Outcomes.{so_far}
use Rattle.dw_query.proofs.stages.row_on.Given as goal

abbrev pub invariant-loop-expr : goal.invariant-loop-expr
invariant-loop-expr l =
    joined (so_far l.values.made l.values.least) (stage (value_on l.row.values) (drop l.expr-index l.exprs)) ≡ stage (value_on l.row.values) l.exprs
