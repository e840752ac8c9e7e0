use Rattle.std.proofs.Common.{refl, arith}
use Rattle.dw_expr.specs.Operands.{outcome_of}
use Rattle.dw_expr.proofs.Disjunctions.{false_any}
use Rattle.dw_expr.proofs.evaluation.+evaluate.Goals as goal

pub equals_any-loop-rest-init : goal.equals_any-loop-rest-init
equals_any-loop-rest-init g t c = record {
  size = omega arith;
  truth = refl;
  rest = false_any (g.C.Columns.values c.args.columns.now) c.args.kind (outcome_of c.args.sought.now) c.args.list.now;
}
