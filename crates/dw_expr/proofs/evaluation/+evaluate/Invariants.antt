use Rattle.std.proofs.Common.{◌≡◌, ◌≤◌, Ok, false}
use Rattle.dw_value.specs.declared.values.Value.TheVariants.{Truth as Logical}
use Rattle.dw_expr.specs.BoundTree.{bounds_size, arms_size}
use Rattle.dw_expr.specs.Evaluation.{Outcome, any_equal, chosen, either_of, first_known}
use Rattle.dw_expr.specs.Operands.{outcome_of}
use Rattle.dw_expr.proofs.evaluation.+evaluate.Given as goal

abbrev pub decreases-equals_any : goal.decreases-equals_any
decreases-equals_any g l = goal.size-equals_any g l

abbrev pub decreases-found_arm : goal.decreases-found_arm
decreases-found_arm g l = goal.size-found_arm g l

abbrev pub decreases-known_first : goal.decreases-known_first
decreases-known_first g l = goal.size-known_first g l

abbrev pub decreases-operand : goal.decreases-operand
decreases-operand g l = goal.size-operand g l

abbrev pub invariant-equals_any-loop-rest : goal.invariant-equals_any-loop-rest
invariant-equals_any-loop-rest g l = record {
  size : bounds_size l.rest ≤ bounds_size l.list;
  truth : either_of (outcome_of l.found) (Ok (Logical false)) ≡ outcome_of l.found;
  rest : either_of (outcome_of l.found) (any_equal (g.C.Columns.values l.columns) l.kind (outcome_of l.sought) l.rest)
      ≡ any_equal (g.C.Columns.values l.columns) l.kind (outcome_of l.sought) l.list;
}

abbrev pub invariant-found_arm-loop-rest : goal.invariant-found_arm-loop-rest
invariant-found_arm-loop-rest g l = record {
  size : arms_size l.rest ≤ arms_size l.arms;
  rest : (other : Outcome)
      → chosen (g.C.Columns.values l.columns) l.kind l.arms other
      ≡ chosen (g.C.Columns.values l.columns) l.kind l.rest other;
}

abbrev pub invariant-known_first-loop-rest : goal.invariant-known_first-loop-rest
invariant-known_first-loop-rest g l = record {
  size : bounds_size l.rest ≤ bounds_size l.list;
  rest : first_known (g.C.Columns.values l.columns) l.kind l.rest
      ≡ first_known (g.C.Columns.values l.columns) l.kind l.list;
}
