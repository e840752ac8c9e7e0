-- NOT after NOT.
use Rattle.std.proofs.Common.{◌≡◌, true, List, Ok, Err, refl}
use Rattle.dw_value.specs.declared.kinds.Truth.{Truth}
use Rattle.dw_value.specs.declared.kinds.Truth.TheVariants.{False, Unknown, True}
use Rattle.dw_value.specs.declared.values.Value.{Value}
use Rattle.dw_expr.specs.Truths.{negation, truth_in, truth_value}
use Rattle.dw_expr.specs.BoundTree.{BoundTree, opposite}
use Rattle.dw_expr.specs.Evaluation.{Outcome, value, not_if}

of_truth : (truth : Truth) → not_if true (not_if true (Ok (truth_value truth))) ≡ Ok (truth_value truth)
of_truth False = refl
of_truth Unknown = refl
of_truth True = refl

pub not_twice : (row : List Value) (a : BoundTree) (truth : Truth) → value row a ≡ Ok (truth_value truth)
    → value row (opposite (opposite a)) ≡ value row a
not_twice row a truth e = rw e (of_truth truth)

of_outcome : (a : Outcome) → not_if true (not_if true (not_if true a)) ≡ not_if true a
of_outcome (Ok x) = of_truth (negation (truth_in x))
of_outcome (Err fault) = refl

pub not_thrice : (row : List Value) (a : BoundTree)
    → value row (opposite (opposite (opposite a))) ≡ value row (opposite a)
not_thrice row a = of_outcome (value row a)
