-- The OR of many outcomes.
use Rattle.std.proofs.Common.{◌≡◌, List, Ok, Err, false, refl, ap}
use Rattle.dw_value.specs.declared.kinds.Fault.{Fault}
use Rattle.dw_value.specs.declared.kinds.Fault.TheVariants.{Range, Zero}
use Rattle.dw_value.specs.declared.kinds.Truth.{Truth}
use Rattle.dw_value.specs.declared.kinds.Truth.TheVariants.{False, Unknown, True}
use Rattle.dw_value.specs.declared.kinds.Kind.{Kind}
use Rattle.dw_value.specs.declared.kinds.Comparison.TheVariants.{Equal}
use Rattle.dw_value.specs.declared.values.Value.{Value}
use Rattle.dw_value.specs.declared.values.Value.TheVariants.{Truth as Logical}
use Rattle.dw_expr.specs.Truths.{disjunction, truth_in, truth_value}
use Rattle.dw_expr.specs.BoundTree.{BoundTrees, kind_of, none, more}
use Rattle.dw_expr.specs.Evaluation.{Outcome, value, least_fault, comparison_of, either_of, any_equal}

truth_again : (t : Truth) → truth_in (truth_value t) ≡ t
truth_again False = refl
truth_again Unknown = refl
truth_again True = refl

least_assoc : (a b c : Fault) → least_fault (least_fault a b) c ≡ least_fault a (least_fault b c)
least_assoc Zero Zero Zero = refl
least_assoc Zero Zero Range = refl
least_assoc Zero Range c = refl
least_assoc Range b c = refl

disjunction_false : (t : Truth) → disjunction t False ≡ t
disjunction_false False = refl
disjunction_false Unknown = refl
disjunction_false True = refl

false_disjunction : (t : Truth) → disjunction False t ≡ t
false_disjunction False = refl
false_disjunction Unknown = refl
false_disjunction True = refl

disjunction_assoc : (a b c : Truth) → disjunction (disjunction a b) c ≡ disjunction a (disjunction b c)
disjunction_assoc True b c = refl
disjunction_assoc False b c = simp (false_disjunction b, false_disjunction (disjunction b c)) refl
disjunction_assoc Unknown True c = refl
disjunction_assoc Unknown False c = simp (false_disjunction c) refl
disjunction_assoc Unknown Unknown True = refl
disjunction_assoc Unknown Unknown False = refl
disjunction_assoc Unknown Unknown Unknown = refl

-- OR is associative
pub either_assoc : (a b c : Outcome) → either_of (either_of a b) c ≡ either_of a (either_of b c)
either_assoc (Ok x) (Ok y) (Ok z) =
    simp (
      truth_again (disjunction (truth_in x) (truth_in y)),
      truth_again (disjunction (truth_in y) (truth_in z)),
      disjunction_assoc (truth_in x) (truth_in y) (truth_in z),
    ) refl
either_assoc (Err a) (Err b) (Err c) = ap Err (least_assoc a b c)
either_assoc (Err a) (Err b) (Ok z) = refl
either_assoc (Err a) (Ok y) (Err c) = refl
either_assoc (Err a) (Ok y) (Ok z) = refl
either_assoc (Ok x) (Err b) (Err c) = refl
either_assoc (Ok x) (Err b) (Ok z) = refl
either_assoc (Ok x) (Ok y) (Err c) = refl

-- what an OR gives stays so beside false, on either side
pub either_false : (a b : Outcome) → either_of (either_of a b) (Ok (Logical false)) ≡ either_of a b
either_false (Ok x) (Ok y) =
    simp (
      truth_again (disjunction (truth_in x) (truth_in y)),
      disjunction_false (disjunction (truth_in x) (truth_in y)),
    ) refl
either_false (Ok x) (Err b) = refl
either_false (Err a) (Ok y) = refl
either_false (Err a) (Err b) = refl

false_either : (a b : Outcome) → either_of (Ok (Logical false)) (either_of a b) ≡ either_of a b
false_either (Ok x) (Ok y) =
    simp (
      truth_again (disjunction (truth_in x) (truth_in y)),
      false_disjunction (disjunction (truth_in x) (truth_in y)),
    ) refl
false_either (Ok x) (Err b) = refl
false_either (Err a) (Ok y) = refl
false_either (Err a) (Err b) = refl

-- so does what the equalities of a list give
pub false_any : (row : List Value) (kind : Kind) (sought : Outcome) (list : BoundTrees)
    → either_of (Ok (Logical false)) (any_equal row kind sought list) ≡ any_equal row kind sought list
false_any row kind sought none = refl
false_any row kind sought (more a rest) =
    false_either (comparison_of Equal kind sought (kind_of a) (value row a)) (any_equal row kind sought rest)
