-- BETWEEN and IN by the comparisons that they stand for.
use Rattle.std.proofs.Common.{◌≡◌, Bool, true, false, List, [], ◌∷◌, Option, Some, None, option_map, if◌then◌else◌, ◌⊎◌, inl, inr, ap, refl}
use Rattle.std.specs.Prelude.{option_and_then}
use Rattle.dw_value.specs.declared.kinds.Comparison.{Comparison}
use Rattle.dw_value.specs.declared.kinds.Comparison.TheVariants.{Equal, AtMost, AtLeast}
use Rattle.dw_value.specs.declared.values.Value.{Value}
use Rattle.dw_expr.specs.declared.typed.Typed.{Typed}
use Rattle.dw_expr.specs.declared.typed.Typed.TheVariants.{Decided, Undecided}
use Rattle.dw_expr.specs.Classes.{is_date}
use Rattle.dw_expr.specs.BoundTree as t
use Rattle.dw_expr.specs.BoundTree.{BoundTree, BoundTrees, both, compared, between, in_list, kind_of, none, more}
use Rattle.dw_expr.specs.Binding.{opposite_if, between_of, between_tests, in_of, equality_tests, against, against_all, comparison_of, compared_with, left_side, as_date, with_both, some_both, some_between, some_either, some_more, unless_literal}
use Rattle.dw_expr.specs.Evaluation.{value, any_equal, not_if}
use Rattle.dw_expr.specs.Laws.{equalities}

-- values of BETWEEN and IN on a row
pub between_values : (row : List Value) (negated : Bool) (a low high : BoundTree)
    → value row (between negated a low high)
    ≡ value row (opposite_if negated (both (compared AtLeast a low) (compared AtMost a high)))
between_values row true a low high = refl
between_values row false a low high = refl

any_equal-equalities : (row : List Value) (a : BoundTree) (list : BoundTrees)
    → any_equal row (kind_of a) (value row a) list ≡ value row (equalities a list)
any_equal-equalities row a none = refl
any_equal-equalities row a (more b rest) = simp (any_equal-equalities row a rest)

pub in_values : (row : List Value) (negated : Bool) (a : BoundTree) (list : BoundTrees)
    → value row (in_list negated a list) ≡ value row (opposite_if negated (equalities a list))
in_values row true a list = ap (not_if true) (any_equal-equalities row a list)
in_values row false a list = any_equal-equalities row a list

-- an operand is a literal, or it stands once and no date changes it
abbrev Stands : BoundTree → Type 0
Stands a = (unless_literal a ≡ None) ⊎ ((unless_literal a ≡ Some a) × (as_date a ≡ Some a))

stands : (a : BoundTree) → Stands a
stands (t.literal x kind) = inl refl
stands a = inr (refl, refl)

read : (is_day : Bool) (a : BoundTree) → as_date a ≡ Some a → (if is_day then as_date a else Some a) ≡ Some a
read true a e = e
read false a e = refl

left : (a : BoundTree) (b : Typed) → as_date a ≡ Some a → left_side (Decided a) b ≡ Some a
left a (Decided b) e = read (is_date (kind_of b)) a e
left a Undecided e = refl

by_right : (comparison : Comparison) (a : BoundTree) (b : Typed) → as_date a ≡ Some a
    → comparison_of comparison (Decided a) b ≡ option_map (compared comparison a) (against a b)
by_right comparison a b e = ap (option_and_then (compared_with comparison b)) (left a b e)

-- BETWEEN of an operand that stands once
abbrev sides : BoundTree → (low high : Option BoundTree) → Option BoundTree
sides a low high = with_both some_both (option_map (compared AtLeast a) low) (option_map (compared AtMost a) high)

of_sides : (row : List Value) (negated : Bool) (a : BoundTree) (low high : Option BoundTree)
    → option_map (value row) (with_both (some_between negated a) low high)
    ≡ option_map (value row) (option_map (opposite_if negated) (sides a low high))
of_sides row negated a (Some low) (Some high) = ap Some (between_values row negated a low high)
of_sides row negated a (Some low) None = refl
of_sides row negated a None high = refl

tests : (a : BoundTree) (low high : Typed) → as_date a ≡ Some a
    → between_tests (Decided a) low high ≡ sides a (against a low) (against a high)
tests a low high e = simp (by_right AtLeast a low e, by_right AtMost a high e)

decided_between : (row : List Value) (negated : Bool) (a : BoundTree) (low high : Typed)
    → Stands a
    → option_map (value row) (between_of negated (Decided a) low high)
    ≡ option_map (value row) (option_map (opposite_if negated) (between_tests (Decided a) low high))
decided_between row negated a low high (inl e) = rw e refl
decided_between row negated a low high (inr e) =
    rw (e.0, tests a low high e.1) (of_sides row negated a (against a low) (against a high))

pub between_bound : (row : List Value) (negated : Bool) (a low high : Typed)
    → option_map (value row) (between_of negated a low high)
    ≡ option_map (value row) (option_map (opposite_if negated) (between_tests a low high))
between_bound row negated (Decided a) low high = decided_between row negated a low high (stands a)
between_bound row negated Undecided low high = refl

-- IN of an operand that stands once
joined_some : (a : BoundTree) (x : Option BoundTree) (rest : Option BoundTrees)
    → with_both some_either (option_map (compared Equal a) x) (option_map (equalities a) rest)
    ≡ option_map (equalities a) (with_both some_more x rest)
joined_some a (Some x) (Some rest) = refl
joined_some a (Some x) None = refl
joined_some a None rest = refl

equality_tests-all : (a : BoundTree) (list : List Typed) → as_date a ≡ Some a
    → equality_tests (Decided a) list ≡ option_map (equalities a) (against_all a list)
equality_tests-all a [] e = refl
equality_tests-all a (b ∷ rest) e =
    simp (by_right Equal a b e, equality_tests-all a rest e) (joined_some a (against a b) (against_all a rest))

of_list : (row : List Value) (negated : Bool) (a : BoundTree) (list : Option BoundTrees)
    → option_map (value row) (option_map (in_list negated a) list)
    ≡ option_map (value row) (option_map (opposite_if negated) (option_map (equalities a) list))
of_list row negated a (Some list) = ap Some (in_values row negated a list)
of_list row negated a None = refl

decided_in : (row : List Value) (negated : Bool) (a : BoundTree) (list : List Typed)
    → Stands a
    → option_map (value row) (in_of negated (Decided a) list)
    ≡ option_map (value row) (option_map (opposite_if negated) (equality_tests (Decided a) list))
decided_in row negated a list (inl e) = rw e refl
decided_in row negated a list (inr e) =
    rw (e.0, equality_tests-all a list e.1) (of_list row negated a (against_all a list))

pub in_bound : (row : List Value) (negated : Bool) (a : Typed) (list : List Typed)
    → option_map (value row) (in_of negated a list)
    ≡ option_map (value row) (option_map (opposite_if negated) (equality_tests a list))
in_bound row negated (Decided a) list = decided_in row negated a list (stands a)
in_bound row negated Undecided list = refl
