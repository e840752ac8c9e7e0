-- Lists that are gone through from their ends.
use Rattle.std.proofs.Common.{◌≡◌, List, [], ◌∷◌, ◌++◌, false, Option, Some, None, refl, ap, sym, ◌∙◌}
use Rattle.dw_value.specs.declared.kinds.Kind.{Kind}
use Rattle.dw_value.specs.declared.kinds.Kind.TheVariants.{Bool as Boolean}
use Rattle.dw_value.specs.declared.kinds.Comparison.TheVariants.{Equal}
use Rattle.dw_value.specs.declared.values.Value.TheVariants as values
use Rattle.dw_expr.specs.declared.typed.Typed.{Typed}
use Rattle.dw_expr.specs.declared.typed.TypedArm.{TypedArm}
use Rattle.dw_expr.specs.BoundTree.{BoundTree, BoundTrees, BoundBranches, literal, none, more, no_branch, branch}
use Rattle.dw_expr.specs.Binding.{with_both, some_either, some_more, comparison_of, equality_tests, against, against_all, as_kind, list_as, branches_as}

-- what is made of the items, from the last one on, before what is made already
abbrev pub onto : {A B : Type 0} → (A → B → B) → List A → B → B
onto step [] made = made
onto step (a ∷ rest) made = step a (onto step rest made)

pub onto-last : {A B : Type 0} (step : A → B → B) (items : List A) (a : A) (made : B) → onto step (items ++ a ∷ []) made ≡ onto step items (step a made)
onto-last step [] a made = refl
onto-last step (first ∷ rest) a made = ap (step first) (onto-last step rest a made)

-- what is made at one turn of such a loop
pub onto-turn : {A B : Type 0} (step : A → B → B) (before items : List A) (a : A) (made next whole : B) → before ≡ items ++ a ∷ [] → step a made ≡ next → onto step before made ≡ whole → onto step items next ≡ whole
onto-turn step before items a made next whole split one p = ap (onto step items) (sym one) ∙ sym (onto-last step items a made) ∙ ap (λ l. onto step l made) (sym split) ∙ p

-- what nothing is made of stays so
onto-nothing : {A B : Type 0} (step : A → Option B → Option B) → ((a : A) → step a None ≡ None) → (items : List A) → onto step items None ≡ None
onto-nothing step stays [] = refl
onto-nothing step stays (a ∷ rest) = ap (step a) (onto-nothing step stays rest) ∙ stays a

pub onto-clash : {A B : Type 0} (step : A → Option B → Option B) → ((a : A) → step a None ≡ None) → (before items : List A) (a : A) (made whole : Option B) → before ≡ items ++ a ∷ [] → step a made ≡ None → onto step before made ≡ whole → whole ≡ None
onto-clash step stays before items a made whole split one p =
    sym (onto-turn step before items a made None whole split one p) ∙ onto-nothing step stays items

pub without_rest : {A B C : Type 0} (make : A → B → Option C) (a : Option A) → with_both make a None ≡ None
without_rest make (Some a) = refl
without_rest make None = refl

abbrev pub equality_step : Typed → Typed → Option BoundTree → Option BoundTree
equality_step a b tests = with_both some_either (comparison_of Equal a b) tests

pub equality_tests-onto : (a : Typed) (list : List Typed) → onto (equality_step a) list (Some (literal (values.Truth false) Boolean)) ≡ equality_tests a list
equality_tests-onto a [] = refl
equality_tests-onto a (b ∷ rest) = ap (equality_step a b) (equality_tests-onto a rest)

abbrev pub against_step : BoundTree → Typed → Option BoundTrees → Option BoundTrees
against_step a b rest = with_both some_more (against a b) rest

pub against_all-onto : (a : BoundTree) (list : List Typed) → onto (against_step a) list (Some none) ≡ against_all a list
against_all-onto a [] = refl
against_all-onto a (b ∷ rest) = ap (against_step a b) (against_all-onto a rest)

abbrev pub list_step : Kind → Typed → BoundTrees → BoundTrees
list_step kind a rest = more (as_kind kind a) rest

pub list_as-onto : (kind : Kind) (list : List Typed) → onto (list_step kind) list none ≡ list_as kind list
list_as-onto kind [] = refl
list_as-onto kind (a ∷ rest) = ap (list_step kind a) (list_as-onto kind rest)

abbrev pub branch_step : Kind → TypedArm → BoundBranches → BoundBranches
branch_step kind arm rest = branch arm.condition (as_kind kind arm.result) rest

pub branches_as-onto : (kind : Kind) (arms : List TypedArm) → onto (branch_step kind) arms no_branch ≡ branches_as kind arms
branches_as-onto kind [] = refl
branches_as-onto kind (arm ∷ rest) = ap (branch_step kind arm) (branches_as-onto kind rest)
