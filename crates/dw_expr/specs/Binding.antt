-- Expressions bound to the columns in sight, each with its kind, or what they are refused for: first unknown names, in
-- text order, and then kinds that don't go together. The rules on kinds and the order of refusals are this project's own.
-- The literal NULL has no kind of its own: what stands beside it, or takes it, decides.
use Rattle.std.specs.Prelude.{ℕ, ℤ, pos, Bool, true, false, List, [], ◌∷◌, Option, Some, None, option_map, option_and_then, Result, Ok, Err, if◌then◌else◌}
use Rattle.dw_value.specs.declared.kinds.Op.{Op}
use Rattle.dw_value.specs.declared.kinds.Op.TheVariants.{Subtract}
use Rattle.dw_value.specs.declared.kinds.Comparison.{Comparison}
use Rattle.dw_value.specs.declared.kinds.Comparison.TheVariants.{Equal, AtLeast, AtMost}
use Rattle.dw_value.specs.declared.kinds.Kind.{Kind}
use Rattle.dw_value.specs.declared.kinds.Kind.TheVariants.{Int, Big, Date as DateKind, Bool as Boolean}
use Rattle.dw_value.specs.declared.values.Value.{Value}
use Rattle.dw_value.specs.declared.values.Value.TheVariants as values
use Rattle.dw_value.specs.Values.{takes_texts}
use Rattle.dw_value.specs.Kinds.{result_kind, literal_kind}
use Rattle.dw_value.specs.Dates.{day_in}
use Rattle.dw_expr.specs.declared.trees.Aggregate.{Aggregate}
use Rattle.dw_expr.specs.declared.trees.Aggregate.TheVariants.{Count, CountDistinct, Sum, Min, Max}
use Rattle.dw_expr.specs.declared.trees.Literal.{Literal}
use Rattle.dw_expr.specs.declared.trees.Literal.TheVariants.{Null, Number, Words, Date, Truth}
use Rattle.dw_expr.specs.declared.typed.Typed.{Typed}
use Rattle.dw_expr.specs.declared.typed.Typed.TheVariants.{Decided, Undecided}
use Rattle.dw_expr.specs.declared.typed.TypedArm.{TypedArm}
use Rattle.dw_expr.specs.declared.typed.Wanted.{Wanted}
use Rattle.dw_expr.specs.declared.typed.Wanted.TheVariants.{Anything, Condition, Assigned}
use Rattle.dw_expr.specs.declared.faults.BindFault.{BindFault}
use Rattle.dw_expr.specs.declared.faults.BindFault.TheVariants.{Unknown, Clash}
use Rattle.dw_expr.specs.Classes.{is_date, is_truth, same_class, computed_text, branch_kind, sum_kind, is_assignable, is_castable}
use Rattle.dw_expr.specs.Tree as written
use Rattle.dw_expr.specs.Tree.{Tree, Trees, Branches}
use Rattle.dw_expr.specs.BoundTree.{BoundTree, BoundTrees, BoundBranches, kind_of, column, literal, arithmetic, joined, compared, both, either, opposite, is_null, between, in_list, like, choice, choice_else, cast, coalesce, count_rows, aggregate, none, more, no_branch, branch}
use Rattle.dw_expr.specs.Sight.{Sight, RowColumn, meant, first_unknown, references}

-- NULL as a value of a kind
abbrev pub null_of : Kind → BoundTree
null_of kind = literal values.Null kind

-- an expression, where the literal NULL takes this kind
abbrev pub as_kind : Kind → Typed → BoundTree
as_kind kind (Decided a) = a
as_kind kind Undecided = null_of kind

-- an expression where nothing else decides: the literal NULL is an INTEGER
abbrev pub settled : Typed → BoundTree
settled a = as_kind Int a

-- an expression that has to be a truth: a condition, and what stands beside AND, OR and NOT
abbrev pub truth_only : BoundTree → Option BoundTree
truth_only a = if is_truth (kind_of a) then Some a else None

abbrev pub as_truth : Typed → Option BoundTree
as_truth a = truth_only (as_kind Boolean a)

-- an expression that has to be a text: what stands beside || and LIKE
abbrev pub text_only : BoundTree → Option BoundTree
text_only a = if takes_texts (kind_of a) then Some a else None

abbrev pub as_text : Typed → Option BoundTree
as_text a = text_only (as_kind computed_text a)

-- an expression that is assigned to a column of this kind
abbrev pub assignable_only : Kind → BoundTree → Option BoundTree
assignable_only kind a = if is_assignable kind (kind_of a) then Some a else None

abbrev pub as_assigned : Kind → Typed → Option BoundTree
as_assigned kind a = assignable_only kind (as_kind kind a)

-- what is made of two parts, where neither clashes
abbrev pub with_both : {A B C : Type 0} → (A → B → Option C) → Option A → Option B → Option C
with_both make (Some a) (Some b) = make a b
with_both make (Some a) None = None
with_both make None b = None

-- a column at the place that it has
abbrev pub column_at : RowColumn → Typed
column_at one = Decided (column one.source one.place one.kind)

-- a literal: a number of the narrowest kind that holds it, a text of the longest kind, a date that the calendar has
abbrev pub day_literal : ℤ → Typed
day_literal day = Decided (literal (values.Day day) DateKind)

abbrev pub typed_literal : Literal → Option Typed
typed_literal Null = Some Undecided
typed_literal (Number n scale) = Some (Decided (literal (values.Number n) (literal_kind n scale)))
typed_literal (Words text) = Some (Decided (literal (values.Words text) computed_text))
typed_literal (Date text) = option_map day_literal (day_in text)
typed_literal (Truth b) = Some (Decided (literal (values.Truth b) Boolean))

-- a text literal read as a date; every other expression as it is
abbrev pub read_day : ℤ → BoundTree
read_day day = literal (values.Day day) DateKind

abbrev pub literal_as_date : Value → Kind → Option BoundTree
literal_as_date (values.Words text) kind = option_map read_day (day_in text)
literal_as_date value kind = Some (literal value kind)

abbrev pub as_date : BoundTree → Option BoundTree
as_date (literal value kind) = literal_as_date value kind
as_date a = Some a

-- an expression as it is read in a comparison beside one of this kind: a text literal beside a date as a date
abbrev pub read_beside : Kind → BoundTree → Option BoundTree
read_beside kind a = if is_date kind then as_date a else Some a

-- an expression whose values may be compared with those of this kind
abbrev pub comparable_only : Kind → BoundTree → Option BoundTree
comparable_only kind a = if same_class kind (kind_of a) then Some a else None

-- the right side of a comparison with this expression on the left: NULL goes with any kind
abbrev pub against : BoundTree → Typed → Option BoundTree
against a Undecided = Some (null_of (kind_of a))
against a (Decided b) = option_and_then (comparable_only (kind_of a)) (read_beside (kind_of a) b)

-- the left side of a comparison, as it is read beside the right one
abbrev pub left_side : Typed → Typed → Option BoundTree
left_side (Decided a) (Decided b) = read_beside (kind_of b) a
left_side (Decided a) Undecided = Some a
left_side Undecided b = Some (null_of (kind_of (settled b)))

abbrev pub compared_with : Comparison → Typed → BoundTree → Option BoundTree
compared_with comparison b left = option_map (compared comparison left) (against left b)

-- a comparison of two expressions of one class
abbrev pub comparison_of : Comparison → Typed → Typed → Option BoundTree
comparison_of comparison a b = option_and_then (compared_with comparison b) (left_side a b)

-- NOT, where it is written
abbrev pub opposite_if : Bool → BoundTree → BoundTree
opposite_if false a = a
opposite_if true a = opposite a

-- An operand that is no literal stands once in BETWEEN and IN. A literal is read in each comparison beside what it is
-- compared with, so it stands in each.
abbrev pub unless_literal : BoundTree → Option BoundTree
unless_literal (literal value kind) = None
unless_literal a = Some a

abbrev pub standing_once : Typed → Option BoundTree
standing_once Undecided = None
standing_once (Decided a) = unless_literal a

abbrev pub some_both : BoundTree → BoundTree → Option BoundTree
some_both a b = Some (both a b)

abbrev pub some_either : BoundTree → BoundTree → Option BoundTree
some_either a b = Some (either a b)

abbrev pub some_between : Bool → BoundTree → BoundTree → BoundTree → Option BoundTree
some_between negated a low high = Some (between negated a low high)

abbrev pub some_more : BoundTree → BoundTrees → Option BoundTrees
some_more a rest = Some (more a rest)

-- BETWEEN: the operand is at least the one and at most the other
abbrev pub between_tests : Typed → Typed → Typed → Option BoundTree
between_tests a low high = with_both some_both (comparison_of AtLeast a low) (comparison_of AtMost a high)

abbrev pub between_by : Option BoundTree → Bool → Typed → Typed → Typed → Option BoundTree
between_by (Some operand) negated a low high =
    with_both (some_between negated operand) (against operand low) (against operand high)
between_by None negated a low high = option_map (opposite_if negated) (between_tests a low high)

abbrev pub between_of : Bool → Typed → Typed → Typed → Option BoundTree
between_of negated a low high = between_by (standing_once a) negated a low high

-- IN: the operand equals one of the list
abbrev pub equality_tests : Typed → List Typed → Option BoundTree
equality_tests a [] = Some (literal (values.Truth false) Boolean)
equality_tests a (b ∷ rest) = with_both some_either (comparison_of Equal a b) (equality_tests a rest)

abbrev pub against_all : BoundTree → List Typed → Option BoundTrees
against_all a [] = Some none
against_all a (b ∷ rest) = with_both some_more (against a b) (against_all a rest)

abbrev pub in_by : Option BoundTree → Bool → Typed → List Typed → Option BoundTree
in_by (Some operand) negated a list = option_map (in_list negated operand) (against_all operand list)
in_by None negated a list = option_map (opposite_if negated) (equality_tests a list)

abbrev pub in_of : Bool → Typed → List Typed → Option BoundTree
in_of negated a list = in_by (standing_once a) negated a list

-- + - * / % on kinds that the operation takes; NULL has the kind of the other operand
abbrev pub arithmetic_on : Op → BoundTree → BoundTree → Option BoundTree
arithmetic_on op a b = option_map (arithmetic op a b) (result_kind op (kind_of a) (kind_of b))

abbrev pub arithmetic_of : Op → Typed → Typed → Option BoundTree
arithmetic_of op (Decided a) b = arithmetic_on op a (as_kind (kind_of a) b)
arithmetic_of op Undecided b = arithmetic_on op (null_of (kind_of (settled b))) (settled b)

-- unary minus: subtraction from the INTEGER 0
abbrev pub negative_of : Typed → Option BoundTree
negative_of a = arithmetic_of Subtract (Decided (literal (values.Number (pos 0)) Int)) a

-- || and LIKE: two texts
abbrev pub some_joined : BoundTree → BoundTree → Option BoundTree
some_joined a b = Some (joined a b)

abbrev pub joined_of : Typed → Typed → Option BoundTree
joined_of a b = with_both some_joined (as_text a) (as_text b)

abbrev pub some_like : Bool → BoundTree → BoundTree → Option BoundTree
some_like negated a pattern = Some (like negated a pattern)

abbrev pub like_of : Bool → Typed → Typed → Option BoundTree
like_of negated a pattern = with_both (some_like negated) (as_text a) (as_text pattern)

-- AND, OR and NOT: truths
abbrev pub both_of : Typed → Typed → Option BoundTree
both_of a b = with_both some_both (as_truth a) (as_truth b)

abbrev pub either_of : Typed → Typed → Option BoundTree
either_of a b = with_both some_either (as_truth a) (as_truth b)

abbrev pub opposite_of : Typed → Option BoundTree
opposite_of a = option_map opposite (as_truth a)

-- IS NULL: any kind
abbrev pub is_null_of : Bool → Typed → Option BoundTree
is_null_of negated a = Some (is_null negated (settled a))

-- the kinds of these branches; the literal NULL says nothing
abbrev pub kinds_of : List Typed → List Kind
kinds_of [] = []
kinds_of (Decided a ∷ rest) = kind_of a ∷ kinds_of rest
kinds_of (Undecided ∷ rest) = kinds_of rest

-- the kind that branches come to together, after some that come to this one
abbrev pub joint_after : Option Kind → List Kind → Option Kind
joint_after None rest = None
joint_after (Some so_far) [] = Some so_far
joint_after (Some so_far) (kind ∷ rest) = joint_after (branch_kind so_far kind) rest

-- the kind of CASE or COALESCE with branches of these kinds: an INTEGER where each is the literal NULL
abbrev pub joint_kind : List Kind → Option Kind
joint_kind [] = Some Int
joint_kind (kind ∷ rest) = joint_after (branch_kind kind kind) rest

-- a branch of CASE, of which the condition is a truth
abbrev pub arm_with : Typed → BoundTree → TypedArm
arm_with result condition = record { condition = condition; result = result }

abbrev pub arm_of : Typed → Typed → Option TypedArm
arm_of condition result = option_map (arm_with result) (as_truth condition)

abbrev pub results_of : List TypedArm → List Typed
results_of [] = []
results_of (arm ∷ rest) = arm.result ∷ results_of rest

-- branches and arguments, where the literal NULL takes this kind
abbrev pub branches_as : Kind → List TypedArm → BoundBranches
branches_as kind [] = no_branch
branches_as kind (arm ∷ rest) = branch arm.condition (as_kind kind arm.result) (branches_as kind rest)

abbrev pub list_as : Kind → List Typed → BoundTrees
list_as kind [] = none
list_as kind (a ∷ rest) = more (as_kind kind a) (list_as kind rest)

-- CASE and COALESCE
abbrev pub choice_as : List TypedArm → Kind → BoundTree
choice_as arms kind = choice (branches_as kind arms) kind

abbrev pub choice_of : List TypedArm → Option BoundTree
choice_of arms = option_map (choice_as arms) (joint_kind (kinds_of (results_of arms)))

abbrev pub choice_else_as : List TypedArm → Typed → Kind → BoundTree
choice_else_as arms other kind = choice_else (branches_as kind arms) (as_kind kind other) kind

abbrev pub choice_else_of : List TypedArm → Typed → Option BoundTree
choice_else_of arms other =
    option_map (choice_else_as arms other) (joint_kind (kinds_of (other ∷ results_of arms)))

abbrev pub coalesce_as : List Typed → Kind → BoundTree
coalesce_as list kind = coalesce (list_as kind list) kind

abbrev pub coalesce_of : List Typed → Option BoundTree
coalesce_of list = option_map (coalesce_as list) (joint_kind (kinds_of list))

-- CAST: NULL goes to any kind
abbrev pub cast_to : Kind → BoundTree → Option BoundTree
cast_to kind a = if is_castable kind (kind_of a) then Some (cast a kind) else None

abbrev pub cast_of : Kind → Typed → Option BoundTree
cast_of kind a = cast_to kind (as_kind kind a)

-- aggregates: COUNT takes any kind, SUM numbers, MIN and MAX all but truths
abbrev pub unless_truth : Aggregate → BoundTree → Option BoundTree
unless_truth function a = if is_truth (kind_of a) then None else Some (aggregate function a (kind_of a))

abbrev pub aggregate_on : Aggregate → BoundTree → Option BoundTree
aggregate_on Count a = Some (aggregate Count a Big)
aggregate_on CountDistinct a = Some (aggregate CountDistinct a Big)
aggregate_on Sum a = option_map (aggregate Sum a) (sum_kind (kind_of a))
aggregate_on Min a = unless_truth Min a
aggregate_on Max a = unless_truth Max a

abbrev pub aggregate_of : Aggregate → Typed → Option BoundTree
aggregate_of function a = aggregate_on function (settled a)

-- what is made of the parts of an expression, where none of them clashes
abbrev pub of_one : {A : Type 0} → (A → Option BoundTree) → Option A → Option Typed
of_one make a = option_map Decided (option_and_then make a)

abbrev pub of_two : {A B : Type 0} → (A → B → Option BoundTree) → Option A → Option B → Option Typed
of_two make a b = option_map Decided (with_both make a b)

abbrev pub of_three : {A B C : Type 0} → (A → B → C → Option BoundTree) → Option A → Option B → Option C → Option Typed
of_three make (Some a) b c = of_two (make a) b c
of_three make None b c = None

abbrev pub some_first : {A : Type 0} → A → List A → Option (List A)
some_first a rest = Some (a ∷ rest)

-- An expression over columns in sight with its kind, where kinds go together. `aggregates` says whether aggregates may
-- stand in it; none may stand inside another.
abbrev mutual
  pub typed : Sight → (aggregates : Bool) → Tree → Option Typed
  typed sight aggregates (written.column source name) =
      option_map column_at (meant sight (record { source = source; name = name }))
  typed sight aggregates (written.literal l) = typed_literal l
  typed sight aggregates (written.negative a) = of_one negative_of (typed sight aggregates a)
  typed sight aggregates (written.arithmetic op a b) =
      of_two (arithmetic_of op) (typed sight aggregates a) (typed sight aggregates b)
  typed sight aggregates (written.joined a b) = of_two joined_of (typed sight aggregates a) (typed sight aggregates b)
  typed sight aggregates (written.compared comparison a b) =
      of_two (comparison_of comparison) (typed sight aggregates a) (typed sight aggregates b)
  typed sight aggregates (written.both a b) = of_two both_of (typed sight aggregates a) (typed sight aggregates b)
  typed sight aggregates (written.either a b) = of_two either_of (typed sight aggregates a) (typed sight aggregates b)
  typed sight aggregates (written.opposite a) = of_one opposite_of (typed sight aggregates a)
  typed sight aggregates (written.is_null negated a) = of_one (is_null_of negated) (typed sight aggregates a)
  typed sight aggregates (written.between negated a low high) = of_three (between_of negated)
      (typed sight aggregates a) (typed sight aggregates low) (typed sight aggregates high)
  typed sight aggregates (written.in_list negated a list) =
      of_two (in_of negated) (typed sight aggregates a) (typed_all sight aggregates list)
  typed sight aggregates (written.like negated a pattern) =
      of_two (like_of negated) (typed sight aggregates a) (typed sight aggregates pattern)
  typed sight aggregates (written.choice branches) = of_one choice_of (typed_arms sight aggregates branches)
  typed sight aggregates (written.choice_else branches other) =
      of_two choice_else_of (typed_arms sight aggregates branches) (typed sight aggregates other)
  typed sight aggregates (written.cast a kind) = of_one (cast_of kind) (typed sight aggregates a)
  typed sight aggregates (written.coalesce list) = of_one coalesce_of (typed_all sight aggregates list)
  typed sight aggregates written.count_rows = if aggregates then Some (Decided count_rows) else None
  typed sight aggregates (written.aggregate function a) =
      if aggregates then of_one (aggregate_of function) (typed sight false a) else None

  pub typed_all : Sight → Bool → Trees → Option (List Typed)
  typed_all sight aggregates written.none = Some []
  typed_all sight aggregates (written.more a rest) =
      with_both some_first (typed sight aggregates a) (typed_all sight aggregates rest)

  pub typed_arms : Sight → Bool → Branches → Option (List TypedArm)
  typed_arms sight aggregates written.no_branch = Some []
  typed_arms sight aggregates (written.branch condition result rest) =
      with_both some_first
      (with_both arm_of (typed sight aggregates condition) (typed sight aggregates result))
      (typed_arms sight aggregates rest)

-- the refusal of an unknown name, and after it that of a clash
abbrev pub or_clash : Option BoundTree → Result BoundTree BindFault
or_clash None = Err Clash
or_clash (Some a) = Ok a

abbrev pub unless_unknown : Option (List ℕ) → Result BoundTree BindFault → Result BoundTree BindFault
unless_unknown None outcome = outcome
unless_unknown (Some name) outcome = Err (Unknown name)

-- an expression as it is wanted where it stands
abbrev pub as_wanted : Wanted → Typed → Option BoundTree
as_wanted Anything a = Some (settled a)
as_wanted Condition a = as_truth a
as_wanted (Assigned kind) a = as_assigned kind a

-- An expression bound to the columns in sight, as it is wanted, or what it is refused for.
abbrev pub bound : Sight → (aggregates : Bool) → Wanted → Tree → Result BoundTree BindFault
bound sight aggregates wanted tree =
    unless_unknown (first_unknown sight (references tree))
    (or_clash (option_and_then (as_wanted wanted) (typed sight aggregates tree)))
