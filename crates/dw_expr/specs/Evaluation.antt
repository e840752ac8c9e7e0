-- The value of a bound expression on a joined row, or its fault. After the SQL standard (value expressions, search
-- conditions); which of several faults is told is this project's own: the one with the least number, so a value outside
-- its kind before a division by zero.
use Rattle.std.specs.Prelude.{◌-◌, ◌++◌, Bool, true, false, List, length, nat_le, slice_get, unwrap_or, Result, Ok, Err, if◌then◌else◌}
use Rattle.dw_value.specs.declared.kinds.Comparison.{Comparison}
use Rattle.dw_value.specs.declared.kinds.Comparison.TheVariants.{Equal, AtMost, AtLeast}
use Rattle.dw_value.specs.declared.kinds.Kind.{Kind}
use Rattle.dw_value.specs.declared.kinds.Op.{Op}
use Rattle.dw_value.specs.declared.kinds.Fault.{Fault}
use Rattle.dw_value.specs.declared.kinds.Fault.TheVariants.{Range, Zero}
use Rattle.dw_value.specs.declared.kinds.Truth.{Truth}
use Rattle.dw_value.specs.declared.values.Value.{Value}
use Rattle.dw_value.specs.declared.values.Value.TheVariants.{Number, Words, Truth as Logical, Null}
use Rattle.dw_value.specs.Values.{is_null as has_none, truth_of}
use Rattle.dw_value.specs.Kinds.{scale_of}
use Rattle.dw_value.specs.Arithmetic.{raised, in_range, number_value, computed}
use Rattle.dw_like.specs.Like.{is_like}
use Rattle.dw_expr.specs.Truths.{conjunction, disjunction, negation, truth_in, truth_value}
use Rattle.dw_expr.specs.Casting.{cast_value}
use Rattle.dw_expr.specs.BoundTree.{BoundTree, BoundTrees, BoundBranches, kind_of, column, literal, arithmetic, joined, compared, both, either, opposite, is_null, between, in_list, like, choice, choice_else, cast, coalesce, count_rows, aggregate, none, more, no_branch, branch}

-- a value, or the fault in its place
abbrev pub Outcome : Type 0
Outcome = Result Value Fault

-- of two faults the one with the lesser number
abbrev pub least_fault : Fault → Fault → Fault
least_fault Zero Zero = Zero
least_fault a b = Range

-- what comes of an outcome that is no fault
abbrev pub of_one : (Value → Outcome) → Outcome → Outcome
of_one make (Ok x) = make x
of_one make (Err fault) = Err fault

-- what comes of two outcomes, each of which is evaluated
abbrev pub of_two : (Value → Value → Outcome) → Outcome → Outcome → Outcome
of_two make (Ok x) (Ok y) = make x y
of_two make (Ok x) (Err fault) = Err fault
of_two make (Err fault) (Ok y) = Err fault
of_two make (Err fault) (Err other) = Err (least_fault fault other)

-- a connective of two truths, as values
abbrev pub connected : (Truth → Truth → Truth) → Value → Value → Outcome
connected connective x y = Ok (truth_value (connective (truth_in x) (truth_in y)))

abbrev pub both_of : Outcome → Outcome → Outcome
both_of a b = of_two (connected conjunction) a b

abbrev pub either_of : Outcome → Outcome → Outcome
either_of a b = of_two (connected disjunction) a b

abbrev pub negated_value : Value → Outcome
negated_value x = Ok (truth_value (negation (truth_in x)))

-- NOT, where it is written
abbrev pub not_if : Bool → Outcome → Outcome
not_if false a = a
not_if true a = of_one negated_value a

-- a comparison of values of two kinds, numbers as exact numbers: unknown beside NULL
abbrev pub comparison_value : Comparison → Kind → Kind → Value → Value → Outcome
comparison_value comparison a_kind b_kind x y =
    Ok (truth_value (truth_of comparison x (scale_of a_kind) y (scale_of b_kind)))

abbrev pub comparison_of : Comparison → Kind → Outcome → Kind → Outcome → Outcome
comparison_of comparison a_kind a b_kind b = of_two (comparison_value comparison a_kind b_kind) a b

-- one text after the other, in at most 65,535 bytes; NULL beside NULL
abbrev pub joined_value : Value → Value → Outcome
joined_value (Words a) (Words b) = if nat_le (length (a ++ b)) 65535 then Ok (Words (a ++ b)) else Err Range
joined_value x y = Ok Null

-- LIKE; unknown beside NULL
abbrev pub like_value : Value → Value → Outcome
like_value (Words text) (Words pattern) = Ok (Logical (is_like text pattern))
like_value x y = Ok Null

abbrev pub is_null_value : Value → Outcome
is_null_value x = Ok (Logical (has_none x))

abbrev pub arithmetic_value : Op → Kind → Kind → Value → Value → Outcome
arithmetic_value op a_kind b_kind x y = computed op x a_kind y b_kind

abbrev pub cast_outcome : Kind → Kind → Value → Outcome
cast_outcome to from x = cast_value to x from

-- a value of the kind `from` as one of the kind of CASE or COALESCE: a number at its scale and in its range
abbrev pub brought : (kind from : Kind) → Value → Outcome
brought kind from (Number n) = number_value (in_range kind (raised (scale_of kind - scale_of from) n))
brought kind from x = Ok x

abbrev pub brought_of : Kind → Kind → Outcome → Outcome
brought_of kind from a = of_one (brought kind from) a

-- what a branch gives where its condition is true, and else what the rest does; a fault of the condition is that of all
abbrev pub if_true : Outcome → Outcome → Outcome → Outcome
if_true (Ok (Logical true)) result rest = result
if_true (Ok x) result rest = rest
if_true (Err fault) result rest = Err fault

-- an outcome, or what the rest gives where it is NULL
abbrev pub unless_null : Outcome → Outcome → Outcome
unless_null (Ok Null) rest = rest
unless_null outcome rest = outcome

-- The value of an expression on a joined row of these values. Both sides of AND and OR are evaluated, and all of a list;
-- of the branches of CASE and the arguments of COALESCE only those up to the one that decides. An aggregate has no value
-- on a row: its value stands in the row of a group.
abbrev mutual
  pub value : List Value → BoundTree → Outcome
  value row (column source place kind) = Ok (unwrap_or (slice_get row place) Null)
  value row (literal x kind) = Ok x
  value row (arithmetic op a b kind) = of_two (arithmetic_value op (kind_of a) (kind_of b)) (value row a) (value row b)
  value row (joined a b) = of_two joined_value (value row a) (value row b)
  value row (compared comparison a b) = comparison_of comparison (kind_of a) (value row a) (kind_of b) (value row b)
  value row (both a b) = both_of (value row a) (value row b)
  value row (either a b) = either_of (value row a) (value row b)
  value row (opposite a) = not_if true (value row a)
  value row (is_null negated a) = not_if negated (of_one is_null_value (value row a))
  value row (between negated a low high) = not_if negated (both_of
      (comparison_of AtLeast (kind_of a) (value row a) (kind_of low) (value row low))
      (comparison_of AtMost (kind_of a) (value row a) (kind_of high) (value row high)))
  value row (in_list negated a list) = not_if negated (any_equal row (kind_of a) (value row a) list)
  value row (like negated a pattern) = not_if negated (of_two like_value (value row a) (value row pattern))
  value row (choice branches kind) = chosen row kind branches (Ok Null)
  value row (choice_else branches other kind) =
      chosen row kind branches (brought_of kind (kind_of other) (value row other))
  value row (cast a kind) = of_one (cast_outcome kind (kind_of a)) (value row a)
  value row (coalesce list kind) = first_known row kind list
  value row count_rows = Ok Null
  value row (aggregate function a kind) = Ok Null

  -- the OR of the equalities of an operand with each of these
  pub any_equal : List Value → Kind → Outcome → BoundTrees → Outcome
  any_equal row kind operand none = Ok (Logical false)
  any_equal row kind operand (more a rest) =
      either_of (comparison_of Equal kind operand (kind_of a) (value row a)) (any_equal row kind operand rest)

  -- what the first branch gives whose condition is true, or else this
  pub chosen : List Value → Kind → BoundBranches → Outcome → Outcome
  chosen row kind no_branch other = other
  chosen row kind (branch condition result rest) other =
      if_true (value row condition) (brought_of kind (kind_of result) (value row result)) (chosen row kind rest other)

  -- the first of these values that isn't NULL
  pub first_known : List Value → Kind → BoundTrees → Outcome
  first_known row kind none = Ok Null
  first_known row kind (more a rest) =
      unless_null (brought_of kind (kind_of a) (value row a)) (first_known row kind rest)
