-- Predicates that can have no fault, by their form: columns, literals, a minus before a number literal, comparisons, AND,
-- OR, NOT, IS NULL, BETWEEN, IN and LIKE. Zone maps, and filters before a join, may be used only where a whole condition
-- is of this form. The rule is this project's own.
use Rattle.std.specs.Prelude.{zero, pos, int_le, Bool, true, false, ◌&&◌}
use Rattle.dw_value.specs.declared.kinds.Op.{Op}
use Rattle.dw_value.specs.declared.kinds.Op.TheVariants.{Subtract}
use Rattle.dw_value.specs.declared.kinds.Kind.TheVariants.{Int}
use Rattle.dw_value.specs.declared.values.Value.TheVariants.{Number}
use Rattle.dw_value.specs.Values.{holds_number}
use Rattle.dw_expr.specs.BoundTree.{BoundTree, BoundTrees, BoundBranches, column, literal, arithmetic, joined, compared, both, either, opposite, is_null, between, in_list, like, choice, choice_else, cast, coalesce, count_rows, aggregate, none, more, no_branch, branch}

-- the INTEGER 0, from which a minus before an expression subtracts
abbrev pub is_zero : BoundTree → Bool
is_zero (literal (Number (pos zero)) Int) = true
is_zero a = false

-- a number literal without a sign
abbrev pub is_size : BoundTree → Bool
is_size (literal (Number n) kind) = holds_number kind n && int_le (pos 0) n
is_size a = false

abbrev pub is_minus : Op → BoundTree → BoundTree → Bool
is_minus Subtract a b = is_zero a && is_size b
is_minus op a b = false

-- a column or a literal
abbrev pub is_plain : BoundTree → Bool
is_plain (column source place kind) = true
is_plain (literal x kind) = true
is_plain a = false

abbrev mutual
  pub is_safe : BoundTree → Bool
  is_safe (column source place kind) = true
  is_safe (literal x kind) = true
  is_safe (arithmetic op a b kind) = is_minus op a b
  is_safe (joined a b) = false
  is_safe (compared comparison a b) = is_safe a && is_safe b
  is_safe (both a b) = is_safe a && is_safe b
  is_safe (either a b) = is_safe a && is_safe b
  is_safe (opposite a) = is_safe a
  is_safe (is_null negated a) = is_safe a
  is_safe (between negated a low high) = is_safe a && (is_safe low && is_safe high)
  is_safe (in_list negated a list) = is_safe a && are_safe list
  is_safe (like negated a pattern) = is_safe a && is_safe pattern
  is_safe (choice branches kind) = false
  is_safe (choice_else branches other kind) = false
  is_safe (cast a kind) = false
  is_safe (coalesce list kind) = false
  is_safe count_rows = false
  is_safe (aggregate function a kind) = false

  pub are_safe : BoundTrees → Bool
  are_safe none = true
  are_safe (more a rest) = is_safe a && are_safe rest

-- Whether an expression reads no column of its row.
abbrev mutual
  pub reads_nothing : BoundTree → Bool
  reads_nothing (column source place kind) = false
  reads_nothing (literal x kind) = true
  reads_nothing (arithmetic op a b kind) = reads_nothing a && reads_nothing b
  reads_nothing (joined a b) = reads_nothing a && reads_nothing b
  reads_nothing (compared comparison a b) = reads_nothing a && reads_nothing b
  reads_nothing (both a b) = reads_nothing a && reads_nothing b
  reads_nothing (either a b) = reads_nothing a && reads_nothing b
  reads_nothing (opposite a) = reads_nothing a
  reads_nothing (is_null negated a) = reads_nothing a
  reads_nothing (between negated a low high) = reads_nothing a && (reads_nothing low && reads_nothing high)
  reads_nothing (in_list negated a list) = reads_nothing a && all_read_nothing list
  reads_nothing (like negated a pattern) = reads_nothing a && reads_nothing pattern
  reads_nothing (choice branches kind) = branches_read_nothing branches
  reads_nothing (choice_else branches other kind) = branches_read_nothing branches && reads_nothing other
  reads_nothing (cast a kind) = reads_nothing a
  reads_nothing (coalesce list kind) = all_read_nothing list
  reads_nothing count_rows = true
  reads_nothing (aggregate function a kind) = reads_nothing a

  pub all_read_nothing : BoundTrees → Bool
  all_read_nothing none = true
  all_read_nothing (more a rest) = reads_nothing a && all_read_nothing rest

  pub branches_read_nothing : BoundBranches → Bool
  branches_read_nothing no_branch = true
  branches_read_nothing (branch condition result rest) =
      reads_nothing condition && (reads_nothing result && branches_read_nothing rest)
