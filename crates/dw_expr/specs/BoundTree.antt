-- Bound expressions: each name is a column of a joined row, and each expression has its kind.
use Rattle.std.specs.Prelude.{ℕ, ◌+◌, Bool}
use Rattle.dw_value.specs.declared.kinds.Op.{Op}
use Rattle.dw_value.specs.declared.kinds.Comparison.{Comparison}
use Rattle.dw_value.specs.declared.kinds.Kind.{Kind}
use Rattle.dw_value.specs.declared.kinds.Kind.TheVariants.{Big, Bool as Boolean}
use Rattle.dw_value.specs.declared.values.Value.{Value}
use Rattle.dw_expr.specs.declared.trees.Aggregate.{Aggregate}
use Rattle.dw_expr.specs.Classes.{computed_text}

mutual
  pub data BoundTree : Type 0 where
    -- a column: the number of its source, and its place in the joined row
    column : (source place : ℕ) (kind : Kind) → BoundTree
    literal : (value : Value) (kind : Kind) → BoundTree
    -- an operation on numbers, and two texts one after the other
    arithmetic : (op : Op) (a b : BoundTree) (kind : Kind) → BoundTree
    joined : (a b : BoundTree) → BoundTree
    compared : (comparison : Comparison) (a b : BoundTree) → BoundTree
    -- AND, OR and NOT
    both : (a b : BoundTree) → BoundTree
    either : (a b : BoundTree) → BoundTree
    opposite : (a : BoundTree) → BoundTree
    -- IS NULL, BETWEEN, IN and LIKE, each after whether it is negated
    is_null : (negated : Bool) (a : BoundTree) → BoundTree
    between : (negated : Bool) (a low high : BoundTree) → BoundTree
    in_list : (negated : Bool) (a : BoundTree) (list : BoundTrees) → BoundTree
    like : (negated : Bool) (a pattern : BoundTree) → BoundTree
    -- CASE without and with ELSE
    choice : (branches : BoundBranches) (kind : Kind) → BoundTree
    choice_else : (branches : BoundBranches) (other : BoundTree) (kind : Kind) → BoundTree
    cast : (a : BoundTree) (kind : Kind) → BoundTree
    coalesce : (list : BoundTrees) (kind : Kind) → BoundTree
    -- COUNT(*), and the other aggregates
    count_rows : BoundTree
    aggregate : (function : Aggregate) (a : BoundTree) (kind : Kind) → BoundTree

  pub data BoundTrees : Type 0 where
    -- no expression, and one before others
    none : BoundTrees
    more : (a : BoundTree) (rest : BoundTrees) → BoundTrees

  pub data BoundBranches : Type 0 where
    -- no branch of CASE, and one before others
    no_branch : BoundBranches
    branch : (condition result : BoundTree) (rest : BoundBranches) → BoundBranches

-- the kind of a bound expression
abbrev pub kind_of : BoundTree → Kind
kind_of (column source place kind) = kind
kind_of (literal value kind) = kind
kind_of (arithmetic op a b kind) = kind
kind_of (joined a b) = computed_text
kind_of (compared comparison a b) = Boolean
kind_of (both a b) = Boolean
kind_of (either a b) = Boolean
kind_of (opposite a) = Boolean
kind_of (is_null negated a) = Boolean
kind_of (between negated a low high) = Boolean
kind_of (in_list negated a list) = Boolean
kind_of (like negated a pattern) = Boolean
kind_of (choice branches kind) = kind
kind_of (choice_else branches other kind) = kind
kind_of (cast a kind) = kind
kind_of (coalesce list kind) = kind
kind_of count_rows = Big
kind_of (aggregate function a kind) = kind

-- how many nodes there are
abbrev mutual
  pub bound_size : BoundTree → ℕ
  bound_size (column source place kind) = 1
  bound_size (literal value kind) = 1
  bound_size (arithmetic op a b kind) = bound_size a + bound_size b + 1
  bound_size (joined a b) = bound_size a + bound_size b + 1
  bound_size (compared comparison a b) = bound_size a + bound_size b + 1
  bound_size (both a b) = bound_size a + bound_size b + 1
  bound_size (either a b) = bound_size a + bound_size b + 1
  bound_size (opposite a) = bound_size a + 1
  bound_size (is_null negated a) = bound_size a + 1
  bound_size (between negated a low high) = bound_size a + bound_size low + bound_size high + 1
  bound_size (in_list negated a list) = bound_size a + bounds_size list + 1
  bound_size (like negated a pattern) = bound_size a + bound_size pattern + 1
  bound_size (choice branches kind) = arms_size branches + 1
  bound_size (choice_else branches other kind) = arms_size branches + bound_size other + 1
  bound_size (cast a kind) = bound_size a + 1
  bound_size (coalesce list kind) = bounds_size list + 1
  bound_size count_rows = 1
  bound_size (aggregate function a kind) = bound_size a + 1

  pub bounds_size : BoundTrees → ℕ
  bounds_size none = 1
  bounds_size (more a rest) = bound_size a + bounds_size rest + 1

  pub arms_size : BoundBranches → ℕ
  arms_size no_branch = 1
  arms_size (branch condition result rest) = bound_size condition + bound_size result + arms_size rest + 1
