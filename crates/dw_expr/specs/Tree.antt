-- Expressions as they are written: the value expressions and search conditions of the SQL standard, as far as this
-- project has them. Parentheses leave no node, != is <>, and e::kind is a CAST.
use Rattle.std.specs.Prelude.{ℕ, ◌+◌, Bool, List, Option}
use Rattle.dw_value.specs.declared.kinds.Op.{Op}
use Rattle.dw_value.specs.declared.kinds.Comparison.{Comparison}
use Rattle.dw_value.specs.declared.kinds.Kind.{Kind}
use Rattle.dw_expr.specs.declared.trees.Aggregate.{Aggregate}
use Rattle.dw_expr.specs.declared.trees.Literal.{Literal}

mutual
  pub data Tree : Type 0 where
    -- a column, after its source's name where that is written
    column : (source : Option (List ℕ)) (name : List ℕ) → Tree
    literal : (written : Literal) → Tree
    -- unary minus
    negative : (a : Tree) → Tree
    -- + - * / %, and ||
    arithmetic : (op : Op) (a b : Tree) → Tree
    joined : (a b : Tree) → Tree
    compared : (comparison : Comparison) (a b : Tree) → Tree
    -- AND, OR and NOT
    both : (a b : Tree) → Tree
    either : (a b : Tree) → Tree
    opposite : (a : Tree) → Tree
    -- IS NULL, BETWEEN, IN and LIKE, each after whether NOT is written in it
    is_null : (negated : Bool) (a : Tree) → Tree
    between : (negated : Bool) (a low high : Tree) → Tree
    in_list : (negated : Bool) (a : Tree) (list : Trees) → Tree
    like : (negated : Bool) (a pattern : Tree) → Tree
    -- CASE without and with ELSE
    choice : (branches : Branches) → Tree
    choice_else : (branches : Branches) (other : Tree) → Tree
    cast : (a : Tree) (kind : Kind) → Tree
    coalesce : (list : Trees) → Tree
    -- COUNT(*), and the other aggregates
    count_rows : Tree
    aggregate : (function : Aggregate) (a : Tree) → Tree

  pub data Trees : Type 0 where
    -- no expression, and one before others
    none : Trees
    more : (a : Tree) (rest : Trees) → Trees

  pub data Branches : Type 0 where
    -- no branch of CASE, and one before others
    no_branch : Branches
    branch : (condition result : Tree) (rest : Branches) → Branches

-- how many nodes there are
abbrev mutual
  pub tree_size : Tree → ℕ
  tree_size (column source name) = 1
  tree_size (literal written) = 1
  tree_size (negative a) = tree_size a + 1
  tree_size (arithmetic op a b) = tree_size a + tree_size b + 1
  tree_size (joined a b) = tree_size a + tree_size b + 1
  tree_size (compared comparison a b) = tree_size a + tree_size b + 1
  tree_size (both a b) = tree_size a + tree_size b + 1
  tree_size (either a b) = tree_size a + tree_size b + 1
  tree_size (opposite a) = tree_size a + 1
  tree_size (is_null negated a) = tree_size a + 1
  tree_size (between negated a low high) = tree_size a + tree_size low + tree_size high + 1
  tree_size (in_list negated a list) = tree_size a + trees_size list + 1
  tree_size (like negated a pattern) = tree_size a + tree_size pattern + 1
  tree_size (choice branches) = branches_size branches + 1
  tree_size (choice_else branches other) = branches_size branches + tree_size other + 1
  tree_size (cast a kind) = tree_size a + 1
  tree_size (coalesce list) = trees_size list + 1
  tree_size count_rows = 1
  tree_size (aggregate function a) = tree_size a + 1

  pub trees_size : Trees → ℕ
  trees_size none = 1
  trees_size (more a rest) = tree_size a + trees_size rest + 1

  pub branches_size : Branches → ℕ
  branches_size no_branch = 1
  branches_size (branch condition result rest) = tree_size condition + tree_size result + branches_size rest + 1
