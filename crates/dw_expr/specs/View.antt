-- The tree that a node stands for.
use Rattle.std.specs.Prelude.{None, Some}
use Rattle.dw_expr.specs.Tree.{Tree, Trees, Branches, column, literal, negative, arithmetic, joined, compared, both, either, opposite, is_null, between, in_list, like, choice, choice_else, cast, coalesce, count_rows, aggregate, none, more, no_branch, branch}
use Rattle.dw_expr.specs.declared.trees.Node.{Node}
use Rattle.dw_expr.specs.declared.trees.Node.TheVariants.{Column, Literal, Negative, Arithmetic, Joined, Compared, And, Or, Not, IsNull, Between, InList, Like, Case, Cast, Coalesce, CountRows, Aggregate}
use Rattle.dw_expr.specs.declared.trees.ExprsNode.{ExprsNode}
use Rattle.dw_expr.specs.declared.trees.ExprsNode.TheVariants.{End, More}
use Rattle.dw_expr.specs.declared.trees.ArmsNode.{ArmsNode}
use Rattle.dw_expr.specs.declared.trees.ArmsNode.TheVariants as the_arms

abbrev pub tree_of : Node → Tree
tree_of (Column source name) = column source name
tree_of (Literal written) = literal written
tree_of (Negative a) = negative a.value
tree_of (Arithmetic op a b) = arithmetic op a.value b.value
tree_of (Joined a b) = joined a.value b.value
tree_of (Compared comparison a b) = compared comparison a.value b.value
tree_of (And a b) = both a.value b.value
tree_of (Or a b) = either a.value b.value
tree_of (Not a) = opposite a.value
tree_of (IsNull negated a) = is_null negated a.value
tree_of (Between negated a low high) = between negated a.value low.value high.value
tree_of (InList negated a list) = in_list negated a.value list.value
tree_of (Like negated a pattern) = like negated a.value pattern.value
tree_of (Case branches None) = choice branches.value
tree_of (Case branches (Some other)) = choice_else branches.value other.value
tree_of (Cast a kind) = cast a.value kind
tree_of (Coalesce list) = coalesce list.value
tree_of CountRows = count_rows
tree_of (Aggregate function a) = aggregate function a.value

abbrev pub trees_of : ExprsNode → Trees
trees_of End = none
trees_of (More a rest) = more a.value rest.value

abbrev pub branches_of : ArmsNode → Branches
branches_of the_arms.End = no_branch
branches_of (the_arms.More condition result rest) = branch condition.value result.value rest.value
