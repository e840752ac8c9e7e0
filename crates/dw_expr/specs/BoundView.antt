-- The bound tree that a node stands for.
use Rattle.std.specs.Prelude.{None, Some}
use Rattle.dw_expr.specs.BoundTree.{BoundTree, BoundTrees, BoundBranches, column, literal, arithmetic, joined, compared, both, either, opposite, is_null, between, in_list, like, choice, choice_else, cast, coalesce, count_rows, aggregate, none, more, no_branch, branch}
use Rattle.dw_expr.specs.declared.bound.BoundNode.{BoundNode}
use Rattle.dw_expr.specs.declared.bound.BoundNode.TheVariants.{Column, Literal, Arithmetic, Joined, Compared, And, Or, Not, IsNull, Between, InList, Like, Case, Cast, Coalesce, CountRows, Aggregate}
use Rattle.dw_expr.specs.declared.bound.BoundExprsNode.{BoundExprsNode}
use Rattle.dw_expr.specs.declared.bound.BoundExprsNode.TheVariants.{End, More}
use Rattle.dw_expr.specs.declared.bound.BoundArmsNode.{BoundArmsNode}
use Rattle.dw_expr.specs.declared.bound.BoundArmsNode.TheVariants as the_arms

abbrev pub bound_of : BoundNode → BoundTree
bound_of (Column source place kind) = column source place kind
bound_of (Literal value kind) = literal value kind
bound_of (Arithmetic op a b kind) = arithmetic op a.value b.value kind
bound_of (Joined a b) = joined a.value b.value
bound_of (Compared comparison a b) = compared comparison a.value b.value
bound_of (And a b) = both a.value b.value
bound_of (Or a b) = either a.value b.value
bound_of (Not a) = opposite a.value
bound_of (IsNull negated a) = is_null negated a.value
bound_of (Between negated a low high) = between negated a.value low.value high.value
bound_of (InList negated a list) = in_list negated a.value list.value
bound_of (Like negated a pattern) = like negated a.value pattern.value
bound_of (Case branches None kind) = choice branches.value kind
bound_of (Case branches (Some other) kind) = choice_else branches.value other.value kind
bound_of (Cast a kind) = cast a.value kind
bound_of (Coalesce list kind) = coalesce list.value kind
bound_of CountRows = count_rows
bound_of (Aggregate function a kind) = aggregate function a.value kind

abbrev pub bounds_of : BoundExprsNode → BoundTrees
bounds_of End = none
bounds_of (More a rest) = more a.value rest.value

abbrev pub arms_of : BoundArmsNode → BoundBranches
arms_of the_arms.End = no_branch
arms_of (the_arms.More condition result rest) = branch condition.value result.value rest.value
