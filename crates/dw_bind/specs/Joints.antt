-- The kind of CASE and COALESCE, branch by branch.
use Rattle.std.specs.Prelude.{List, Option, Some, None, option_map}
use Rattle.dw_value.specs.declared.kinds.Kind.{Kind}
use Rattle.dw_expr.specs.declared.typed.Typed.{Typed}
use Rattle.dw_expr.specs.declared.typed.Typed.TheVariants.{Decided, Undecided}
use Rattle.dw_expr.specs.BoundTree.{kind_of}
use Rattle.dw_expr.specs.Classes.{branch_kind}
use Rattle.dw_expr.specs.Binding.{joint_kind, joint_after}

-- the kind of branches so far, if one of them has a kind, and one more
abbrev pub joint_with : Option Kind → Typed → Option (Option Kind)
joint_with so_far Undecided = Some so_far
joint_with None (Decided a) = option_map Some (branch_kind (kind_of a) (kind_of a))
joint_with (Some kind) (Decided a) = option_map Some (branch_kind kind (kind_of a))

-- the kind of branches so far and those of these kinds
abbrev pub joint_from : Option Kind → List Kind → Option Kind
joint_from None kinds = joint_kind kinds
joint_from (Some kind) kinds = joint_after (Some kind) kinds
