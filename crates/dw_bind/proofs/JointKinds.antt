-- The kind of CASE and COALESCE, branch by branch.
use Rattle.std.proofs.Common.{◌≡◌, List, ◌∷◌, Option, Some, None, option_map, refl, ap}
use Rattle.dw_value.specs.declared.kinds.Kind.{Kind}
use Rattle.dw_expr.specs.declared.typed.Typed.{Typed}
use Rattle.dw_expr.specs.declared.typed.Typed.TheVariants.{Decided, Undecided}
use Rattle.dw_expr.specs.BoundTree.{kind_of}
use Rattle.dw_expr.specs.Classes.{branch_kind}
use Rattle.dw_expr.specs.Binding.{joint_after, kinds_of}
use Rattle.dw_bind.specs.Joints.{joint_with, joint_from}

after_some : (joint : Option Kind) (next : Option Kind) (rest : List Kind) → option_map Some joint ≡ Some next → joint_after joint rest ≡ joint_from next rest
after_some (Some kind) (Some next) rest p = ap (λ k. joint_after k rest) (let q : Some kind ≡ Some next = cc in q)
after_some (Some kind) None rest p = cc
after_some None next rest p = cc

after_none : (joint : Option Kind) (rest : List Kind) → ◌≡◌ {A = Option (Option Kind)} (option_map Some joint) None → joint_after joint rest ≡ None
after_none (Some kind) rest p = cc
after_none None rest p = refl

pub joint-turn : (so_far next : Option Kind) (a : Typed) (rest : List Typed) → joint_with so_far a ≡ Some next → joint_from so_far (kinds_of (a ∷ rest)) ≡ joint_from next (kinds_of rest)
joint-turn so_far next Undecided rest p = ap (λ s. joint_from s (kinds_of rest)) (let q : so_far ≡ next = cc in q)
joint-turn None next (Decided a) rest p = after_some (branch_kind (kind_of a) (kind_of a)) next (kinds_of rest) p
joint-turn (Some kind) next (Decided a) rest p = after_some (branch_kind kind (kind_of a)) next (kinds_of rest) p

pub joint-clash : (so_far : Option Kind) (a : Typed) (rest : List Typed) → joint_with so_far a ≡ None → joint_from so_far (kinds_of (a ∷ rest)) ≡ None
joint-clash so_far Undecided rest p = cc
joint-clash None (Decided a) rest p = after_none (branch_kind (kind_of a) (kind_of a)) (kinds_of rest) p
joint-clash (Some kind) (Decided a) rest p = after_none (branch_kind kind (kind_of a)) (kinds_of rest) p
