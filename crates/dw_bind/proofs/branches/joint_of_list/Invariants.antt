-- The kind so far, with those of the arguments that are left, comes to that of all.
use Rattle.std.proofs.Common.{◌≡◌, drop}
use Rattle.dw_expr.specs.Binding.{kinds_of}
use Rattle.dw_bind.specs.Joints.{joint_from}
use Rattle.dw_bind.proofs.branches.joint_of_list.Given as goal

abbrev pub invariant-loop-a : goal.invariant-loop-a
invariant-loop-a l = joint_from l.joint (kinds_of (drop l.a-index l.list)) ≡ joint_from l.fn.so_far (kinds_of l.list)
