-- The kind so far, with those of the branches that are left, comes to that of all.
use Rattle.std.proofs.Common.{◌≡◌, drop}
use Rattle.dw_expr.specs.Binding.{kinds_of, results_of}
use Rattle.dw_bind.specs.Joints.{joint_from}
use Rattle.dw_bind.proofs.branches.joint_of_arms.Given as goal

abbrev pub invariant-loop-arm : goal.invariant-loop-arm
invariant-loop-arm l =
    joint_from l.joint (kinds_of (results_of (drop l.arm-index l.arms))) ≡ joint_from l.fn.so_far (kinds_of (results_of l.arms))
