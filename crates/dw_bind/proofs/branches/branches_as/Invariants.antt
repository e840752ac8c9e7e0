-- The branches that are left, before those so far, make all.
use Rattle.std.proofs.Common.{◌≡◌, length}
use Rattle.dw_expr.specs.Binding.{branches_as}
use Rattle.dw_bind.proofs.FromTheEnd.{onto, branch_step}
use Rattle.dw_bind.proofs.branches.branches_as.Given as goal

abbrev pub invariant-loop-arm : goal.invariant-loop-arm
invariant-loop-arm l = onto (branch_step l.kind) l.arms l.bound ≡ branches_as l.kind l.fn.arms

abbrev pub decreases-loop-arm : goal.decreases-loop-arm
decreases-loop-arm l = length l.arms
