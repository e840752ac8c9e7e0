-- The arguments that are left, before those so far, make all.
use Rattle.std.proofs.Common.{◌≡◌, length}
use Rattle.dw_expr.specs.Binding.{list_as}
use Rattle.dw_bind.proofs.FromTheEnd.{onto, list_step}
use Rattle.dw_bind.proofs.branches.list_as.Given as goal

abbrev pub invariant-loop-a : goal.invariant-loop-a
invariant-loop-a l = onto (list_step l.kind) l.list l.bound ≡ list_as l.kind l.fn.list

abbrev pub decreases-loop-a : goal.decreases-loop-a
decreases-loop-a l = length l.list
