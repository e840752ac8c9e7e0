-- The items that are left, before the expressions so far, make those of all.
use Rattle.std.proofs.Common.{◌≡◌, Some, length}
use Rattle.dw_expr.specs.Binding.{against_all}
use Rattle.dw_bind.proofs.FromTheEnd.{onto, against_step}
use Rattle.dw_bind.proofs.comparisons.against_all.Given as goal

abbrev pub invariant-loop-b : goal.invariant-loop-b
invariant-loop-b l = onto (against_step l.a) l.list (Some l.bound) ≡ against_all l.fn.a l.fn.list

abbrev pub decreases-loop-b : goal.decreases-loop-b
decreases-loop-b l = length l.list
