-- The items that are left, before the tests so far, make the tests of all.
use Rattle.std.proofs.Common.{◌≡◌, Some, length}
use Rattle.dw_expr.specs.Binding.{equality_tests}
use Rattle.dw_bind.proofs.FromTheEnd.{onto, equality_step}
use Rattle.dw_bind.proofs.comparisons.equality_tests.Given as goal

abbrev pub invariant-loop-b : goal.invariant-loop-b
invariant-loop-b l = onto (equality_step l.a) l.list (Some l.tests) ≡ equality_tests l.fn.a l.fn.list

abbrev pub decreases-loop-b : goal.decreases-loop-b
decreases-loop-b l = length l.list
