-- The branches that are left, before those so far, make all.
use Rattle.std.proofs.Common.{◌≡◌, length}
use Rattle.dw_parse_expr.specs.Reading.{branches}
use Rattle.dw_parse_expr.proofs.FromTheEnd.{branches_before}
use Rattle.dw_parse_expr.proofs.nodes.branches.Given as goal

abbrev pub invariant-loop-arm : goal.invariant-loop-arm
invariant-loop-arm l = branches_before l.list l.row ≡ branches l.fn.list

abbrev pub decreases-loop-arm : goal.decreases-loop-arm
decreases-loop-arm l = length l.list
