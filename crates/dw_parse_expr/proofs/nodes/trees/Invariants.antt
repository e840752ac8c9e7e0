-- The expressions that are left, before the row so far, make all.
use Rattle.std.proofs.Common.{◌≡◌, length}
use Rattle.dw_parse_expr.specs.Reading.{trees}
use Rattle.dw_parse_expr.proofs.FromTheEnd.{trees_before}
use Rattle.dw_parse_expr.proofs.nodes.trees.Given as goal

abbrev pub invariant-loop-a : goal.invariant-loop-a
invariant-loop-a l = trees_before l.list l.row ≡ trees l.fn.list

abbrev pub decreases-loop-a : goal.decreases-loop-a
decreases-loop-a l = length l.list
