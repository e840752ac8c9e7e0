use Rattle.dw_judge.proofs.Rest.{Marked}
use Rattle.dw_judge.proofs.marks.bounds_over.Given as goal

abbrev pub invariant-loop-left : goal.invariant-loop-left
invariant-loop-left l = Marked l.commits l.left l.bounds.low l.bounds.high l.taken

abbrev pub decreases-loop-left : goal.decreases-loop-left
decreases-loop-left l = l.left
