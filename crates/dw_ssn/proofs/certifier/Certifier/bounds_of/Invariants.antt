-- What is found so far, with what is left, is what all commits add.
use Rattle.dw_ssn.specs.CommitList.{CommitList}
use Rattle.dw_ssn.specs.Summaries.{StandsFor}
use Rattle.dw_ssn.proofs.Chains.{IsWalk}
use Rattle.dw_ssn.proofs.certifier.Certifier.bounds_of.Given as goal

abbrev pub invariant-loop-at : goal.invariant-loop-at
invariant-loop-at l = (list : CommitList) → StandsFor l.self list → IsWalk l.object list.commits l.snapshot l.at l.low

abbrev pub decreases-loop-at : goal.decreases-loop-at
decreases-loop-at l = l.at
