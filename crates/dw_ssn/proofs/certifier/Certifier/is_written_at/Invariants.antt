-- Nothing is found yet.
use Rattle.std.proofs.Common.{◌≡◌}
use Rattle.dw_journal.specs.Watermarks.{written_at_low}
use Rattle.dw_ssn.specs.CommitList.{CommitList}
use Rattle.dw_ssn.specs.OneObject.{up_to}
use Rattle.dw_ssn.specs.Summaries.{StandsFor}
use Rattle.dw_ssn.proofs.Chains.{IsOnChain}
use Rattle.dw_ssn.proofs.certifier.Certifier.is_written_at.Given as goal

abbrev pub invariant-loop-at : goal.invariant-loop-at
invariant-loop-at l = (list : CommitList) → StandsFor l.self list
    → IsOnChain l.object list.commits l.at
    × (written_at_low l.low l.snapshot list.commits l.object ≡ written_at_low l.low l.snapshot (up_to l.at list.commits) l.object)

abbrev pub decreases-loop-at : goal.decreases-loop-at
decreases-loop-at l = l.at
