-- The oldest number rises to the one that is given.
use Rattle.std.proofs.Common.{◌≡◌, ◌-◌, ◌≤◌, max}
use Rattle.dw_ssn.specs.CommitList.{CommitList}
use Rattle.dw_ssn.specs.Summaries.{StandsFor}
use Rattle.dw_ssn.proofs.certifier.Certifier.prune.Given as goal

abbrev pub invariant-loop-self : goal.invariant-loop-self
invariant-loop-self l = record {
  count_is : l.self.count ≡ l.initial.self.count;
  rises : l.initial.self.oldest ≤ l.self.oldest;
  below : l.self.oldest ≤ max l.initial.self.oldest l.oldest;
  stands : (list : CommitList) → StandsFor l.initial.self list → StandsFor l.self (record { oldest = l.self.oldest; commits = list.commits });
}

abbrev pub decreases-loop-self : goal.decreases-loop-self
decreases-loop-self l = l.oldest - l.self.oldest
