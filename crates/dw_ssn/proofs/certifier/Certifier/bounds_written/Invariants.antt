-- The objects that were passed make the watermark so far.
use Rattle.std.proofs.Common.{◌≡◌, ◌≤◌, [], length, drop}
use Rattle.dw_journal.specs.Watermarks.{high_over}
use Rattle.dw_ssn.specs.CommitList.{CommitList}
use Rattle.dw_ssn.specs.Summaries.{StandsFor}
use Rattle.dw_ssn.proofs.certifier.Certifier.bounds_written.Given as goal

abbrev pub invariant-loop-left : goal.invariant-loop-left
invariant-loop-left l = record {
  within : l.left ≤ length l.writes;
  high : (list : CommitList) → StandsFor l.self list
      → l.read.high ≡ high_over (record { snapshot = l.taken.snapshot; reads = l.taken.reads; writes = [] }) list.commits
      → l.high ≡ high_over (record { snapshot = l.taken.snapshot; reads = l.taken.reads; writes = drop l.left l.writes }) list.commits;
}

abbrev pub decreases-loop-left : goal.decreases-loop-left
decreases-loop-left l = l.left
