-- The objects that were passed make the watermarks so far.
use Rattle.std.proofs.Common.{◌≡◌, ◌+◌, ◌≤◌, [], length, drop}
use Rattle.dw_journal.specs.Watermarks.{low_over, high_over}
use Rattle.dw_ssn.specs.CommitList.{CommitList}
use Rattle.dw_ssn.specs.Summaries.{StandsFor}
use Rattle.dw_ssn.proofs.certifier.Certifier.bounds_read.Given as goal

abbrev pub invariant-loop-left : goal.invariant-loop-left
invariant-loop-left l = record {
  within : l.left ≤ length l.reads;
  low : (list : CommitList) → StandsFor l.self list → l.bounds.low
      ≡ low_over (length list.commits + 1) (record { snapshot = l.taken.snapshot; reads = drop l.left l.reads; writes = l.taken.writes }) list.commits;
  high : (list : CommitList) → StandsFor l.self list → l.bounds.high
      ≡ high_over (record { snapshot = l.taken.snapshot; reads = drop l.left l.reads; writes = [] }) list.commits;
}

abbrev pub decreases-loop-left : goal.decreases-loop-left
decreases-loop-left l = l.left
