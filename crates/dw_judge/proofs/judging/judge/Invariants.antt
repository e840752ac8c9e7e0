-- The events that the loop has passed are right, and the summary and the table of locks stand for their history.
use Rattle.dw_journal.specs.Locks.{lock_state}
use Rattle.dw_locks.specs.LockTable.{StandsForLocks}
use Rattle.dw_judge.specs.Summaries.{StandsFor}
use Rattle.dw_judge.specs.Verdicts.{AreRight, history_before}
use Rattle.dw_judge.proofs.judging.judge.Given as goal

abbrev pub invariant-loop-place : goal.invariant-loop-place
invariant-loop-place l = record {
  right : AreRight l.world l.journal l.place;
  stands : StandsFor l.journal.events (history_before l.world l.journal l.place) l.summary;
  locked : StandsForLocks l.locks (lock_state (history_before l.world l.journal l.place));
}
