-- The least snapshot of the sessions that the loop has passed.
use Rattle.std.proofs.Common.{◌≡◌, take}
use Rattle.std.specs.List.{filter_map}
use Rattle.dw_journal.specs.Transactions.{least_of}
use Rattle.dw_judge.specs.Readings.{snapshot_kept}
use Rattle.dw_judge.proofs.summaries.horizon_of.Given as goal

abbrev pub invariant-loop-kept : goal.invariant-loop-kept
invariant-loop-kept l = l.least ≡ least_of (filter_map snapshot_kept (take l.kept-index l.sessions))
