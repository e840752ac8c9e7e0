-- The session's snapshot after the events that the loop has passed.
use Rattle.std.proofs.Common.{◌≡◌, reverse, take}
use Rattle.dw_journal.specs.Transactions.{snapshot_of}
use Rattle.dw_journal.proofs.transactions.snapshot_of.Given as goal

abbrev pub invariant-loop-event : goal.invariant-loop-event
invariant-loop-event l = l.snapshot ≡ snapshot_of l.session (reverse (take l.event-index l.event-items))
