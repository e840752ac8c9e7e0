-- The commits among the events that the loop has passed.
use Rattle.std.proofs.Common.{◌≡◌, ◌≤◌, reverse, take}
use Rattle.dw_journal.specs.Transactions.{commits}
use Rattle.dw_journal.proofs.transactions.commits.Given as goal

abbrev pub invariant-loop-event : goal.invariant-loop-event
invariant-loop-event l = record {
  counted : l.count ≡ commits (reverse (take l.event-index l.event-items));
  bound : l.count ≤ l.event-index;
}
