-- The least snapshot so far, with those of the sessions to come, is the least of all.
use Rattle.std.proofs.Common.{◌≡◌, ◌+◌, ◌-◌}
use Rattle.std.specs.List.{filter_map, fold, range_with_len}
use Rattle.dw_journal.specs.History.{events_of}
use Rattle.dw_journal.specs.Transactions.{least_of, least_with, open_snapshots, snapshot_of}
use Rattle.dw_journal.proofs.transactions.horizon.Given as goal

abbrev pub invariant-loop-before : goal.invariant-loop-before
invariant-loop-before l =
    fold least_with l.least (filter_map (λ session. snapshot_of session (events_of l.journal)) (range_with_len (l.before + 1) (l.journal.shape.sessions - l.before)))
    ≡ least_of (open_snapshots l.journal.shape.sessions (events_of l.journal))
