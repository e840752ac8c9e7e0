-- The events so far, before those to come, are all of them.
use Rattle.std.proofs.Common.{◌≡◌, ◌-◌, ◌+◌, length}
use Rattle.dw_read_report.specs.ReportReading.{all_events_at, events_at, with_items}
use Rattle.dw_read_report.proofs.reading.read_all_events.Given as goal

abbrev pub invariant-loop-index : goal.invariant-loop-index
invariant-loop-index l =
    with_items l.events (events_at (length l.bytes - l.index) (l.index + 1) l.rest) ≡ all_events_at l.bytes
