-- The rows so far, before those to come, are all of them.
use Rattle.std.proofs.Common.{◌≡◌, ◌-◌}
use Rattle.dw_read_report.specs.ReportReading.{rows_at, with_items}
use Rattle.dw_read_report.proofs.reading.read_rows.Given as goal

abbrev pub invariant-loop : goal.invariant-loop
invariant-loop l = with_items l.rows (rows_at (l.count - l.counter) l.rest) ≡ rows_at l.count l.bytes
