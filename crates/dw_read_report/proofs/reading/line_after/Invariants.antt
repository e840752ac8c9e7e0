-- The line feeds so far are counted.
use Rattle.std.proofs.Common.{◌≡◌, ◌≤◌, ◌+◌, drop}
use Rattle.dw_read_report.specs.ReportReading.{line_feeds}
use Rattle.dw_read_report.proofs.reading.line_after.Given as goal

abbrev pub invariant-loop-byte : goal.invariant-loop-byte
invariant-loop-byte l = record {
  few : l.line ≤ l.byte-index + 1;
  counted : l.line + line_feeds (drop l.byte-index l.bytes) ≡ 1 + line_feeds l.bytes;
}
