use Rattle.std.proofs.Common.{◌≡◌, ◌≤◌, ◌+◌, drop}
use Rattle.dw_check.specs.Ends.{common_front, line_ends}
use Rattle.dw_check.proofs.ends.shared_lines.Given as goal

-- the lines so far, with those that are shared from here on
abbrev pub invariant-loop-place : goal.invariant-loop-place
invariant-loop-place l = record {
  lines : line_ends (common_front l.bytes l.due) ≡ l.lines + line_ends (common_front (drop l.place l.bytes) (drop l.place l.due));
  few : l.lines ≤ l.place;
}
