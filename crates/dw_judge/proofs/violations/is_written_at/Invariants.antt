use Rattle.std.proofs.Common.{◌-◌, ◌≡◌, ◌≤◌, length, reverse, take}
use Rattle.dw_journal.specs.Watermarks.{written_at_low}
use Rattle.dw_judge.proofs.violations.is_written_at.Given as goal

abbrev pub invariant-loop-left : goal.invariant-loop-left
invariant-loop-left l =
    (l.left ≤ length l.commits) × (written_at_low l.low l.snapshot (reverse (take l.left l.commits)) l.object ≡ written_at_low l.low l.snapshot (reverse l.commits) l.object)

abbrev pub decreases-loop-left : goal.decreases-loop-left
decreases-loop-left l = l.left - l.snapshot
