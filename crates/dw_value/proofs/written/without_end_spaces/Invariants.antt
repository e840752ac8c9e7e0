use Rattle.std.proofs.Common.{◌≡◌, ◌≤◌, length, take}
use Rattle.dw_value.specs.Texts.{without_end_spaces}
use Rattle.dw_value.proofs.written.without_end_spaces.Given as goal

abbrev pub invariant-loop-end : goal.invariant-loop-end
invariant-loop-end l = record {
  within : l.end ≤ length l.text;
  same : without_end_spaces (take l.end l.text) ≡ without_end_spaces l.text;
}

abbrev pub decreases-loop-end : goal.decreases-loop-end
decreases-loop-end l = l.end
