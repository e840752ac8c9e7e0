-- What is still to come of the comments leads to the same end.
use Rattle.std.proofs.Common.{◌≡◌, ◌+◌, ◌-◌, ◌<◌, ◌≤◌, length, drop}
use Rattle.dw_lex.specs.Gaps.{blocks_end}
use Rattle.dw_lex.proofs.gaps.block_at.Given as goal

abbrev pub invariant-loop-at : goal.invariant-loop-at
invariant-loop-at l =
    record {
      here : blocks_end l.blocks (drop l.at l.inside) (l.at + 2) ≡ blocks_end 1 l.inside 2;
      some : 0 < l.blocks;
      few : l.blocks ≤ l.at + 1;
      within : l.at ≤ length l.inside;
    }

abbrev pub decreases-loop-at : goal.decreases-loop-at
decreases-loop-at l = length l.inside - l.at
