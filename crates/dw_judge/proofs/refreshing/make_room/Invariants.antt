-- The stamps are the same so far; the places that are wanting become fewer.
use Rattle.std.proofs.Common.{◌≡◌, ℕ, ◌+◌, ◌-◌, vec_len}
use Rattle.dw_judge.specs.Summaries.{stamp_kept}
use Rattle.dw_judge.proofs.refreshing.make_room.Given as goal

abbrev pub invariant-loop-stamps : goal.invariant-loop-stamps
invariant-loop-stamps l = (other : ℕ) → stamp_kept l.stamps.items other ≡ stamp_kept l.fn.stamps.items other

abbrev pub decreases-loop-stamps : goal.decreases-loop-stamps
decreases-loop-stamps l = l.cluster + 1 - vec_len l.stamps
