use Rattle.std.proofs.Common.{◌≡◌, ◌+◌, ◌-◌, ◌<◌, length, arith}
use Rattle.dw_judge.proofs.Rest.{Marked-init, Marked-more, Marked-low, Marked-high}
use Rattle.dw_judge.proofs.marks.bounds_over.Goals as goal

pub loop-left-init : goal.loop-left-init
loop-left-init c = Marked-init c.args.commits.now c.args.taken.now

pub loop-left-preserved : goal.loop-left-preserved
loop-left-preserved c =
    let taken = c.args.taken.now in
    let left = c.loop-left.left in
    let more : left ≡ left - 1 + 1 = omega arith in
    let within : left - 1 < length c.args.commits.now = omega (arith, c.loop-left.invariant.within) in
    Marked-more c.args.commits.now (left - 1) left c.index-commits-left.result taken c.loop-left.bounds.low c.loop-left.bounds.high _ _ more within c.index-commits-left.is c.loop-left.invariant c.with_commit-bounds.ensures.low c.with_commit-bounds.ensures.high

pub returns-then-left-bounds-clause-low : goal.returns-then-left-bounds-clause-low
returns-then-left-bounds-clause-low c =
    let taken = c.args.taken.now in
    Marked-low c.args.commits.now c.loop-left.left c.loop-left.bounds.low c.loop-left.bounds.high taken c.loop-left.invariant (omega arith)

pub returns-then-left-bounds-clause-high : goal.returns-then-left-bounds-clause-high
returns-then-left-bounds-clause-high c =
    let taken = c.args.taken.now in
    Marked-high c.args.commits.now c.loop-left.left c.loop-left.bounds.low c.loop-left.bounds.high taken c.loop-left.invariant (omega arith)
