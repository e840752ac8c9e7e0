-- One more id within the bounds.
use Rattle.std.proofs.Common.{None, false}
use Rattle.dw_slice.specs.declared.marks.Mark.{Mark}
use Rattle.dw_slice.proofs.Marking.{bounds_more, bounds_all}
use Rattle.dw_slice.proofs.marks.bounds.Goals as goal

pub loop-mark-preserved : goal.loop-mark-preserved
loop-mark-preserved c =
    let none : Mark = record { id = 0; inserted = 0; deleted = None; sorted = false } in
    bounds_more c.args.marks.now c.loop-mark.mark-index none c.loop-mark.least c.loop-mark.greatest _ _ c.loop-mark-test.true c.loop-mark.invariant
    c.lesser-least.ensures.one c.greater-greatest.ensures.one c.lesser-least.ensures.other c.greater-greatest.ensures.other

pub returns : goal.returns
returns c = bounds_all c.args.marks.now c.loop-mark.mark-index c.loop-mark.least c.loop-mark.greatest c.loop-mark-test.false c.loop-mark.invariant
