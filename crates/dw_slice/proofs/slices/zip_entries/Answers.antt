-- One more entry.
use Rattle.std.proofs.Common.{None, false}
use Rattle.dw_slice.specs.declared.marks.Mark.{Mark}
use Rattle.dw_slice.proofs.Cutting.{zip_next}
use Rattle.dw_slice.proofs.slices.zip_entries.Goals as goal

pub loop-place-preserved : goal.loop-place-preserved
loop-place-preserved c =
    let none : Mark = record { id = 0; inserted = 0; deleted = None; sorted = false } in
    zip_next c.args.marks.now c.args.rows.now c.loop-place.place none c.index-rows-place.result c.in_ok-copy.field-0 c.loop-place.entries.items _ c.requires c.loop-place-test.true c.index-rows-place.is c.in_ok-copy.ensures
    c.in_ok-push.ensures.items c.loop-place.invariant
