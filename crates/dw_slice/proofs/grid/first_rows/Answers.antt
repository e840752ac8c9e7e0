-- One more row.
use Rattle.dw_slice.proofs.Grids.{row_more}
use Rattle.dw_slice.proofs.grid.first_rows.Goals as goal

pub loop-place-preserved : goal.loop-place-preserved
loop-place-preserved c = row_more _ _ _ _ _ c.in_ok-push.ensures.items c.loop-place.invariant c.in_ok-row_at.ensures
