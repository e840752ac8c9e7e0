use Rattle.std.proofs.Common.{arith}
use Rattle.dw_judge.specs.Readings.{snapshot_kept}
use Rattle.dw_judge.proofs.Readings.{least_more}
use Rattle.dw_judge.proofs.summaries.horizon_of.Goals as goal

pub loop-kept-preserved : goal.loop-kept-preserved
loop-kept-preserved c =
    rw (c.least_with-least.ensures, c.snapshot_of.ensures)
    (least_more snapshot_kept c.args.sessions.now c.loop-kept.kept-index c.kept-item.result c.loop-kept.least (omega arith) c.kept-item.is c.loop-kept.invariant)
