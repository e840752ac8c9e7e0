-- A column's value comes after those before it.
use Rattle.dw_query.proofs.Joining.{filled-step}
use Rattle.dw_query.proofs.filling.filled_row.Goals as goal

pub loop-column-preserved : goal.loop-column-preserved
loop-column-preserved c =
    filled-step c.args.exprs.now c.args.values.now c.args.others.now c.args.targets.now c.loop-column.column _ _ _ _ c.loop-column-test.true c.in_ok-take_column.ensures c.loop-column.invariant
