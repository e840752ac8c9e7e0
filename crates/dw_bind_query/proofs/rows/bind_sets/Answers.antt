-- A new value comes after those before it.
use Rattle.dw_query.specs.BindingRows.{a_set}
use Rattle.dw_bind_query.proofs.Gathering.{parts-turn}
use Rattle.dw_bind_query.proofs.rows.bind_sets.Goals as goal

pub loop-assignment-preserved : goal.loop-assignment-preserved
loop-assignment-preserved c =
    parts-turn (a_set c.args.sight.now c.args.columns.now) c.args.sets.now c.loop-assignment.assignment-index c.assignment-item.result _ _ _ c.loop-assignment-test.true c.assignment-item.is c.in_ok-take_set.ensures c.loop-assignment.invariant
