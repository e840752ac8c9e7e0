-- One fresh row more.
use Rattle.std.proofs.Common.{refl}
use Rattle.dw_slice.specs.Chunks.{all_entries}
use Rattle.dw_slice.specs.Building.{built}
use Rattle.dw_slice.proofs.Cutting.{fresh_fits, new_more}
use Rattle.dw_slice.proofs.slices.appended.Goals as goal

pub push-requires-clause-fits : goal.push-requires-clause-fits
push-requires-clause-fits c =
    fresh_fits c.args.columns.now c.args.fresh.now c.loop-one.one-index c.one-item.result c.requires.fit c.loop-one-test.true c.one-item.is

pub loop-one-preserved : goal.loop-one-preserved
loop-one-preserved c = record {
  entries = new_more (all_entries c.args.chunks.items) (built c.loop-one.builder) _ c.args.stamp c.args.fresh.now c.loop-one.one-index c.one-item.result _ c.loop-one-test.true c.one-item.is refl c.in_ok-push.ensures.built c.loop-one.invariant.entries;
  building = c.in_ok-push.ensures.building;
}
