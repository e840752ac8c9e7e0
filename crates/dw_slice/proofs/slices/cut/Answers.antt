-- One entry more.
use Rattle.std.proofs.Common.{refl}
use Rattle.dw_slice.specs.Building.{built}
use Rattle.dw_slice.proofs.Cutting.{entry_fits, entry_more}
use Rattle.dw_slice.proofs.slices.cut.Goals as goal

pub push-requires-clause-fits : goal.push-requires-clause-fits
push-requires-clause-fits c =
    entry_fits c.args.columns.now c.args.entries.now c.loop-entry.entry-index c.entry-item.result c.requires.fit c.loop-entry-test.true c.entry-item.is

pub loop-entry-preserved : goal.loop-entry-preserved
loop-entry-preserved c = record {
  entries = entry_more (built c.loop-entry.builder) _ c.args.entries.now c.loop-entry.entry-index c.entry-item.result _ c.loop-entry-test.true c.entry-item.is refl c.in_ok-push.ensures.built c.loop-entry.invariant.entries;
  building = c.in_ok-push.ensures.building;
}
