-- One entry more.
use Rattle.std.proofs.Common.{◌∷◌, []}
use Rattle.dw_slice.specs.declared.tests.TheConstants.{COLUMN}
use Rattle.dw_slice.specs.Columns.{FitsColumns}
use Rattle.dw_slice.proofs.Rising.{entry_ids_more, entry_rows_more, are_entries}
use Rattle.dw_slice.proofs.tests.entries.Goals as goal

pub loop-place-preserved : goal.loop-place-preserved
loop-place-preserved c = record {
  ids = entry_ids_more c.loop-place.place c.loop-place.entries _ _ c.in_ok-push.ensures.ok c.from.ensures c.loop-place.invariant.ids;
  fit = entry_rows_more (FitsColumns (COLUMN ∷ [])) c.loop-place.entries _ _ c.in_ok-push.ensures.ok c.in_ok-row.ensures c.loop-place.invariant.fit;
}

pub returns : goal.returns
returns c = are_entries (COLUMN ∷ []) c.loop-place.place c.loop-place.entries c.loop-place.invariant.ids c.loop-place.invariant.fit
