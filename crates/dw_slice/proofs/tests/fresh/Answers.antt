-- One row more.
use Rattle.std.proofs.Common.{ℕ, ◌+◌, ap, ◌∷◌, []}
use Rattle.dw_slice.specs.declared.tests.TheConstants.{COLUMN}
use Rattle.dw_slice.specs.Columns.{FitsColumns}
use Rattle.dw_slice.proofs.Rising.{fresh_ids_more, fresh_rows_more}
use Rattle.dw_slice.proofs.tests.fresh.Goals as goal

pub loop-place-preserved : goal.loop-place-preserved
loop-place-preserved c = record {
  ids = fresh_ids_more c.args.from c.loop-place.place c.loop-place.fresh _ _ c.in_ok-push.ensures.ok (ap (λ (n : ℕ). c.args.from + n) c.from.ensures) c.loop-place.invariant.ids;
  fit = fresh_rows_more (FitsColumns (COLUMN ∷ [])) c.loop-place.fresh _ _ c.in_ok-push.ensures.ok c.in_ok-row.ensures c.loop-place.invariant.fit;
}
