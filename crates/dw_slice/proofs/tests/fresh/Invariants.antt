-- The rows so far have the next ids.
use Rattle.std.specs.Prelude.{All}
use Rattle.std.specs.List.{range_with_len}
use Rattle.std.proofs.Common.{◌≡◌, [], ◌∷◌}
use Rattle.dw_slice.specs.declared.tests.TheConstants.{COLUMN}
use Rattle.dw_slice.specs.Columns.{FitsColumns}
use Rattle.dw_slice.specs.Slices.{fresh_ids, fresh_rows}
use Rattle.dw_slice.proofs.tests.fresh.Given as goal

abbrev pub invariant-loop-place : goal.invariant-loop-place
invariant-loop-place l = record {
  ids : fresh_ids l.fresh ≡ range_with_len l.from l.place;
  fit : All (FitsColumns (COLUMN ∷ [])) (fresh_rows l.fresh);
}
