-- The entries so far have the next ids.
use Rattle.std.specs.Prelude.{All}
use Rattle.std.specs.List.{range_with_len}
use Rattle.std.proofs.Common.{◌≡◌, [], ◌∷◌}
use Rattle.dw_slice.specs.declared.tests.TheConstants.{COLUMN}
use Rattle.dw_slice.specs.Columns.{FitsColumns}
use Rattle.dw_slice.specs.Slices.{ids_of, rows_of}
use Rattle.dw_slice.proofs.tests.entries.Given as goal

abbrev pub invariant-loop-place : goal.invariant-loop-place
invariant-loop-place l = record {
  ids : ids_of l.entries ≡ range_with_len 0 l.place;
  fit : All (FitsColumns (COLUMN ∷ [])) (rows_of l.entries);
}
