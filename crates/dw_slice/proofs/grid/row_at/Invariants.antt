-- The values of the columns so far.
use Rattle.std.proofs.Common.{◌≡◌, take}
use Rattle.dw_slice.specs.Grid.{values_at}
use Rattle.dw_slice.proofs.grid.row_at.Given as goal

abbrev pub invariant-loop-column : goal.invariant-loop-column
invariant-loop-column l = l.values.items ≡ values_at (take l.column-index l.columns) l.place
