-- The values of the rows so far.
use Rattle.std.proofs.Common.{◌≡◌, take}
use Rattle.dw_slice.specs.Grid.{column_of}
use Rattle.dw_slice.proofs.grid.column_of.Given as goal

abbrev pub invariant-loop-row : goal.invariant-loop-row
invariant-loop-row l = l.values.items ≡ column_of (take l.row-index l.rows) l.place
