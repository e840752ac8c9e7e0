-- The columns so far.
use Rattle.std.proofs.Common.{◌≡◌, take, map}
use Rattle.dw_slice.specs.Columns.{storage_of}
use Rattle.dw_slice.proofs.slices.columns_of.Given as goal

abbrev pub invariant-loop-column : goal.invariant-loop-column
invariant-loop-column l = l.columns.items ≡ map storage_of (take l.column-index l.column-items)
