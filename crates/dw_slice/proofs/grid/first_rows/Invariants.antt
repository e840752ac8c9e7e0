-- The rows so far.
use Rattle.std.proofs.Common.{◌≡◌}
use Rattle.dw_slice.specs.Grid.{first_rows}
use Rattle.dw_slice.proofs.grid.first_rows.Given as goal

abbrev pub invariant-loop-place : goal.invariant-loop-place
invariant-loop-place l = l.rows.items ≡ first_rows l.columns l.place
