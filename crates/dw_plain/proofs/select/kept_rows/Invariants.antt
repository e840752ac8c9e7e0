-- The values of the rows so far that pass.
use Rattle.std.proofs.Common.{◌≡◌, map, filter, take}
use Rattle.dw_plain.specs.Places.{passes_at, values_at}
use Rattle.dw_plain.proofs.select.kept_rows.Given as goal

abbrev pub invariant-loop-row : goal.invariant-loop-row
invariant-loop-row l = l.kept ≡ map (values_at l.places) (filter (passes_at l.condition) (take l.row-index l.rows))
