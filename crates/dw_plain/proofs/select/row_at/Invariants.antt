-- The values at the places so far.
use Rattle.std.proofs.Common.{◌≡◌, map, take}
use Rattle.dw_plain.specs.Places.{value_at}
use Rattle.dw_plain.proofs.select.row_at.Given as goal

abbrev pub invariant-loop-place : goal.invariant-loop-place
invariant-loop-place l = l.values ≡ map (value_at l.row.values) (take l.place-index l.places)
