-- The places for the columns so far.
use Rattle.std.proofs.Common.{◌≡◌, map, take}
use Rattle.dw_plain.specs.Places.{place_given}
use Rattle.dw_plain.proofs.insert.places_given.Given as goal

abbrev pub invariant-loop-column : goal.invariant-loop-column
invariant-loop-column l = l.places.items ≡ map (place_given l.columns l.listed) (take l.column-index l.columns)
