-- The places of the names so far.
use Rattle.std.proofs.Common.{◌≡◌, map, take}
use Rattle.dw_plain.specs.Places.{place_of}
use Rattle.dw_plain.proofs.select.places_of.Given as goal

abbrev pub invariant-loop-name : goal.invariant-loop-name
invariant-loop-name l = l.places.items ≡ map (place_of l.columns) (take l.name-index l.names)
