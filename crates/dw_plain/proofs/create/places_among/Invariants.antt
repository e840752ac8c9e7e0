-- The places of the names so far.
use Rattle.std.proofs.Common.{◌≡◌, map, take}
use Rattle.dw_model.specs.Creating.{place_among}
use Rattle.dw_plain.proofs.create.places_among.Given as goal

abbrev pub invariant-loop-name : goal.invariant-loop-name
invariant-loop-name l = l.places ≡ map (place_among l.names) (take l.name-index l.key)
