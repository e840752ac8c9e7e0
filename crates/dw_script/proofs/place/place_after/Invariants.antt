use Rattle.std.proofs.Common.{◌≡◌, ◌≤◌, drop}
use Rattle.dw_script.specs.Place.{place_from, place_after, nested_in}
use Rattle.dw_script.proofs.place.place_after.Given as goal

-- the rest leads from here to where all the bytes lead
abbrev pub invariant-loop-at : goal.invariant-loop-at
invariant-loop-at l =
    record {
      here : place_from l.place l.at (drop l.at l.bytes) ≡ place_after l.bytes;
      nested : nested_in l.place ≤ l.at;
    }
