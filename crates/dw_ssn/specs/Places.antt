-- Places of objects in ascending lists.
use Rattle.std.specs.Prelude.{◌≡◌, ℕ, zero, suc, true, false, List, [], ◌∷◌, Result, Ok, Err}
use Rattle.std.specs.List.{insert}
use Rattle.dw_model.specs.declared.objects.Object.{Object}
use Rattle.dw_model.specs.Objects.{is_among, same_object, with_object}

-- the object stands at the place, and at none before it
abbrev pub IsFirstPlace : Object → List Object → ℕ → Type 0
IsFirstPlace object [] place = ⊥
IsFirstPlace object (first ∷ rest) zero = same_object object first ≡ true
IsFirstPlace object (first ∷ rest) (suc place) = (same_object object first ≡ false) × IsFirstPlace object rest place

-- the object is found at its place, or isn't there and would go to the place
abbrev pub IsFound : Object → List Object → Result ℕ ℕ → Type 0
IsFound object objects (Ok place) = IsFirstPlace object objects place
IsFound object objects (Err place) =
    (is_among object objects ≡ false) × (insert objects place object ≡ with_object object objects)
