-- Labels: what `strip_prefix` says of them, and what stands after them.
use Rattle.std.proofs.Common.{◌≡◌, ℕ, Bool, true, false, List, [], ◌∷◌, length, take, drop, Some, None, refl, eqb, ◌&&◌, cond}
use Rattle.std.proofs.lemmas.Bool.{and_parts}
use Rattle.std.specs.Cmp.Lexicographic.{pointwise}
use Rattle.dw_read_report.specs.Reading.{after_label}

pub label_is_there : (label bytes : List ℕ) → pointwise eqb (take (length label) bytes) label ≡ true
    → after_label label bytes ≡ Some (drop (length label) bytes)
label_is_there [] bytes same = refl
label_is_there (letter ∷ label) [] same = absurd (cc same)
label_is_there (letter ∷ label) (byte ∷ bytes) same =
    let parts = and_parts (eqb byte letter) (pointwise eqb (take (length label) bytes) label) same in
    rw parts.0 (label_is_there label bytes parts.1)

not_there : (here : Bool) (label bytes : List ℕ) → (pointwise eqb (take (length label) bytes) label ≡ false → after_label label bytes ≡ None)
    → (here && pointwise eqb (take (length label) bytes) label) ≡ false → cond here (after_label label bytes) None ≡ None
not_there true label bytes later differ = later differ
not_there false label bytes later differ = refl

pub label_is_not_there : (label bytes : List ℕ) → pointwise eqb (take (length label) bytes) label ≡ false
    → after_label label bytes ≡ None
label_is_not_there [] bytes differ = absurd (cc differ)
label_is_not_there (letter ∷ label) [] differ = refl
label_is_not_there (letter ∷ label) (byte ∷ bytes) differ =
    not_there (eqb byte letter) label bytes (label_is_not_there label bytes) differ
