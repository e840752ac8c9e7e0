-- What an encoder's loop has written.
use Rattle.std.proofs.Common.{◌≡◌, ℕ, ◌+◌, ◌<◌, Option, None, List, [], ◌∷◌, ◌++◌, length, take, get_or, refl, sym, ap, ◌∙◌}
use Rattle.std.proofs.lemmas.List.{take_more}
use Rattle.dw_codec_plain.specs.Spelling.{spelled}
use Rattle.dw_codec_plain.proofs.Items.{last_of, spelled_push}

-- one more value is written
pub encoding_goes_on : {X : Type 0} (item : Option X → X → List ℕ) (IsValue : X → Type 0) (values : List X) (i : ℕ) (d : X) (old new : List ℕ) → i < length values
    → old ≡ spelled item None (take i values) → new ≡ old ++ item (last_of None (take i values)) (get_or values i d) → new ≡ spelled item None (take (i + 1) values)
encoding_goes_on {X} item IsValue values i d old new lt so_far is =
    let front : List X = take i values in
    let one : spelled item None (front ++ get_or values i d ∷ []) ≡ spelled item None front ++ item (last_of None front) (get_or values i d) =
    spelled_push item IsValue None (last_of None front) front (get_or values i d) refl in
    is ∙ (ap (λ (t : List ℕ). t ++ item (last_of None front) (get_or values i d)) so_far
    ∙ (sym one ∙ ap (spelled item None) (sym (take_more values i d lt))))
