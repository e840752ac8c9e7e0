-- Keys that stand for items.
use Rattle.std.proofs.Common.{◌≡◌, ℕ, inl, inr, Bool, true, false, cond, Some, None, List, [], ◌∷◌, ◌++◌, length, map, refl, ap, ◌∙◌}
use Rattle.std.specs.Prelude.{nat_lt}
use Rattle.std.specs.List.{list_any, position_or_len, position}
use Rattle.std.specs.Str.{bytes_eq}
use Rattle.std.proofs.lemmas.Bool.{cases_Bool}
use Rattle.std.proofs.lemmas.List.{map-append}
use Rattle.dw_codec_runs.specs.Dictionary.{is_known, met, place_among}

module _ {X : Type 0} (bytes : X → List ℕ) where
  pub known_keys : (item : List ℕ) (keys : List X) → list_any (λ k. bytes_eq item (bytes k)) keys ≡ is_known (map bytes keys) item
  known_keys item [] = refl
  known_keys item (k ∷ keys) = let e : list_any (λ k. bytes_eq item (bytes k)) keys ≡ is_known (map bytes keys) item = known_keys item keys in rw e refl

  pub place_keys : (item : List ℕ) (keys : List X) → position_or_len (λ k. bytes_eq item (bytes k)) keys ≡ place_among (map bytes keys) item
  place_keys item [] = refl
  place_keys item (k ∷ keys) = let e : position_or_len (λ k. bytes_eq item (bytes k)) keys ≡ place_among (map bytes keys) item = place_keys item keys in rw e refl

  -- the keys once one is inserted
  pub insert_keys : (key : X) (item : List ℕ) (keys : List X) → bytes key ≡ item
      → map bytes (cond (list_any (λ k. bytes_eq (bytes key) (bytes k)) keys) keys (keys ++ key ∷ [])) ≡ met (map bytes keys) item
  insert_keys key item keys is =
      let same : list_any (λ k. bytes_eq (bytes key) (bytes k)) keys ≡ is_known (map bytes keys) item =
      known_keys (bytes key) keys ∙ ap (is_known (map bytes keys)) is in
      elim (cases_Bool (is_known (map bytes keys) item)) [
        | inl here ↦
            let e : list_any (λ k. bytes_eq (bytes key) (bytes k)) keys ≡ true = same ∙ here in
            rw (e, here) refl
        | inr out ↦
            let e : list_any (λ k. bytes_eq (bytes key) (bytes k)) keys ≡ false = same ∙ out in
            rw (e, out) (map-append bytes keys (key ∷ []) ∙ ap (λ (t : List ℕ). map bytes keys ++ t ∷ []) is)
      ]

pub position_found : {X : Type 0} (test : X → Bool) (xs : List X) (place : ℕ) → position test xs ≡ Some place → place ≡ position_or_len test xs
position_found test xs place e = elim (cases_Bool (nat_lt (position_or_len test xs) (length xs))) [
  | inl lt ↦ let e' : Some (position_or_len test xs) ≡ Some place = rw lt at e in cc
  | inr out ↦ let e' : None ≡ Some place = rw out at e in cc
]
