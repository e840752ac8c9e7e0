-- Ids that differ, and others that aren't among them.
use Rattle.std.specs.Prelude.{All, nat_eq}
use Rattle.std.specs.List.{IsDistinct, AllByRecursion}
use Rattle.std.proofs.Common.{◌≡◌, ℕ, Bool, true, false, ◌||◌, List, [], ◌∷◌, ◌++◌}
use Rattle.std.proofs.lemmas.List.Elements.{All-head, All-tail, All-weaker}
use Rattle.dw_slice.specs.Slices.{is_among}
use Rattle.dw_slice.proofs.Marking.{or_left, or_right}

skip : (a b c : Bool) → (a || (b || c)) ≡ false → (a || c) ≡ false
skip true b c e = e
skip false b c e = or_right b c e

apart_append : (x : ℕ) (xs ys : List ℕ) → AllByRecursion (λ y. nat_eq x y ≡ false) xs → All (λ y. is_among (x ∷ xs) y ≡ false) ys → AllByRecursion (λ y. nat_eq x y ≡ false) (xs ++ ys)
apart_append x (z ∷ xs) ys first h = (first.0, apart_append x xs ys first.1 (All-weaker (λ y. is_among (x ∷ z ∷ xs) y ≡ false) (λ y. is_among (x ∷ xs) y ≡ false) (λ y e. skip (nat_eq x y) (nat_eq z y) (is_among xs y) e) ys h))
apart_append x [] [] first h = tt
apart_append x [] (y ∷ ys) first h =
    (or_left (nat_eq x y) false (All-head (λ y. is_among (x ∷ []) y ≡ false) y ys h), apart_append x [] ys first (All-tail (λ y. is_among (x ∷ []) y ≡ false) y ys h))

pub distinct_append : (xs ys : List ℕ) → IsDistinct nat_eq xs → IsDistinct nat_eq ys → All (λ y. is_among xs y ≡ false) ys → IsDistinct nat_eq (xs ++ ys)
unfolding IsDistinct
distinct_append [] ys p q h = q
distinct_append (x ∷ xs) ys p q h = (
  apart_append x xs ys p.0 h,
  distinct_append xs ys p.1 q (All-weaker (λ y. is_among (x ∷ xs) y ≡ false) (λ y. is_among xs y ≡ false) (λ y e. or_right (nat_eq x y) (is_among xs y) e) ys h),
)
