-- Reading places one after another.
use Rattle.std.proofs.Common.{◌≡◌, ℕ, suc, ◌+◌, ◌-◌, ◌≤◌, ◌<◌, ◌⊎◌, inl, inr, List, [], ◌∷◌, ◌++◌, length, take, drop, get_or, refl, sym, ap, ◌∙◌, subst, arith, length-append, length-drop}
use Rattle.std.proofs.lemmas.Bool.{cases_lt}
use Rattle.std.proofs.lemmas.List.{append-nil, length-take-le, take-append-drop, nil_from_length, drop_more, drop_all}
use Rattle.dw_codec_plain.specs.Spelling.{IsLongestFront}
use Rattle.dw_codec_runs.specs.DictionaryParts.{HasPlaces, MayCome, IsPlace, IsBroken, NoneFirst, AreSame, Behind, IsAt}
use Rattle.dw_codec_runs.proofs.DictionaryFronts.{at_begin, at_more, at_broken, at_done, broken_item, broken_trail}
use Rattle.dw_codec_runs.proofs.DictionaryStates.{places_begin, place_again, place_next}

-- the places that are left behind the first `at` bytes, with k of n items known
pub record IsReading (n count : ℕ) (bytes : List ℕ) (k at : ℕ) : Type 0 where
  pub follows : IsAt (HasPlaces n 0 count) bytes (drop at bytes) (HasPlaces n k (count - at))
  pub most : k ≤ n
  pub enough : n ≤ k + (count - at)
  pub within : at ≤ length bytes

pub reading_begins : (n count : ℕ) (bytes : List ℕ) → n ≤ count → IsReading n count bytes 0 0
reading_begins n count bytes le =
    let e : count ≡ count - 0 = omega arith in
    record {
      follows = subst (λ r. IsAt (HasPlaces n 0 count) bytes bytes (HasPlaces n 0 r)) e (at_begin (HasPlaces n 0 count) bytes);
      most = omega arith;
      enough = omega arith;
      within = omega arith;
    }

some_may : (n k r : ℕ) → k ≤ n → n ≤ k + suc r → 0 < n → (t : List ℕ) × IsPlace n k r t
some_may n k r le le' some = elim (cases_lt k n) [
  | inl lt ↦ (k ∷ [], record { place = k; may = inr (refl, lt); is = refl })
  | inr done ↦ (0 ∷ [], record { place = 0; may = inl (omega arith, omega arith); is = refl })
]

place_front : (n k r : ℕ) (rest : List ℕ) → k ≤ n → n ≤ k + suc r → 0 < n → NoneFirst (IsPlace n k r) rest → IsLongestFront (IsPlace n k r) rest 0
place_front n k r rest le le' some none =
    let any = some_may n k r le le' some in
    record {
      within = omega arith;
      begins = record { text = any.0; is = any.1; rest = any.0; begins = refl };
      longest = λ more within b. elim (cases_lt 0 more) [
        | inl past ↦
            let one : length b.text ≡ 1 = ap length b.is.is in
            let long : length (take more rest) ≡ more = length-take-le more rest within in
            let gone : length b.rest ≡ 0 = omega (arith, one, long, ap length b.begins, length-append (take more rest) b.rest) in
            let same : b.text ≡ take more rest = b.begins ∙ (ap (λ (t : List ℕ). take more rest ++ t) (nil_from_length b.rest gone) ∙ append-nil (take more rest)) in
            absurd (none b.text (drop more rest) b.is (sym (take-append-drop more rest) ∙ ap (λ (t : List ℕ). t ++ drop more rest) (sym same)))
        | inr le ↦ le
      ];
    }

place_breaks : (n k r : ℕ) (rest : List ℕ) → k ≤ n → n ≤ k + suc r → 0 < n → NoneFirst (IsPlace n k r) rest → IsBroken (HasPlaces n k (suc r)) rest 0
place_breaks n k r rest le le' some none =
    broken_item (IsPlace n k r) (HasPlaces n k (suc r)) (places_begin n k r le le') rest 0 none (place_front n k r rest le le' some none)

module _ (n count : ℕ) (bytes : List ℕ) (k at r : ℕ) (reading : IsReading n count bytes k at) (left : count - at ≡ suc r) where
  follows : IsAt (HasPlaces n 0 count) bytes (drop at bytes) (HasPlaces n k (suc r))
  follows = subst (λ m. IsAt (HasPlaces n 0 count) bytes (drop at bytes) (HasPlaces n k m)) left reading.follows

  breaks : 0 < n → NoneFirst (IsPlace n k r) (drop at bytes) → IsBroken (HasPlaces n 0 count) bytes at
  breaks some none =
      let most : k ≤ n = reading.most in
      let enough : n ≤ k + (count - at) = reading.enough in
      let within : at ≤ length bytes = reading.within in
      at_broken (HasPlaces n 0 count) bytes (drop at bytes) (HasPlaces n k (suc r)) 0 at follows (omega (arith, length-drop at bytes, within))
      (place_breaks n k r (drop at bytes) most (omega arith) some none)

  pub reading_ends : 0 < n → length bytes ≤ at → IsBroken (HasPlaces n 0 count) bytes at
  reading_ends some le = breaks some (λ item rest is same.
      omega (arith, le, ap length same, ap length is.is, length-append item rest, length-drop at bytes))

  here : at < length bytes → drop at bytes ≡ get_or bytes at 0 ∷ drop (at + 1) bytes
  here lt = drop_more bytes at 0 lt

  pub reading_stops : 0 < n → at < length bytes → ¬ MayCome n k r (get_or bytes at 0) → IsBroken (HasPlaces n 0 count) bytes at
  reading_stops some lt may_not = breaks some (λ item rest is same.
      let e : get_or bytes at 0 ∷ drop (at + 1) bytes ≡ is.place ∷ rest = sym (here lt) ∙ (same ∙ ap (λ (t : List ℕ). t ++ rest) is.is) in
      let place : is.place ≡ get_or bytes at 0 = cc in
      may_not (subst (λ p. MayCome n k r p) place is.may))

  pub reading_goes : (after : ℕ) → at < length bytes
      → (((get_or bytes at 0 < k) × (n ≤ k + r) × (after ≡ k)) ⊎ ((get_or bytes at 0 ≡ k) × (k < n) × (after ≡ k + 1))) → IsReading n count bytes after (at + 1)
  reading_goes after lt may =
      let most : k ≤ n = reading.most in
      let enough : n ≤ k + (count - at) = reading.enough in
      let place : ℕ = get_or bytes at 0 in
      let e : r ≡ count - (at + 1) = omega arith in
      let same : AreSame (Behind (HasPlaces n k (suc r)) (place ∷ [])) (HasPlaces n after r) = elim may [
        | inl again ↦ subst (λ m. AreSame (Behind (HasPlaces n k (suc r)) (place ∷ [])) (HasPlaces n m r)) (sym again.2) (place_again n k r place again.0)
        | inr next ↦
            let m : suc k ≡ after = let x : after ≡ k + 1 = next.2 in omega arith in
            subst (λ m. AreSame (Behind (HasPlaces n k (suc r)) (place ∷ [])) (HasPlaces n m r)) m (place_next n k r place next.0)
      ] in
      let goes : IsAt (HasPlaces n 0 count) bytes (drop (at + 1) bytes) (HasPlaces n after r) =
      at_more (HasPlaces n 0 count) bytes (drop at bytes) (HasPlaces n k (suc r)) (place ∷ []) (drop (at + 1) bytes) (HasPlaces n after r) follows (here lt) same in
      record {
        follows = subst (λ m. IsAt (HasPlaces n 0 count) bytes (drop (at + 1) bytes) (HasPlaces n after m)) e goes;
        most = elim may [ inl again ↦ omega (arith, again.2) | inr next ↦ omega (arith, next.1, next.2) ];
        enough = elim may [ inl again ↦ omega (arith, again.1, again.2) | inr next ↦ omega (arith, next.2) ];
        within = omega arith;
      }

module _ (n count : ℕ) (bytes : List ℕ) (k : ℕ) (reading : IsReading n count bytes k count) where
  all_read : HasPlaces n k (count - count) []
  all_read = record {
    grows = let most : k ≤ n = reading.most in let enough : n ≤ k + (count - count) = reading.enough in omega arith;
    long = omega arith;
  }

  pub reading_done : length bytes ≤ count → HasPlaces n 0 count bytes
  reading_done le =
      let none : drop count bytes ≡ [] = drop_all count bytes le in
      at_done (HasPlaces n 0 count) bytes (drop count bytes) (HasPlaces n k (count - count)) reading.follows (subst (HasPlaces n k (count - count)) (sym none) all_read)

  pub reading_trails : count < length bytes → IsBroken (HasPlaces n 0 count) bytes count
  reading_trails lt =
      at_broken (HasPlaces n 0 count) bytes (drop count bytes) (HasPlaces n k (count - count)) 0 count reading.follows (omega (arith, length-drop count bytes))
      (broken_trail (HasPlaces n k (count - count)) all_read (λ t has. let e : length t ≡ count - count = has.long in omega arith) (drop count bytes) (omega (arith, length-drop count bytes)))
