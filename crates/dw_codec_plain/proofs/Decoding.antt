-- What a decoder's loop has read, and what follows where it stops.
use Rattle.std.proofs.Common.{◌≡◌, ℕ, suc, ◌+◌, ◌-◌, ◌≤◌, ◌<◌, Option, None, List, [], ◌∷◌, ◌++◌, length, get_or, refl, sym, ap, ◌∙◌, append_assoc, arith, length-append, subst}
use Rattle.std.specs.Prelude.{All}
use Rattle.std.proofs.lemmas.List.{append-nil, nil_from_length, get_or-append-add}
use Rattle.std.proofs.lemmas.List.Elements.{All-nil, All-push}
use Rattle.dw_codec_plain.specs.Spelling.{spelled, IsListOf, IsItem, NoItem, IsLongestFront, IsDamagedAt}
use Rattle.dw_codec_plain.proofs.Naturals.{AreBytes}
use Rattle.dw_codec_plain.proofs.Items.{IsPrefixFree, last_of, spelled_push, stops, goes_on, trails}

-- the values read so far, and the bytes that are left
pub record IsDecoding {X : Type 0} (item : Option X → X → List ℕ) (IsValue : X → Type 0) (bytes : List ℕ) (values : List X) (rest : List ℕ) : Type 0 where
  pub each : All IsValue values
  pub whole : bytes ≡ spelled item None values ++ rest

module _ {X : Type 0} (item : Option X → X → List ℕ) (IsValue : X → Type 0) where
  pub decoding_begins : (bytes : List ℕ) → IsDecoding item IsValue bytes [] bytes
  decoding_begins bytes = record { each = All-nil IsValue; whole = refl }

  pub decoding_goes_on : (bytes : List ℕ) (values : List X) (rest after : List ℕ) (v : X) → IsDecoding item IsValue bytes values rest → IsValue v → rest ≡ item (last_of None values) v ++ after
      → IsDecoding item IsValue bytes (values ++ v ∷ []) after
  decoding_goes_on bytes values rest after v d fits is =
      let now : Option X = last_of None values in
      let pushed : spelled item None (values ++ v ∷ []) ≡ spelled item None values ++ item now v = spelled_push item IsValue None now values v refl in
      record {
        each = All-push IsValue values v d.each fits;
        whole = d.whole ∙ (ap (λ (t : List ℕ). spelled item None values ++ t) is
            ∙ (sym (append_assoc (spelled item None values) (item now v) after) ∙ ap (λ (t : List ℕ). t ++ after) (sym pushed)));
      }

  -- no more bytes are left than there were, and they are bytes
  pub decoding_within : (bytes : List ℕ) (values : List X) (rest : List ℕ) → IsDecoding item IsValue bytes values rest → length rest ≤ length bytes
  decoding_within bytes values rest d = omega (arith, length-append (spelled item None values) rest, ap length d.whole)

  pub decoding_bytes : (bytes : List ℕ) (values : List X) (rest : List ℕ) → IsDecoding item IsValue bytes values rest → AreBytes bytes → AreBytes rest
  decoding_bytes bytes values rest d are i =
      let front : List ℕ = spelled item None values in
      let e : get_or rest i 0 ≡ get_or bytes (length front + i) 0 =
      sym (get_or-append-add front rest i 0) ∙ ap (λ (t : List ℕ). get_or t (length front + i) 0) (sym d.whole) in
      omega (arith, e, are (length front + i))

  pub decoding_done : (bytes : List ℕ) (values : List X) (rest : List ℕ) (count : ℕ) → IsDecoding item IsValue bytes values rest → length values ≡ count → length rest ≡ 0
      → IsListOf IsValue count values × (bytes ≡ spelled item None values)
  decoding_done bytes values rest count d counted none = (
    record { counted = counted; each = d.each },
    d.whole ∙ (ap (λ (t : List ℕ). spelled item None values ++ t) (nil_from_length rest none) ∙ append-nil (spelled item None values)),
  )

  module _ (free : IsPrefixFree item IsValue) where
    decoding_fails : (bytes : List ℕ) (values : List X) (rest : List ℕ) (left count place whole : ℕ) → IsDecoding item IsValue bytes values rest → length values + left ≡ count
        → whole ≡ length bytes - length rest + place → IsDamagedAt (spelled item (last_of None values)) IsValue left rest place → IsDamagedAt (spelled item None) IsValue count bytes whole
    decoding_fails bytes values rest left count place whole d counted at damaged =
        let inner : IsDamagedAt (spelled item None) IsValue (length values + left) bytes (length (spelled item None values) + place) =
        goes_on item IsValue free None values bytes rest left place d.each d.whole damaged in
        let e : length (spelled item None values) + place ≡ whole =
        omega (arith, length-append (spelled item None values) rest, ap length d.whole) in
        subst (λ p. IsDamagedAt (spelled item None) IsValue count bytes p) e
        (subst (λ n. IsDamagedAt (spelled item None) IsValue n bytes (length (spelled item None values) + place)) counted inner)

    pub decoding_stops : (bytes : List ℕ) (values : List X) (rest : List ℕ) (count place whole : ℕ) → IsDecoding item IsValue bytes values rest → length values < count
        → whole ≡ length bytes - length rest + place → NoItem item IsValue (last_of None values) rest → IsLongestFront (IsItem item IsValue (last_of None values)) rest place
        → IsDamagedAt (spelled item None) IsValue count bytes whole
    decoding_stops bytes values rest count place whole d lt at none front =
        decoding_fails bytes values rest (suc (count - suc (length values))) count place whole d (omega arith) at
        (stops item IsValue (last_of None values) rest (count - suc (length values)) place none front)

    pub decoding_trails : (bytes : List ℕ) (values : List X) (rest : List ℕ) (count whole : ℕ) → IsDecoding item IsValue bytes values rest → length values ≡ count
        → whole ≡ length bytes - length rest → 0 < length rest → IsDamagedAt (spelled item None) IsValue count bytes whole
    decoding_trails bytes values rest count whole d counted at some =
        decoding_fails bytes values rest 0 count 0 whole d (omega arith) (omega arith) (trails item IsValue (last_of None values) rest some)
