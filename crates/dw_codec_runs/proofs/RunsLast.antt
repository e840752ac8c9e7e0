-- Another last byte.
use Rattle.std.proofs.Common.{◌≡◌, ℕ, ◌-◌, ◌<◌, List, [], ◌∷◌, ◌++◌, length, take, get_or, sym, ap, ◌∙◌, arith, length-append, inl, inr}
use Rattle.std.proofs.lemmas.Bool.{cases_lt, cases_eq}
use Rattle.std.proofs.lemmas.List.{length-take-le, get_or_at, get_or_past, get_or_append_left}
use Rattle.dw_codec_plain.proofs.Naturals.{AreBytes, taken_are_bytes}

-- bytes that differ from these in their last one alone
pub record IsOtherLast (bytes : List ℕ) : Type 0 where
  pub last : ℕ
  pub are : AreBytes (take (length bytes - 1) bytes ++ last ∷ [])
  pub long : length (take (length bytes - 1) bytes ++ last ∷ []) ≡ length bytes
  pub differs : bytes ≡ take (length bytes - 1) bytes ++ last ∷ [] → ⊥

byte_behind : (bs : List ℕ) (b : ℕ) → AreBytes bs → b < 256 → AreBytes (bs ++ b ∷ [])
byte_behind bs b are lt i = elim (cases_lt i (length bs)) [
  | inl low ↦ let e : get_or (bs ++ b ∷ []) i 0 ≡ get_or bs i 0 = get_or_append_left bs (b ∷ []) 0 i low in omega (arith, e, are i)
  | inr high ↦ elim (cases_eq i (length bs)) [
    | inl e ↦ let at : get_or (bs ++ b ∷ []) i 0 ≡ b = get_or_at bs b [] 0 i (sym e) in omega arith
    | inr ne ↦ let past : get_or (bs ++ b ∷ []) i 0 ≡ 0 = get_or_past (bs ++ b ∷ []) i 0 (omega (arith, length-append bs (b ∷ []))) in omega arith
  ]
]

with_last : (bytes : List ℕ) (b : ℕ) → AreBytes bytes → 0 < length bytes → b < 256 → (get_or bytes (length bytes - 1) 0 ≡ b → ⊥) → IsOtherLast bytes
with_last bytes b are some lt other =
    let front : List ℕ = take (length bytes - 1) bytes in
    let long : length front ≡ length bytes - 1 = length-take-le (length bytes - 1) bytes (omega arith) in
    record {
      last = b;
      are = byte_behind front b (taken_are_bytes (length bytes - 1) bytes are) lt;
      long = omega (arith, length-append front (b ∷ []));
      differs = λ same. other (ap (λ (t : List ℕ). get_or t (length bytes - 1) 0) same ∙ get_or_at front b [] 0 (length bytes - 1) long);
    }

pub other_last : (bytes : List ℕ) → AreBytes bytes → 0 < length bytes → IsOtherLast bytes
other_last bytes are some = elim (cases_eq (get_or bytes (length bytes - 1) 0) 0) [
  | inl e ↦ with_last bytes 1 are some (omega arith) (λ one. omega arith)
  | inr ne ↦ with_last bytes 0 are some (omega arith) ne
]
