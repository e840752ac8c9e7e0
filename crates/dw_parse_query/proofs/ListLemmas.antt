-- Reading on after the first of several.
use Rattle.std.proofs.Common.{◌≡◌, ℕ, zero, suc, ◌+◌, ◌<◌, ◌≤◌, true, false, Option, Some, None, List, [], ◌∷◌, ◌++◌, length, refl, sym, ◌∙◌, ap, append_assoc, arith}
use Rattle.std.specs.Option.{option_map}
use Rattle.dw_lex.specs.declared.signs.Sign.TheVariants as mark
use Rattle.dw_lex.specs.declared.token.Token.{Token}
use Rattle.dw_parse_words.specs.Words.{is_sign_at}
use Rattle.dw_parse_words.specs.PieceReading.{listed_within, listed_at}

-- those so far, and those after them
abbrev pub with_front : {A : Type 0} → List A → Option (List A × ℕ) → Option (List A × ℕ)
with_front front None = None
with_front front (Some rest) = Some (front ++ rest.0, rest.1)

with_front-none : {A : Type 0} (read : Option (List A × ℕ)) → with_front [] read ≡ read
with_front-none None = refl
with_front-none (Some rest) = refl

with_front-first : {A : Type 0} (front : List A) (a : A) (read : Option (List A × ℕ)) → with_front front (option_map (λ rest. (a ∷ rest.0, rest.1)) read) ≡ with_front (front ++ a ∷ []) read
with_front-first front a None = refl
with_front-first front a (Some rest) = ap (λ items. Some (items, rest.1)) (sym (append_assoc front (a ∷ []) rest.0))

-- those so far, and those that are read from this place on, are all
abbrev pub Reads : {A : Type 0} → (ℕ → Option (A × ℕ)) → List Token → List A → ℕ → Option (List A × ℕ) → Type 0
Reads x tokens front at all =
    (limit : ℕ) × (length tokens < limit + at) × (with_front front (listed_within x tokens limit at) ≡ all)

pub reads_all : {A : Type 0} (x : ℕ → Option (A × ℕ)) (tokens : List Token) (at : ℕ) → Reads x tokens [] at (listed_at x tokens at)
reads_all x tokens at = (suc (length tokens), omega arith, with_front-none (listed_at x tokens at))

module _ {A : Type 0} (x : ℕ → Option (A × ℕ)) (tokens : List Token) (front : List A) (at : ℕ) (all : Option (List A × ℕ)) (within : at ≤ length tokens) where
  more : (a : A) (j limit : ℕ) → x at ≡ Some (a, j) → is_sign_at mark.Comma tokens j ≡ true → at < j + 1 → length tokens < limit + at
      → with_front front (listed_within x tokens limit at) ≡ all → Reads x tokens (front ++ a ∷ []) (j + 1) all
  more a j zero found comma after big so_far = absurd (omega arith)
  more a j (suc limit) found comma after big so_far =
      (limit, omega arith, sym (with_front-first front a (listed_within x tokens limit (j + 1))) ∙ rw (found, comma) at so_far)

  pub reads_more : (a : A) (j : ℕ) → x at ≡ Some (a, j) → is_sign_at mark.Comma tokens j ≡ true → at < j + 1
      → Reads x tokens front at all → Reads x tokens (front ++ a ∷ []) (j + 1) all
  reads_more a j found comma after so_far = more a j so_far.0 found comma after so_far.1 so_far.2

  last : (a : A) (j limit : ℕ) → x at ≡ Some (a, j) → is_sign_at mark.Comma tokens j ≡ false → length tokens < limit + at
      → with_front front (listed_within x tokens limit at) ≡ all → Some (front ++ a ∷ [], j) ≡ all
  last a j zero found comma big so_far = absurd (omega arith)
  last a j (suc limit) found comma big so_far = rw (found, comma) at so_far

  pub reads_last : (a : A) (j : ℕ) → x at ≡ Some (a, j) → is_sign_at mark.Comma tokens j ≡ false
      → Reads x tokens front at all → Some (front ++ a ∷ [], j) ≡ all
  reads_last a j found comma so_far = last a j so_far.0 found comma so_far.1 so_far.2
