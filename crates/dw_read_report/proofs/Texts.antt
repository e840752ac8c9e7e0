-- Texts as they are read: which bytes are in UTF-8, and what stands before a parenthesis.
use Rattle.std.proofs.Common.{◌≡◌, ℕ, Bool, true, false, List, [], ◌∷◌, ◌++◌, Some, None, eqb, refl, ap, inl, inr}
use Rattle.std.proofs.lemmas.Bool.Decides.{eqb_tells}
use Rattle.std.specs.Option.{option_map}
use Rattle.std.specs.Str.{is_utf8, IsUtf8}
use Rattle.std.proofs.lemmas.Str.{IsUtf8-from_is_utf8}
use Rattle.dw_read_report.specs.EventReading.{without_parenthesis}

pub not_utf8 : (text : List ℕ) (test : Bool) → is_utf8 text ≡ test → ¬ (IsUtf8 text) → is_utf8 text ≡ false
not_utf8 text true is none = absurd (none (IsUtf8-from_is_utf8 text is))
not_utf8 text false is none = is

pub parenthesis_goes : (text : List ℕ) → without_parenthesis (text ++ 41 ∷ []) ≡ Some text
parenthesis_goes [] = refl
parenthesis_goes (byte ∷ []) = refl
parenthesis_goes (byte ∷ next ∷ text) = ap (option_map (λ rest. byte ∷ rest)) (parenthesis_goes (next ∷ text))

differs : (a b : ℕ) → (a ≡ b → ⊥) → eqb a b ≡ false
differs a b other = elim (eqb_tells a b) [ inl is ↦ absurd (other is.1) | inr a ↦ a.0 ]

no_parenthesis : (text : List ℕ) (last : ℕ) → eqb last 41 ≡ false → without_parenthesis (text ++ last ∷ []) ≡ None
no_parenthesis [] last other = rw other refl
no_parenthesis (byte ∷ []) last other = rw other refl
no_parenthesis (byte ∷ next ∷ text) last other = ap (option_map (λ rest. byte ∷ rest)) (no_parenthesis (next ∷ text) last other)

pub no_parenthesis_goes : (text : List ℕ) (last : ℕ) → (last ≡ 41 → ⊥) → without_parenthesis (text ++ last ∷ []) ≡ None
no_parenthesis_goes text last other = no_parenthesis text last (differs last 41 other)
