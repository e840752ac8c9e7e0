-- A text goes like a pattern exactly where it is split into the pattern's parts.
use Rattle.std.specs.Prelude.{◌≡◌, ◌≢◌, ℕ, ◌==◌, Bool, true, false, ◌&&◌, List, [], ◌∷◌, if◌then◌else◌}
use Rattle.std.proofs.Common.{refl, sym, ap, subst, ◌∙◌, true≢false}
use Rattle.std.specs.List.{list_any}
use Rattle.std.proofs.lemmas.Bool.{eqb-true, eqb-false, eq-eqb, ne_eqb}
use Rattle.dw_like.specs.Like.{tails, is_any, is_same, passes_then, goes_like, IsLike, nothing, many, one, same}
use Rattle.dw_like.proofs.Tails.{Cut, Cut-tails, tail_passes}

-- the test of a pattern's first character and its rest, by whether the first is % and whether it is _
abbrev first_goes : Bool → Bool → ℕ → (List ℕ → Bool) → List ℕ → Bool
first_goes is_many is_one wanted rest text =
    if is_many then list_any rest (tails text)
    else if is_one then passes_then is_any rest text
    else passes_then (is_same wanted) rest text

-- what goes like a pattern's rest is split into its parts
abbrev Splits : List ℕ → Type 0
Splits pattern = (text : List ℕ) → goes_like pattern text ≡ true → IsLike text pattern

split_many : (pattern text : List ℕ) → Splits pattern → Cut (goes_like pattern) text → IsLike text (37 ∷ pattern)
split_many pattern text rest cut =
    subst (λ t. IsLike t (37 ∷ pattern)) cut.is (many cut.part (rest cut.tail cut.passes))

split_same : (character wanted : ℕ) (pattern text : List ℕ) (passes : Bool) → (character == wanted) ≡ passes
    → wanted ≢ 37 → wanted ≢ 95 → Splits pattern → (passes && goes_like pattern text) ≡ true
    → IsLike (character ∷ text) (wanted ∷ pattern)
split_same character wanted pattern text true e not_many not_one rest h =
    subst (λ c. IsLike (c ∷ text) (wanted ∷ pattern)) (sym (eqb-true character wanted e))
    (same wanted not_many not_one (rest text h))
split_same character wanted pattern text false e not_many not_one rest h = absurd (true≢false (sym h))

split_first : (wanted : ℕ) (pattern text : List ℕ) (is_many is_one : Bool) → (wanted == 37) ≡ is_many
    → (wanted == 95) ≡ is_one → Splits pattern → first_goes is_many is_one wanted (goes_like pattern) text ≡ true
    → IsLike text (wanted ∷ pattern)
split_first wanted pattern text true is_one e f rest h =
    subst (λ w. IsLike text (w ∷ pattern)) (sym (eqb-true wanted 37 e))
    (split_many pattern text rest (Cut-tails (goes_like pattern) text h))
split_first wanted pattern [] false true e f rest h = absurd (true≢false (sym h))
split_first wanted pattern (character ∷ text) false true e f rest h =
    subst (λ w. IsLike (character ∷ text) (w ∷ pattern)) (sym (eqb-true wanted 95 f)) (one character (rest text h))
split_first wanted pattern [] false false e f rest h = absurd (true≢false (sym h))
split_first wanted pattern (character ∷ text) false false e f rest h =
    split_same character wanted pattern text (character == wanted) refl (eqb-false wanted 37 e) (eqb-false wanted 95 f)
    rest h

pub IsLike-goes_like : (pattern text : List ℕ) → goes_like pattern text ≡ true → IsLike text pattern
IsLike-goes_like [] [] h = nothing
IsLike-goes_like [] (character ∷ text) h = absurd (true≢false (sym h))
IsLike-goes_like (wanted ∷ pattern) text h =
    split_first wanted pattern text (wanted == 37) (wanted == 95) refl refl (IsLike-goes_like pattern) h

goes_same : (character : ℕ) (rest : List ℕ → Bool) (text : List ℕ) → (character == 37) ≡ false
    → (character == 95) ≡ false → rest text ≡ true
    → first_goes (character == 37) (character == 95) character rest (character ∷ text) ≡ true
goes_same character rest text e f h =
    ap (λ b. first_goes b (character == 95) character rest (character ∷ text)) e
    ∙ ap (λ b. first_goes false b character rest (character ∷ text)) f
    ∙ ap (λ b. b && rest text) (eq-eqb character character refl) ∙ h

pub goes_like-IsLike : (text pattern : List ℕ) → IsLike text pattern → goes_like pattern text ≡ true
goes_like-IsLike [] [] nothing = refl
goes_like-IsLike _ _ (many part {text = text} {pattern = pattern} h) =
    tail_passes (goes_like pattern) part text (goes_like-IsLike text pattern h)
goes_like-IsLike _ _ (one character {text = text} {pattern = pattern} h) = goes_like-IsLike text pattern h
goes_like-IsLike _ _ (same character {text = text} {pattern = pattern} not_many not_one h) =
    goes_same character (goes_like pattern) text (ne_eqb character 37 not_many) (ne_eqb character 95 not_one)
    (goes_like-IsLike text pattern h)
