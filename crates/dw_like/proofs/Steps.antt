-- Steps of a matcher, which goes through a text and a pattern side by side.
use Rattle.std.specs.Prelude.{◌≡◌, ◌≢◌, ℕ, ◌==◌, ◌≤◌, ◌<◌, Bool, true, false, ◌||◌, ◌&&◌, if◌then◌else◌}
use Rattle.std.specs.Prelude.{List, [], ◌∷◌, length}
use Rattle.std.proofs.Common.{refl, sym, ap, subst, ◌∙◌, ◌⊎◌, inl, inr, true≢false, arith}
use Rattle.std.specs.List.{list_any}
use Rattle.std.proofs.Math.Bool.{or-false}
use Rattle.std.proofs.lemmas.Bool.{eq-eqb, ne_eqb}
use Rattle.dw_like.specs.Like.{tails, is_any, is_same, passes_then, goes_like}
use Rattle.dw_like.proofs.Tails.{whole_passes, left_true, right_true}

-- What is said of a text and a pattern, and of what is left of both. Where some tail of the text is like the pattern,
-- some tail of what is left of the one is like what is left of the other.
pub record IsStep (text pattern text_left pattern_left : List ℕ) : Type 0 where
  pub same : goes_like pattern text ≡ goes_like pattern_left text_left
  pub kept : goes_like (37 ∷ pattern) text ≡ true → goes_like (37 ∷ pattern_left) text_left ≡ true
  pub text_within : length text_left ≤ length text
  pub pattern_within : length pattern_left ≤ length pattern

-- a character of a pattern that is not %, and whether it takes a character of a text
abbrev takes : ℕ → ℕ → Bool
takes wanted character = (wanted == 95) || (character == wanted)

same_bools : (a b : Bool) → (a ≡ true → b ≡ true) → (b ≡ true → a ≡ true) → a ≡ b
same_bools true b f g = sym (f refl)
same_bools false true f g = g refl
same_bools false false f g = refl

or_cases : (a b : Bool) {C : Type 0} → (a ≡ true → C) → (b ≡ true → C) → (a || b) ≡ true → C
or_cases true b f g h = f refl
or_cases false b f g h = g h

-- the test of a pattern's first character and its rest, by the two tests of the character
abbrev goes_by : Bool → Bool → ℕ → List ℕ → List ℕ → Bool
goes_by is_many is_one wanted pattern text =
    if is_many then list_any (goes_like pattern) (tails text)
    else if is_one then passes_then is_any (goes_like pattern) text
    else passes_then (is_same wanted) (goes_like pattern) text

one_or_same : (is_one : Bool) (wanted character : ℕ) (pattern text : List ℕ)
    → goes_by false is_one wanted pattern (character ∷ text)
    ≡ ((is_one || (character == wanted)) && goes_like pattern text)
one_or_same true wanted character pattern text = refl
one_or_same false wanted character pattern text = refl

-- a character that is not % takes one of the text
goes_one : (wanted character : ℕ) (pattern text : List ℕ) → wanted ≢ 37
    → goes_like (wanted ∷ pattern) (character ∷ text) ≡ (takes wanted character && goes_like pattern text)
goes_one wanted character pattern text h =
    ap (λ b. goes_by b (wanted == 95) wanted pattern (character ∷ text)) (ne_eqb wanted 37 h)
    ∙ one_or_same (wanted == 95) wanted character pattern text

none_left : (is_one : Bool) (wanted : ℕ) (pattern : List ℕ) → goes_by false is_one wanted pattern [] ≡ false
none_left true wanted pattern = refl
none_left false wanted pattern = refl

-- and there must be one
goes_none : (wanted : ℕ) (pattern : List ℕ) → wanted ≢ 37 → goes_like (wanted ∷ pattern) [] ≡ false
goes_none wanted pattern h =
    ap (λ b. goes_by b (wanted == 95) wanted pattern []) (ne_eqb wanted 37 h)
    ∙ none_left (wanted == 95) wanted pattern

and_left : (a b : Bool) → (a && b) ≡ true → b ≡ true
and_left true b h = h
and_left false b h = absurd (true≢false (sym h))

-- % twice is % once
many_once : (pattern text : List ℕ) → goes_like (37 ∷ 37 ∷ pattern) text ≡ true → goes_like (37 ∷ pattern) text ≡ true
many_once pattern [] h = sym (or-false (goes_like (37 ∷ pattern) [])) ∙ h
many_once pattern (character ∷ text) h =
    or_cases (goes_like (37 ∷ pattern) (character ∷ text)) (goes_like (37 ∷ 37 ∷ pattern) text)
    (λ here. here)
    (λ later. right_true (goes_like pattern (character ∷ text)) (goes_like (37 ∷ pattern) text)
    (many_once pattern text later))
    h

-- what is like a pattern leaves what is like that which follows the pattern's first character
rest_like : (wanted character : ℕ) (pattern text : List ℕ) → wanted ≢ 37
    → goes_like (wanted ∷ pattern) (character ∷ text) ≡ true → goes_like (37 ∷ pattern) text ≡ true
rest_like wanted character pattern text h like =
    whole_passes (goes_like pattern) text
    (and_left (takes wanted character) (goes_like pattern text) (sym (goes_one wanted character pattern text h) ∙ like))

-- so does a tail that is like it
tail_like : (wanted : ℕ) (pattern text : List ℕ) → wanted ≢ 37
    → goes_like (37 ∷ wanted ∷ pattern) text ≡ true → goes_like (37 ∷ pattern) text ≡ true
tail_like wanted pattern [] h like =
    absurd (true≢false (sym like ∙ ap (λ b. b || false) (goes_none wanted pattern h)))
tail_like wanted pattern (character ∷ text) h like =
    right_true (goes_like pattern (character ∷ text)) (goes_like (37 ∷ pattern) text)
    (or_cases (goes_like (wanted ∷ pattern) (character ∷ text)) (goes_like (37 ∷ wanted ∷ pattern) text)
    (rest_like wanted character pattern text h) (tail_like wanted pattern text h) like)

-- and it leaves so much of the text after its first character
tail_left : (wanted character : ℕ) (pattern text : List ℕ) → wanted ≢ 37
    → goes_like (37 ∷ wanted ∷ pattern) (character ∷ text) ≡ true → goes_like (37 ∷ pattern) text ≡ true
tail_left wanted character pattern text h like =
    or_cases (goes_like (wanted ∷ pattern) (character ∷ text)) (goes_like (37 ∷ wanted ∷ pattern) text)
    (rest_like wanted character pattern text h) (tail_like wanted pattern text h) like

takes_true : (wanted character : ℕ) → (wanted ≡ 95) ⊎ (character ≡ wanted) → takes wanted character ≡ true
takes_true wanted character (inl h) = left_true (wanted == 95) (character == wanted) (eq-eqb wanted 95 h)
takes_true wanted character (inr h) = right_true (wanted == 95) (character == wanted) (eq-eqb character wanted h)

-- one more step, over a character that the pattern's takes
step_over : (text pattern rest after : List ℕ) (character wanted : ℕ)
    → IsStep text pattern (character ∷ rest) (wanted ∷ after) → wanted ≢ 37
    → (wanted ≡ 95) ⊎ (character ≡ wanted) → IsStep text pattern rest after
step_over text pattern rest after character wanted step h t = record {
  same =
      step.same ∙ goes_one wanted character after rest h
      ∙ ap (λ b. b && goes_like after rest) (takes_true wanted character t);
  kept = λ like. tail_left wanted character after rest h (step.kept like);
  text_within = let e = step.text_within in omega arith;
  pattern_within = let e = step.pattern_within in omega arith;
}

pub IsStep-over : (text pattern text_left pattern_left rest after : List ℕ) (character wanted : ℕ)
    → IsStep text pattern text_left pattern_left → text_left ≡ character ∷ rest → pattern_left ≡ wanted ∷ after
    → wanted ≢ 37 → (wanted ≡ 95) ⊎ (character ≡ wanted) → IsStep text pattern rest after
IsStep-over text pattern text_left pattern_left rest after character wanted step e f h t =
    let of_text = subst (λ left. IsStep text pattern left pattern_left) e step in
    let of_both = subst (λ left. IsStep text pattern (character ∷ rest) left) f of_text in
    step_over text pattern rest after character wanted of_both h t

-- a % comes
pub like-at_many : (text pattern text_left pattern_left after : List ℕ) → IsStep text pattern text_left pattern_left
    → pattern_left ≡ 37 ∷ after → goes_like pattern text ≡ goes_like (37 ∷ after) text_left
like-at_many text pattern text_left pattern_left after step e = step.same ∙ ap (λ p. goes_like p text_left) e

pub tails-at_many : (text pattern text_left pattern_left after : List ℕ) → IsStep text pattern text_left pattern_left
    → pattern_left ≡ 37 ∷ after → goes_like (37 ∷ pattern) text ≡ goes_like (37 ∷ after) text_left
tails-at_many text pattern text_left pattern_left after step e =
    same_bools (goes_like (37 ∷ pattern) text) (goes_like (37 ∷ after) text_left)
    (λ h. many_once after text_left (sym (ap (λ p. goes_like (37 ∷ p) text_left) e) ∙ step.kept h))
    (λ h. whole_passes (goes_like pattern) text
    (like-at_many text pattern text_left pattern_left after step e ∙ h))

-- what follows a character of the pattern is shorter than the pattern
pub length-after : (text pattern text_left pattern_left after : List ℕ) (wanted : ℕ)
    → IsStep text pattern text_left pattern_left → pattern_left ≡ wanted ∷ after → length after < length pattern
length-after text pattern text_left pattern_left after wanted step e =
    let within = step.pattern_within in
    let more : length pattern_left ≡ length (wanted ∷ after) = ap length e in
    omega arith
