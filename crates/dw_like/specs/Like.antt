-- LIKE of the SQL standard, without an escape character: in a pattern % stands for any characters, also for none, _ for
-- one, and every other character for itself.
use Rattle.std.specs.Prelude.{ℕ, ◌==◌, ◌≢◌, Bool, true, false, ◌&&◌, List, [], ◌∷◌, ◌++◌, if◌then◌else◌}
use Rattle.std.specs.List.{list_any}
use Rattle.std.specs.Str.{chars}

-- What it means: the text is one part after another, one for each character of the pattern. At % the part is any text,
-- at _ it is one character, and at every other character it is this character.
pub data IsLike : (text pattern : List ℕ) → Type 0 where
  nothing : IsLike [] []
  many : (part : List ℕ) {text pattern : List ℕ} → IsLike text pattern → IsLike (part ++ text) (37 ∷ pattern)
  one : (character : ℕ) {text pattern : List ℕ} → IsLike text pattern → IsLike (character ∷ text) (95 ∷ pattern)
  same : (character : ℕ) {text pattern : List ℕ} → character ≢ 37 → character ≢ 95 → IsLike text pattern
      → IsLike (character ∷ text) (character ∷ pattern)

-- a text, and what is left of it after each of its characters
abbrev pub tails : List ℕ → List (List ℕ)
tails [] = [] ∷ []
tails (character ∷ text) = (character ∷ text) ∷ tails text

abbrev pub is_empty : List ℕ → Bool
is_empty [] = true
is_empty (character ∷ text) = false

-- whether a text begins with a character that passes and what is left of it passes too
abbrev pub passes_then : (ℕ → Bool) → (List ℕ → Bool) → List ℕ → Bool
passes_then first rest [] = false
passes_then first rest (character ∷ text) = first character && rest text

abbrev pub is_any : ℕ → Bool
is_any character = true

abbrev pub is_same : ℕ → ℕ → Bool
is_same wanted character = character == wanted

-- whether the characters of a text are like those of a pattern: at % some tail of the text is like the rest of it
abbrev pub goes_like : (pattern text : List ℕ) → Bool
goes_like [] text = is_empty text
goes_like (wanted ∷ pattern) text =
    if wanted == 37 then list_any (goes_like pattern) (tails text)
    else if wanted == 95 then passes_then is_any (goes_like pattern) text
    else passes_then (is_same wanted) (goes_like pattern) text

-- Whether a text is like a pattern, both in UTF-8: "stock" is like "s%_k", and "é" is like "_".
abbrev pub is_like : (text pattern : List ℕ) → Bool
is_like text pattern = goes_like (chars pattern) (chars text)
