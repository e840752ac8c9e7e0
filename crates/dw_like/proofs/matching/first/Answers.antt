use Rattle.std.proofs.Common.{◌≡◌, ℕ, List, [], ◌∷◌, ◌++◌, length, sym, ap, ◌∙◌}
use Rattle.std.proofs.lemmas.List.{nil_from_length}
use Rattle.std.proofs.lemmas.Str.{chars-nil, chars_past_char}
use Rattle.std.specs.Char.{encode_utf8}
use Rattle.std.specs.Str.{chars, IsUtf8}
use Rattle.dw_like.proofs.matching.first.Goals as goal

begins : (text before after rest : List ℕ) (character : ℕ) → IsUtf8 text → before ≡ text
    → before ≡ encode_utf8 character ++ after → rest ≡ after → chars text ≡ character ∷ chars rest
begins text before after rest character u e f g =
    chars_past_char text after character u (sym e ∙ f) ∙ ap (λ r. character ∷ chars r) (sym g)

is_empty : (text before : List ℕ) → before ≡ text → length before ≡ 0 → chars text ≡ []
is_empty text before e h = ap chars (sym e ∙ nil_from_length before h) ∙ chars-nil

pub returns-in-Some : goal.returns-in-Some
returns-in-Some c =
    begins _ _ _ _ c.in-Some.character c.utf8.text c.chars-rest.ensures.rest c.in-Some.ensures.steps.0 c.as_str.ensures

pub returns-in-None : goal.returns-in-None
returns-in-None c = is_empty _ _ c.chars-rest.ensures.rest c.in-None.ensures.steps.0.0
