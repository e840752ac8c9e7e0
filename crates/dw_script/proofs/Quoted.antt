-- A text in a script, whatever it holds.
use Rattle.std.proofs.Common.{◌≡◌, ℕ, ◌+◌, Bool, true, false, not, eqb, List, [], ◌∷◌, ◌++◌, refl, sym, ap, ◌∙◌}
use Rattle.std.specs.List.{list_all}
use Rattle.std.proofs.lemmas.Bool.{and_parts}
use Rattle.dw_script.specs.Characters.{quote, name_quote}
use Rattle.dw_script.specs.declared.place.Place.{Place}
use Rattle.dw_script.specs.declared.place.Place.TheVariants.{Outside, InText, AfterQuote, InName}
use Rattle.dw_script.specs.Place.{after, place_from, is_outside, ends_outside}
use Rattle.dw_script.specs.Statements.{parts_from, statements_of, statements}
use Rattle.dw_script.specs.Texts.{doubled, quoted}
use Rattle.dw_script.proofs.Parts.{onto_front, parts_from-goes_on}

-- the rest of a text that began at n
rest_of : List ℕ → List ℕ
rest_of text = doubled text ++ quote ∷ []

-- a byte that is no quote
rest_of-plain : (byte : ℕ) (text : List ℕ) → eqb byte quote ≡ false → rest_of (byte ∷ text) ≡ byte ∷ rest_of text
unfolding rest_of
rest_of-plain byte text h = rw h refl

after-plain : (n at byte : ℕ) → eqb byte quote ≡ false → after (InText n) at byte ≡ InText n
after-plain n at byte h = rw h refl

parts_from-text_by : (n at byte : ℕ) (text : List ℕ) (is_quote : Bool) → eqb byte quote ≡ is_quote
    → ((k : ℕ) → parts_from (InText n) k (rest_of text) ≡ rest_of text ∷ [])
    → parts_from (InText n) at (rest_of (byte ∷ text)) ≡ rest_of (byte ∷ text) ∷ []
unfolding rest_of
parts_from-text_by n at byte text true h rest =
    rw h (parts_from-goes_on (InText n) at quote (quote ∷ rest_of text) refl
    ∙ ap (onto_front (quote ∷ [])) (parts_from-goes_on (AfterQuote n) (at + 1) quote (rest_of text) refl ∙ ap (onto_front (quote ∷ [])) (rest (at + 1 + 1))))
parts_from-text_by n at byte text false h rest =
    ap (λ (left : List ℕ). parts_from (InText n) at left) (rest_of-plain byte text h)
    ∙ parts_from-goes_on (InText n) at byte (rest_of text) refl
    ∙ ap (λ (next : Place). onto_front (byte ∷ []) (parts_from next (at + 1) (rest_of text))) (after-plain n at byte h)
    ∙ ap (onto_front (byte ∷ [])) (rest (at + 1))
    ∙ ap (λ (left : List ℕ). left ∷ []) (sym (rest_of-plain byte text h))

parts_from-text : (n at : ℕ) (text : List ℕ) → parts_from (InText n) at (rest_of text) ≡ rest_of text ∷ []
unfolding rest_of
parts_from-text n at [] = refl
parts_from-text n at (byte ∷ text) = parts_from-text_by n at byte text (eqb byte quote) refl (λ k. parts_from-text n k text)

pub statements-quoted : (text : List ℕ) → statements (quoted text) ≡ quoted text ∷ []
unfolding statements rest_of
statements-quoted text =
    ap statements_of (parts_from-goes_on Outside 0 quote (rest_of text) refl ∙ ap (onto_front (quote ∷ [])) (parts_from-text 0 1 text))

place_from-text_by : (n at byte : ℕ) (text : List ℕ) (is_quote : Bool) → eqb byte quote ≡ is_quote
    → ((k : ℕ) → place_from (InText n) k (rest_of text) ≡ AfterQuote n)
    → place_from (InText n) at (rest_of (byte ∷ text)) ≡ AfterQuote n
unfolding rest_of
place_from-text_by n at byte text true h rest = rw h (rest (at + 1 + 1))
place_from-text_by n at byte text false h rest =
    ap (λ (left : List ℕ). place_from (InText n) at left) (rest_of-plain byte text h)
    ∙ ap (λ (next : Place). place_from next (at + 1) (rest_of text)) (after-plain n at byte h)
    ∙ rest (at + 1)

place_from-text : (n at : ℕ) (text : List ℕ) → place_from (InText n) at (rest_of text) ≡ AfterQuote n
unfolding rest_of
place_from-text n at [] = refl
place_from-text n at (byte ∷ text) = place_from-text_by n at byte text (eqb byte quote) refl (λ k. place_from-text n k text)

pub ends_outside-quoted : (text : List ℕ) → ends_outside (quoted text) ≡ true
unfolding ends_outside rest_of
ends_outside-quoted text = ap is_outside (place_from-text 0 1 text)

-- the rest of a quoted name that began at n
name_rest : List ℕ → List ℕ
name_rest name = name ++ name_quote ∷ []

abbrev IsInside : List ℕ → Type 0
IsInside name = list_all (λ byte. not (eqb byte name_quote)) name ≡ true

not_false : (test : Bool) → not test ≡ true → test ≡ false
not_false true h = cc
not_false false h = refl

-- the first byte of a quoted name, and what is after it
inside_parts : (byte : ℕ) (name : List ℕ) → IsInside (byte ∷ name) → (eqb byte name_quote ≡ false) × IsInside name
inside_parts byte name h = let parts = and_parts (not (eqb byte name_quote)) (list_all (λ b. not (eqb b name_quote)) name) h in (not_false (eqb byte name_quote) parts.0, parts.1)

after-named : (n at byte : ℕ) → eqb byte name_quote ≡ false → after (InName n) at byte ≡ InName n
after-named n at byte h = rw h refl

parts_from-name : (n at : ℕ) (name : List ℕ) → IsInside name → parts_from (InName n) at (name_rest name) ≡ name_rest name ∷ []
unfolding name_rest
parts_from-name n at [] inside = refl
parts_from-name n at (byte ∷ name) inside =
    let parts = inside_parts byte name inside in
    parts_from-goes_on (InName n) at byte (name_rest name) refl
    ∙ ap (λ (next : Place). onto_front (byte ∷ []) (parts_from next (at + 1) (name_rest name))) (after-named n at byte parts.0)
    ∙ ap (onto_front (byte ∷ [])) (parts_from-name n (at + 1) name parts.1)

pub statements-named : (name : List ℕ) → IsInside name → statements (name_quote ∷ name ++ name_quote ∷ []) ≡ (name_quote ∷ name ++ name_quote ∷ []) ∷ []
unfolding statements name_rest
statements-named name inside =
    ap statements_of (parts_from-goes_on Outside 0 name_quote (name_rest name) refl ∙ ap (onto_front (name_quote ∷ [])) (parts_from-name 0 1 name inside))

place_from-name : (n at : ℕ) (name : List ℕ) → IsInside name → place_from (InName n) at (name_rest name) ≡ Outside
unfolding name_rest
place_from-name n at [] inside = refl
place_from-name n at (byte ∷ name) inside =
    let parts = inside_parts byte name inside in
    ap (λ (next : Place). place_from next (at + 1) (name_rest name)) (after-named n at byte parts.0) ∙ place_from-name n (at + 1) name parts.1

pub ends_outside-named : (name : List ℕ) → IsInside name → ends_outside (name_quote ∷ name ++ name_quote ∷ []) ≡ true
unfolding ends_outside name_rest
ends_outside-named name inside = ap is_outside (place_from-name 0 1 name inside)
