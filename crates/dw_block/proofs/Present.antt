-- The items of the values that aren't NULL, value by value.
use Rattle.std.proofs.Common.{◌≡◌, ℕ, ◌+◌, ◌<◌, ◌≤◌, Option, None, Some, List, [], ◌∷◌, ◌++◌, length, take, get_or, refl, sym, ap, subst, ◌∙◌, arith, append-nil, length-append}
use Rattle.std.specs.Prelude.{All}
use Rattle.std.specs.List.{filter_map, cons_option}
use Rattle.std.specs.Option.{option_to_list}
use Rattle.std.proofs.lemmas.List.{take_more}
use Rattle.std.proofs.lemmas.List.Elements.{filter_map-append, All-push}
use Rattle.dw_value.specs.declared.values.Value.{Value}
use Rattle.dw_value.specs.declared.values.Value.TheVariants.{Number, Words, Day, Truth, Null}
use Rattle.dw_block.specs.Blocks.{text_in}

module _ {Y : Type 0} (f : Value → Option Y) where
  one : (v : Value) (o : Option Y) → f v ≡ o → filter_map f (v ∷ []) ≡ option_to_list o
  one v None e = ap (λ o. cons_option o []) e
  one v (Some y) e = ap (λ o. cons_option o []) e

  -- one more value adds its item
  more : (values : List Value) (i : ℕ) (v : Value) (o : Option Y) → i < length values → v ≡ get_or values i v → f v ≡ o → filter_map f (take (i + 1) values) ≡ filter_map f (take i values) ++ option_to_list o
  more values i v o lt is e =
      ap (filter_map f) (take_more values i v lt) ∙ filter_map-append f (take i values) (get_or values i v ∷ [])
      ∙ ap (λ (x : Value). filter_map f (take i values) ++ filter_map f (x ∷ [])) (sym is)
      ∙ ap (λ (l : List Y). filter_map f (take i values) ++ l) (one v o e)

  pub some_step : (P : Y → Type 0) (values : List Value) (i : ℕ) (v : Value) (y : Y) (old new : List Y) → i < length values → v ≡ get_or values i v → f v ≡ Some y → P y
      → old ≡ filter_map f (take i values) → All P old → length old ≤ i → new ≡ old ++ y ∷ [] → (new ≡ filter_map f (take (i + 1) values)) × All P new × (length new ≤ i + 1)
  some_step P values i v y old new lt is e fits are all few pushed = (
    pushed ∙ ap (λ (l : List Y). l ++ y ∷ []) are ∙ sym (more values i v (Some y) lt is e),
    subst (All P) (sym pushed) (All-push P old y all fits),
    omega (arith, ap length pushed, length-append old (y ∷ [])),
  )

  pub none_step : (values : List Value) (i : ℕ) (v : Value) (old : List Y) → i < length values → v ≡ get_or values i v → f v ≡ None → old ≡ filter_map f (take i values) → old ≡ filter_map f (take (i + 1) values)
  none_step values i v old lt is e are = are ∙ sym (more values i v None lt is e ∙ append-nil (filter_map f (take i values)))

-- a value that is no text
pub no_text : (v : Value) → ((text : List ℕ) → v ≡ Words text → ⊥) → text_in v ≡ None
no_text (Number n) not = refl
no_text (Words text) not = absurd (not text refl)
no_text (Day n) not = refl
no_text (Truth b) not = refl
no_text Null not = refl
