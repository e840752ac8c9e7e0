-- The loop over the columns of a row that is made, one turn at a time.
use Rattle.std.proofs.Common.{◌≡◌, ℕ, ◌+◌, ◌<◌, List, [], ◌∷◌, ◌++◌, length, get_or, drop, Option, Some, None, option_map, refl, sym, ap, ◌∙◌}
use Rattle.std.proofs.lemmas.List.{at_drop_more, append_assoc}
use Rattle.dw_value.specs.declared.values.Value.{Value}
use Rattle.dw_model.specs.declared.statements.Literal.{Literal}
use Rattle.dw_model.specs.declared.tables.Column.{Column}
use Rattle.dw_model.specs.Inserting.{given_to, value_made, values_made, with_value}

-- a list in front of what is left, if all of that fits
abbrev pub ahead : {A : Type 0} → List A → Option (List A) → Option (List A)
ahead front rest = option_map (λ items. front ++ items) rest

ahead_value : (front : List Value) (value : Value) (o : Option (List Value)) → ahead front (with_value (Some value) o) ≡ ahead (front ++ value ∷ []) o
ahead_value front value None = refl
ahead_value front value (Some values) = ap Some (sym (append_assoc front (value ∷ []) values))

-- the column at a place
module _ (names : List (List ℕ)) (tuple : List Literal) (columns : List Column) (i : ℕ) (column : Column) (lc : i < length columns) (ic : column ≡ get_or columns i column) where
  values_here : (made : Option Value) → made ≡ value_made column (given_to names tuple column.name) → values_made names tuple (drop i columns) ≡ with_value made (values_made names tuple (drop (i + 1) columns))
  values_here made fits =
      at_drop_more (values_made names tuple) columns i column lc
      ∙ ap (λ (x : Column). with_value (value_made x (given_to names tuple x.name)) (values_made names tuple (drop (i + 1) columns))) (sym ic)
      ∙ ap (λ r. with_value r (values_made names tuple (drop (i + 1) columns))) (sym fits)

  -- a value that fits joins those in front
  pub values_turn : (front : List Value) (value : Value) → Some value ≡ value_made column (given_to names tuple column.name)
      → ahead front (values_made names tuple (drop i columns)) ≡ ahead (front ++ value ∷ []) (values_made names tuple (drop (i + 1) columns))
  values_turn front value fits =
      ap (ahead front) (values_here (Some value) fits) ∙ ahead_value front value (values_made names tuple (drop (i + 1) columns))

  -- a literal that doesn't fit stops the row
  pub values_stop : (front : List Value) → None ≡ value_made column (given_to names tuple column.name) → ahead front (values_made names tuple (drop i columns)) ≡ None
  values_stop front fits = ap (ahead front) (values_here None fits)
