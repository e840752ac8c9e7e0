-- One more of a list that a loop makes.
use Rattle.std.proofs.Common.{◌≡◌, ℕ, ◌+◌, List, [], ◌∷◌, ◌++◌, sym, ap, ◌∙◌, arith}
use Rattle.std.proofs.lemmas.List.{map_more, take_all}
use Rattle.std.proofs.lemmas.List.FromFn.{map-range_with_len_more}
use Rattle.dw_value.specs.declared.values.Value.{Value}
use Rattle.dw_value.specs.declared.values.Row.{Row}
use Rattle.dw_slice.specs.Grid.{row_at, first_rows}

pub ruleset one_more = (map_more, take_all, map-range_with_len_more)

pub row_more : (columns : List (List Value)) (place : ℕ) (rows new : List Row) (row : Row) → new ≡ rows ++ row ∷ [] → rows ≡ first_rows columns place → row ≡ row_at columns place → new ≡ first_rows columns (place + 1)
row_more columns place rows new row pushed were is =
    pushed ∙ ap (λ (rs : List Row). rs ++ row ∷ []) were ∙ ap (λ (r : Row). first_rows columns place ++ r ∷ []) is
    ∙ sym (map-range_with_len_more (row_at columns) 0 place place (omega arith))
