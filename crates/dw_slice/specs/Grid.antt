-- The columns of rows, and the rows of columns.
use Rattle.std.specs.Prelude.{ℕ, List, map, slice_index_or}
use Rattle.std.specs.List.{range_with_len}
use Rattle.dw_value.specs.declared.values.Value.{Value}
use Rattle.dw_value.specs.declared.values.Value.TheVariants.{Null}
use Rattle.dw_value.specs.declared.values.Row.{Row}

-- the values that rows have at a place, from 0
abbrev pub column_of : List Row → ℕ → List Value
column_of rows place = map (λ (row : Row). slice_index_or row.values place Null) rows

-- the values that columns have at a place
abbrev pub values_at : List (List Value) → ℕ → List Value
values_at columns place = map (λ (column : List Value). slice_index_or column place Null) columns

-- as a row
abbrev pub row_at : List (List Value) → ℕ → Row
row_at columns place = record { values = values_at columns place }

-- the rows at the first `count` places
abbrev pub first_rows : List (List Value) → ℕ → List Row
first_rows columns count = map (row_at columns) (range_with_len 0 count)
