-- Columns by their places, so that a name is looked up once and not in each row.
use Rattle.std.specs.Prelude.{ℕ, suc, Bool, true, List, [], ◌∷◌, map, Option, Some, None, option_map, unwrap_or, position, slice_get, if◌then◌else◌}
use Rattle.std.specs.List.{list_any}
use Rattle.dw_value.specs.declared.values.Value.{Value}
use Rattle.dw_value.specs.declared.values.Value.TheVariants.{Null}
use Rattle.dw_value.specs.declared.values.Row.{Row}
use Rattle.dw_value.specs.Kinds.{scale_of}
use Rattle.dw_value.specs.Values.{truth_of}
use Rattle.dw_model.specs.declared.statements.Literal.{Literal}
use Rattle.dw_model.specs.declared.statements.Test.{Test}
use Rattle.dw_model.specs.declared.tables.Column.{Column}
use Rattle.dw_model.specs.Binding.{same_name}
use Rattle.dw_model.specs.Inserting.{column_takes, given_to, is_null, names_given}
use Rattle.dw_model.specs.Literals.{compared_with, scale_of_literal}
use Rattle.dw_model.specs.Selection.{is_true, kind_of}
use Rattle.dw_plain.specs.declared.select.Condition.{Condition}

-- the place of the column of a name among these, from 0
abbrev pub place_of : List Column → List ℕ → Option ℕ
place_of [] name = None
place_of (column ∷ columns) name = if same_name column.name name then Some 0 else option_map suc (place_of columns name)

-- the value at a place, if there is one
abbrev pub found_at : List Value → Option ℕ → Option Value
found_at values None = None
found_at values (Some place) = slice_get values place

-- the value at a place, and NULL where there is none
abbrev pub value_at : List Value → Option ℕ → Value
value_at values place = unwrap_or (found_at values place) Null

-- the values at these places of a row
abbrev pub values_at : List (Option ℕ) → Row → Row
values_at places row = record { values = map (value_at row.values) places }

-- a test of a table with these columns, with the place of its column and the value that this is compared with
abbrev pub condition_of : List Column → Test → Condition
condition_of columns test = record {
  place = place_of columns test.column;
  scale = scale_of (kind_of columns test.column);
  comparison = test.comparison;
  value = unwrap_or (compared_with (kind_of columns test.column) test.literal) Null;
  value_scale = scale_of_literal test.literal;
}

-- whether a condition is true of a row
abbrev pub holds_at : Condition → Row → Bool
holds_at condition row =
    is_true (truth_of condition.comparison (value_at row.values condition.place) condition.scale condition.value
    condition.value_scale)

-- whether a row passes the condition, if there is one
abbrev pub passes_at : Option Condition → Row → Bool
passes_at None row = true
passes_at (Some condition) row = holds_at condition row

-- the place among a tuple's literals of the one that is for a column, if there is one: these columns are listed, and
-- without a list all in order
abbrev pub place_given : List Column → List (List ℕ) → Column → Option ℕ
place_given columns listed column = position (same_name column.name) (names_given columns listed)

-- the places for all columns
abbrev pub places_given : List Column → List (List ℕ) → List (Option ℕ)
places_given columns listed = map (place_given columns listed) columns

-- a column takes what a tuple for columns of these names has for it
abbrev pub takes_given : List (List ℕ) → List Literal → Column → Bool
takes_given names tuple column = column_takes column (given_to names tuple column.name)

-- whether the column at a place is NULL in one of these rows
abbrev pub has_null_at : ℕ → List Row → Bool
has_null_at place rows = list_any (λ row. is_null (slice_get row.values place)) rows
