-- INSERT of tuples: what it is refused for, and the rows that it makes. A column that isn't listed gets its default.
-- After the SQL standard and INSERT of the Amazon Redshift guide; the order of refusals is this project's own.
use Rattle.std.specs.Prelude.{ℕ, suc, Bool, true, false, not, ◌==◌, ◌&&◌, ◌||◌, List, [], ◌∷◌, map, length, position, slice_get, Option, Some, None, is_some, if◌then◌else◌}
use Rattle.std.specs.List.{list_all, list_any}
use Rattle.std.specs.Option.{option_and_then}
use Rattle.dw_value.specs.declared.values.Value.{Value}
use Rattle.dw_value.specs.declared.values.Value.TheVariants as values
use Rattle.dw_value.specs.declared.values.Row.{Row}
use Rattle.dw_model.specs.declared.refusals.Refusal.{Refusal}
use Rattle.dw_model.specs.declared.refusals.Refusal.TheVariants.{Unknown, Clash}
use Rattle.dw_model.specs.declared.statements.Literal.{Literal}
use Rattle.dw_model.specs.declared.tables.Column.{Column}
use Rattle.dw_model.specs.Binding.{same_name, repeated_after, refused_name, first_refusal, first_unknown}
use Rattle.dw_model.specs.Literals.{literal_goes_with, held_of_literal}

-- the columns that a tuple's literals are for, by name: those that are listed, and without a list all in order
abbrev pub names_given : List Column → List (List ℕ) → List (List ℕ)
names_given columns [] = map (λ column. column.name) columns
names_given columns (name ∷ names) = name ∷ names

-- the literal that a tuple for columns of these names has for the column of one
abbrev pub given_to : List (List ℕ) → List Literal → List ℕ → Option Literal
given_to names literals name = option_and_then (slice_get literals) (position (same_name name) names)

abbrev pub column_takes : Column → Option Literal → Bool
column_takes column None = true
column_takes column (Some literal) = literal_goes_with column.kind literal

-- a tuple has a literal for each of these names, and each may be assigned to its column
abbrev pub tuple_goes_with : List Column → List (List ℕ) → List Literal → Bool
tuple_goes_with columns names literals =
    (length literals == length names)
    && list_all (λ column. column_takes column (given_to names literals column.name)) columns

-- no column is listed twice, and all tuples go with the columns
abbrev pub tuples_go_with : List Column → List (List ℕ) → List (List Literal) → Bool
tuples_go_with columns listed tuples =
    not (is_some (repeated_after [] listed)) && list_all (tuple_goes_with columns (names_given columns listed)) tuples

-- what INSERT into a table of these columns is refused for: an unknown column in its list, then what doesn't go together
abbrev pub insert_refusal : List Column → List (List ℕ) → List (List Literal) → Option Refusal
insert_refusal columns listed tuples =
    first_refusal (refused_name Unknown (first_unknown columns listed))
    (if tuples_go_with columns listed tuples then None else Some Clash)

-- what a column holds of a tuple: the literal, or its default; none where the literal doesn't fit
abbrev pub value_made : Column → Option Literal → Option Value
value_made column None = Some column.default
value_made column (Some literal) = held_of_literal column.kind literal

-- a value in front of the others, where all of them fit
abbrev pub with_value : Option Value → Option (List Value) → Option (List Value)
with_value None values = None
with_value (Some value) None = None
with_value (Some value) (Some values) = Some (value ∷ values)

-- the values of the row that a tuple makes; none where a literal doesn't fit
abbrev pub values_made : List (List ℕ) → List Literal → List Column → Option (List Value)
values_made names literals [] = Some []
values_made names literals (column ∷ columns) =
    with_value (value_made column (given_to names literals column.name)) (values_made names literals columns)

-- a row in front of the others, where all of them fit
abbrev pub with_row : Option (List Value) → Option (List Row) → Option (List Row)
with_row None rows = None
with_row (Some values) None = None
with_row (Some values) (Some rows) = Some (record { values = values } ∷ rows)

-- the rows that tuples make; none where a literal of one doesn't fit
abbrev pub rows_made : List Column → List (List ℕ) → List (List Literal) → Option (List Row)
rows_made columns names [] = Some []
rows_made columns names (tuple ∷ tuples) = with_row (values_made names tuple columns) (rows_made columns names tuples)

-- a value that is there and isn't NULL
abbrev pub is_null : Option Value → Bool
is_null (Some values.Null) = true
is_null value = false

-- the first column, in the table's order, that takes no NULL and is NULL in one of these rows; the columns stand at the
-- places from this one on
abbrev pub null_from : ℕ → List Column → List Row → Option (List ℕ)
null_from place [] rows = None
null_from place (column ∷ columns) rows =
    if column.not_null && list_any (λ row. is_null (slice_get row.values place)) rows then Some column.name
    else null_from (suc place) columns rows

abbrev pub null_column : List Column → List Row → Option (List ℕ)
null_column columns rows = null_from 0 columns rows
