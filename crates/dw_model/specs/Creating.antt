-- CREATE TABLE: the definition that it makes, and what it is refused for, in this order: a name that is taken, a doubled
-- column, an unknown column in a key or a constraint, and what doesn't go together. After CREATE TABLE of the Amazon
-- Redshift guide; the order is this project's own. Constraints have no effect but for their names.
use Rattle.std.specs.Prelude.{ℕ, nat_lt, Bool, true, false, not, ◌&&◌, ◌||◌, List, [], ◌∷◌, map, length, position, unwrap_or, Option, Some, None, is_some, if◌then◌else◌}
use Rattle.std.specs.List.{list_any, find}
use Rattle.dw_value.specs.declared.kinds.Kind.{Kind}
use Rattle.dw_value.specs.declared.kinds.Encoding.{Encoding}
use Rattle.dw_value.specs.declared.kinds.Encoding.TheVariants.{Raw}
use Rattle.dw_value.specs.declared.kinds.Style.{Style}
use Rattle.dw_value.specs.declared.kinds.Style.TheVariants as styles
use Rattle.dw_value.specs.declared.values.Value.{Value}
use Rattle.dw_value.specs.declared.values.Value.TheVariants as values
use Rattle.dw_value.specs.Encodings.{allows}
use Rattle.dw_model.specs.declared.refusals.Refusal.{Refusal}
use Rattle.dw_model.specs.declared.refusals.Refusal.TheVariants.{Unknown, Exists, Clash}
use Rattle.dw_model.specs.declared.statements.Literal.{Literal}
use Rattle.dw_model.specs.declared.statements.ColumnSpec.{ColumnSpec}
use Rattle.dw_model.specs.declared.statements.StyleWord.{StyleWord}
use Rattle.dw_model.specs.declared.statements.StyleWord.TheVariants as words
use Rattle.dw_model.specs.declared.statements.TableSpec.{TableSpec}
use Rattle.dw_model.specs.declared.tables.Column.{Column}
use Rattle.dw_model.specs.declared.tables.TableDef.{TableDef}
use Rattle.dw_model.specs.Binding.{same_name, is_name_in, repeated_after, refused_name, first_refusal}
use Rattle.dw_model.specs.Literals.{literal_goes_with, held_of_literal}

-- the names of a new table's columns
abbrev pub names_of : List ColumnSpec → List (List ℕ)
names_of columns = map (λ column. column.name) columns

-- the default of a column: NULL where none is written, and none where the literal doesn't fit
abbrev pub default_made : Kind → Option Literal → Option Value
default_made kind None = Some values.Null
default_made kind (Some literal) = if literal_goes_with kind literal then held_of_literal kind literal else None

-- the encoding of a column: RAW where none is written
abbrev pub encoding_made : Option Encoding → Encoding
encoding_made written = unwrap_or written Raw

-- a column whose default or encoding isn't for its kind
abbrev pub is_unfit : ColumnSpec → Bool
is_unfit column =
    not (is_some (default_made column.kind column.default)) || not (allows (encoding_made column.encoding) column.kind)

-- KEY without a key, and another style with one
abbrev pub is_style_clash : Option StyleWord → List (List ℕ) → Bool
is_style_clash (Some words.Key) [] = true
is_style_clash (Some words.Even) (key ∷ keys) = true
is_style_clash (Some words.All) (key ∷ keys) = true
is_style_clash style keys = false

-- two keys of one sort, a style that doesn't go with the key, or an unfit column
abbrev pub is_clash : TableSpec → Bool
is_clash spec =
    nat_lt 1 (length spec.dist_keys) || (nat_lt 1 (length spec.sort_keys)
    || (is_style_clash spec.style spec.dist_keys || list_any is_unfit spec.columns))

-- the name of a table that is there
abbrev pub taken_refusal : TableSpec → Option TableDef → Option Refusal
taken_refusal spec None = None
taken_refusal spec (Some def) = Some (Exists spec.name)

-- the first of the names in keys and constraints that is no column
abbrev pub unknown_named : TableSpec → Option (List ℕ)
unknown_named spec = find (λ name. not (is_name_in (names_of spec.columns) name)) spec.named

abbrev pub clash_refusal : TableSpec → Option Refusal
clash_refusal spec = if is_clash spec then Some Clash else None

-- what CREATE TABLE is refused for, where this is what has the table's name
abbrev pub create_refusal : TableSpec → Option TableDef → Option Refusal
create_refusal spec there =
    first_refusal (taken_refusal spec there) (first_refusal (refused_name Exists (repeated_after [] (names_of spec.columns)))
    (first_refusal (refused_name Unknown (unknown_named spec)) (clash_refusal spec)))

-- the place of a column of this name, from 0
abbrev pub place_among : List (List ℕ) → List ℕ → ℕ
place_among names name = unwrap_or (position (same_name name) names) 0

-- a column as a created table has it
abbrev pub column_made : ColumnSpec → Column
column_made column = record {
  name = column.name;
  kind = column.kind;
  not_null = column.not_null;
  default = unwrap_or (default_made column.kind column.default) values.Null;
  encoding = encoding_made column.encoding;
}

-- the style: by the key where there is one, else as it is written, else EVEN
abbrev pub style_made : List (List ℕ) → List (List ℕ) → Option StyleWord → Style
style_made names (key ∷ keys) style = styles.Key (place_among names key)
style_made names [] (Some words.All) = styles.All
style_made names [] style = styles.Even

-- the places of the sort key's columns
abbrev pub sort_made : List (List ℕ) → List (List (List ℕ)) → List ℕ
sort_made names [] = []
sort_made names (key ∷ keys) = map (place_among names) key

-- the definition that a created table has
abbrev pub def_made : TableSpec → TableDef
def_made spec = record {
  name = spec.name;
  columns = map column_made spec.columns;
  style = style_made (names_of spec.columns) spec.dist_keys spec.style;
  sort = sort_made (names_of spec.columns) spec.sort_keys;
}
