-- The lines of an answer's and a table's rows. The forms are this project's own.
use Rattle.std.specs.Prelude.{ℕ, List, ◌++◌, map, codes}
use Rattle.dw_value.specs.declared.values.Field.{Field}
use Rattle.dw_value.specs.declared.values.Row.{Row}
use Rattle.dw_value.specs.declared.kinds.Kind.{Kind}
use Rattle.dw_model.specs.declared.tables.Column.{Column}
use Rattle.dw_model.specs.Selection.{fields_of}
use Rattle.dw_print.specs.Fields.{field, shown_field, barred}

-- the names of an answer's columns, as `= x|s`
abbrev pub names_line : List (List ℕ) → List ℕ
names_line names = codes "= " ++ barred field names ++ codes "\n"

-- the fields of a row, as `- 1|\N`
abbrev pub fields_line : List Field → List ℕ
fields_line fields = codes "- " ++ barred shown_field fields ++ codes "\n"

-- the kinds of columns
abbrev pub kinds_in : List Column → List Kind
kinds_in columns = map (λ column. column.kind) columns

-- a row of a table with these columns, each value as its column's kind says
abbrev pub row_line : List Column → Row → List ℕ
row_line columns row = fields_line (fields_of (kinds_in columns) row)
