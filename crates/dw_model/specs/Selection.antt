-- What a query gives of the rows of its table, by stages that are functions on whole lists, each before the next: the
-- rows that pass the test, their items, the order. After the SQL standard; a test that is unknown keeps no row.
-- Without an order of its own an answer's rows stand in ascending order.
use Rattle.std.specs.Prelude.{ℕ, Bool, true, false, List, [], ◌∷◌, map, filter, Option, Some, None, unwrap_or, if◌then◌else◌}
use Rattle.dw_value.specs.declared.values.Value.{Value}
use Rattle.dw_value.specs.declared.values.Value.TheVariants.{Null}
use Rattle.dw_value.specs.declared.values.Row.{Row}
use Rattle.dw_value.specs.declared.values.Field.{Field}
use Rattle.dw_value.specs.declared.kinds.Kind.{Kind}
use Rattle.dw_value.specs.declared.kinds.Kind.TheVariants as kinds
use Rattle.dw_value.specs.declared.kinds.Truth.{Truth}
use Rattle.dw_value.specs.declared.kinds.Truth.TheVariants as truths
use Rattle.dw_value.specs.Values.{truth_of, row_cmp}
use Rattle.dw_value.specs.Kinds.{scale_of}
use Rattle.dw_value.specs.Printed.{shown}
use Rattle.dw_value.specs.Sorted.{sort}
use Rattle.dw_model.specs.declared.statements.Query.{Query}
use Rattle.dw_model.specs.declared.statements.Test.{Test}
use Rattle.dw_model.specs.declared.tables.Column.{Column}
use Rattle.dw_model.specs.Binding.{same_name, column_of}
use Rattle.dw_model.specs.Literals.{compared_with, scale_of_literal}

-- the value of the column of a name in a row of these columns; a name that is no column has NULL
abbrev pub value_in : List Column → List Value → List ℕ → Value
value_in [] values name = Null
value_in (column ∷ columns) [] name = Null
value_in (column ∷ columns) (value ∷ values) name =
    if same_name column.name name then value else value_in columns values name

-- only what is true passes
abbrev pub is_true : Truth → Bool
is_true truths.False = false
is_true truths.Unknown = false
is_true truths.True = true

-- the kind of a column; a name that is no column counts as an INTEGER
abbrev pub kind_in : Option Column → Kind
kind_in None = kinds.Int
kind_in (Some column) = column.kind

-- the kind of the column of a name
abbrev pub kind_of : List Column → List ℕ → Kind
kind_of columns name = kind_in (column_of columns name)

-- a value of a column of this kind passes a comparison with a literal
abbrev pub passes_test : Kind → Test → Value → Bool
passes_test kind test value =
    is_true (truth_of test.comparison value (scale_of kind) (unwrap_or (compared_with kind test.literal) Null)
    (scale_of_literal test.literal))

-- whether a row passes the test
abbrev pub passes : List Column → Option Test → Row → Bool
passes columns None row = true
passes columns (Some test) row =
    passes_test (kind_of columns test.column) test (value_in columns row.values test.column)

-- the items of a row
abbrev pub items_of : List Column → List (List ℕ) → Row → Row
items_of columns items row = record { values = map (value_in columns row.values) items }

-- the rows of the answer, in ascending order, of a table with these columns and rows
abbrev pub selected : Query → List Column → List Row → List Row
selected query columns rows =
    sort row_cmp (map (items_of columns query.items) (filter (passes columns query.keep) rows))

-- values of these kinds as they are printed
abbrev pub shown_all : List Kind → List Value → List Field
shown_all [] values = []
shown_all (kind ∷ kinds) [] = []
shown_all (kind ∷ kinds) (value ∷ values) = shown kind value ∷ shown_all kinds values

-- a row of columns of these kinds as it is printed
abbrev pub fields_of : List Kind → Row → List Field
fields_of kinds row = shown_all kinds row.values

-- the kinds of a query's items
abbrev pub kinds_of : List Column → List (List ℕ) → List Kind
kinds_of columns items = map (kind_of columns) items
