-- A database: a finite map from the names of tables to their definition and their rows, which stand in ascending order.
-- So two databases are equal where their definitions are and their rows are, up to order.
use Rattle.std.specs.Prelude.{◌≡◌, ℕ, List, [], Option, Some, None, option_map}
use Rattle.std.specs.Ordering.{nat_cmp}
use Rattle.std.specs.Cmp.Lexicographic.{slice_cmp}
use Rattle.std.specs.FinMap as map
use Rattle.dw_value.specs.declared.values.Row.{Row}
use Rattle.dw_value.specs.Values.{row_cmp}
use Rattle.dw_value.specs.Sorted.{sort}
use Rattle.dw_model.specs.declared.tables.Table.{Table}
use Rattle.dw_model.specs.declared.tables.TableDef.{TableDef}

-- names are told apart and ordered by their bytes
abbrev pub Tables : Type 0
Tables = map.FinMap (slice_cmp nat_cmp) Table

-- the definition of the table of a name: an object of the database
abbrev pub def_of : Tables → List ℕ → Option TableDef
def_of tables name = option_map (λ table. table.def) (map.get tables name)

-- the rows of a table, where there is one
abbrev pub rows_in : Option Table → List Row
rows_in None = []
rows_in (Some table) = table.rows

-- the rows of the table of a name: an object of the database, with no row where there is no such table
abbrev pub rows_of : Tables → List ℕ → List Row
rows_of tables name = rows_in (map.get tables name)

-- a database with this table under a name, or with none there
abbrev pub table_put : List ℕ → Option Table → Tables → Tables
table_put name None tables = map.remove tables name
table_put name (Some table) tables = map.insert tables name table

-- rows stand in ascending order: to sort them changes nothing
abbrev pub IsAscending : List Row → Type 0
IsAscending rows = sort row_cmp rows ≡ rows

-- the rows of each table stand in ascending order
abbrev pub AllAscending : Tables → Type 0
AllAscending tables = (name : List ℕ) → IsAscending (rows_of tables name)
