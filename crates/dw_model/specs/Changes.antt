-- What a statement changes: a table is made, a table goes, or rows of a table go and others come, in this order. A row
-- that goes names one equal row of the table; where the table has several, all of them go together, or one by one.
use Rattle.std.specs.Prelude.{ℕ, Bool, List, [], ◌∷◌, Option, Some, None, if◌then◌else◌}
use Rattle.std.specs.Ordering.{is_eq}
use Rattle.std.specs.FinMap as map_of
use Rattle.dw_value.specs.declared.values.Row.{Row}
use Rattle.dw_value.specs.Values.{row_cmp}
use Rattle.dw_value.specs.Sorted.{add_sorted}
use Rattle.dw_model.specs.declared.changes.Change.{Change}
use Rattle.dw_model.specs.declared.changes.Change.TheVariants.{Unchanged, Creates, Drops, Alters}
use Rattle.dw_model.specs.declared.tables.Table.{Table}
use Rattle.dw_model.specs.declared.tables.TableDef.{TableDef}
use Rattle.dw_model.specs.Binding.{same_name}
use Rattle.dw_model.specs.Databases.{Tables}

-- two rows are equal where they tie in the order of rows
abbrev pub same_row : Row → Row → Bool
same_row a b = is_eq (row_cmp a b)

-- rows without the first that equals this one
abbrev pub without_row : Row → List Row → List Row
without_row row [] = []
without_row row (first ∷ rest) = if same_row row first then rest else first ∷ without_row row rest

-- for each of the rows that go, one equal row goes
abbrev pub without_rows : List Row → List Row → List Row
without_rows [] rows = rows
without_rows (row ∷ gone) rows = without_rows gone (without_row row rows)

-- rows from which some go and to which others come, each at its place
abbrev pub rows_changed : List Row → List Row → List Row → List Row
rows_changed gone added rows = add_sorted row_cmp added (without_rows gone rows)

-- the definition of the table of a name after a change, by what it was before
abbrev pub def_by : List ℕ → Change → Option TableDef → Option TableDef
def_by name Unchanged before = before
def_by name (Creates table def) before = if same_name name table then Some def else before
def_by name (Drops table) before = if same_name name table then None else before
def_by name (Alters table gone added) before = before

-- the rows of the table of a name after a change, by what they were before
abbrev pub rows_by : List ℕ → Change → List Row → List Row
rows_by name Unchanged before = before
rows_by name (Creates table def) before = if same_name name table then [] else before
rows_by name (Drops table) before = if same_name name table then [] else before
rows_by name (Alters table gone added) before = if same_name name table then rows_changed gone added before else before

-- a table of this definition without rows
abbrev pub table_made : TableDef → Table
table_made def = record { def = def; rows = [] }

-- a table from which rows go and to which rows come
abbrev pub table_changed : List Row → List Row → Table → Table
table_changed gone added table = record { def = table.def; rows = rows_changed gone added table.rows }

-- a database in which the rows of a table change, where it is there
abbrev pub rows_changed_at : List ℕ → List Row → List Row → Option Table → Tables → Tables
rows_changed_at name gone added None tables = tables
rows_changed_at name gone added (Some table) tables = map_of.insert tables name (table_changed gone added table)

-- a database after a change
abbrev pub changed : Change → Tables → Tables
changed Unchanged tables = tables
changed (Creates table def) tables = map_of.insert tables table (table_made def)
changed (Drops table) tables = map_of.remove tables table
changed (Alters table gone added) tables = rows_changed_at table gone added (map_of.get tables table) tables

-- the rows that a change adds to the table of a name, in the order in which they are appended
abbrev pub added_to : List ℕ → Change → List Row
added_to name Unchanged = []
added_to name (Creates table def) = []
added_to name (Drops table) = []
added_to name (Alters table gone added) = if same_name name table then added else []

-- the rows that a change takes from the table of a name, row by row
abbrev pub gone_from : List ℕ → Change → List Row
gone_from name Unchanged = []
gone_from name (Creates table def) = []
gone_from name (Drops table) = []
gone_from name (Alters table gone added) = if same_name name table then gone else []
