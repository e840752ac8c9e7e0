-- The tables of a database, as a report lists them. The form is this project's own. A database of one table:
--     tables 1
--     table t rows 2
--     - 1|\N
--     - 2|b
use Rattle.std.specs.Prelude.{ℕ, List, ◌++◌, length, flat_map, codes, decimal}
use Rattle.std.specs.FinMap as map_of
use Rattle.dw_model.specs.declared.tables.Table.{Table}
use Rattle.dw_model.specs.Databases.{Tables}
use Rattle.dw_print.specs.Fields.{field}
use Rattle.dw_print.specs.Rows.{row_line}

-- a table: its name, how many rows it has, and the rows, which stand in ascending order
abbrev pub table_lines : List ℕ → Table → List ℕ
table_lines name table =
    codes "table " ++ field name ++ codes " rows " ++ decimal (length table.rows) ++ codes "\n"
    ++ flat_map (row_line table.def.columns) table.rows

-- a table with its name
abbrev pub named_lines : List ℕ × Table → List ℕ
named_lines pair = table_lines pair.0 pair.1

-- how many tables there are, and each of them, in byte order of names
abbrev pub tables_lines : Tables → List ℕ
tables_lines tables =
    codes "tables " ++ decimal (map_of.len tables) ++ codes "\n" ++ flat_map named_lines (map_of.entries tables)
