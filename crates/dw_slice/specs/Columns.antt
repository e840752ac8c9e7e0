-- The columns of a slice, and which rows they take.
use Rattle.std.specs.Prelude.{List, map, IsTrue}
use Rattle.std.specs.List.{AllZip}
use Rattle.dw_value.specs.declared.kinds.Kind.{Kind}
use Rattle.dw_value.specs.declared.values.Value.{Value}
use Rattle.dw_value.specs.declared.values.Row.{Row}
use Rattle.dw_value.specs.Encodings.{allows}
use Rattle.dw_model.specs.declared.tables.Column.{Column}
use Rattle.dw_model.specs.declared.tables.TableDef.{TableDef}
use Rattle.dw_block.specs.Blocks.{IsKind, IsValueOf}
use Rattle.dw_slice.specs.declared.packed.Storage.{Storage}

-- how a column of a definition is stored
abbrev pub storage_of : Column → Storage
storage_of column = record { kind = column.kind; encoding = column.encoding }

abbrev pub columns_of : TableDef → List Storage
columns_of def = map storage_of def.columns

-- the kinds of columns
abbrev pub kinds_of : List Storage → List Kind
kinds_of columns = map (λ (column : Storage). column.kind) columns

-- the kind is within its limits, and may have the encoding
abbrev pub IsStorage : Storage → Type 0
IsStorage column = IsKind column.kind × IsTrue (allows column.encoding column.kind)

-- the value is one that the column holds, as it holds it, or NULL
abbrev pub IsCell : Storage → Value → Type 0
IsCell column value = IsValueOf column.kind value

-- the row has such a value for each column
abbrev pub FitsColumns : List Storage → Row → Type 0
FitsColumns columns row = AllZip IsCell columns row.values
