-- No column so far has the name.
use Rattle.std.proofs.Common.{◌≡◌, drop}
use Rattle.dw_query.specs.BindingRows.{column_named}
use Rattle.dw_bind_query.proofs.lookup.column_named.Given as goal

abbrev pub invariant-loop-column : goal.invariant-loop-column
invariant-loop-column l = column_named l.columns l.name ≡ column_named (drop l.column-index l.columns) l.name
