-- The names so far, with those that are left, are all.
use Rattle.std.proofs.Common.{◌≡◌, ◌++◌, map, drop}
use Rattle.dw_query.specs.BindingRows.{name_in}
use Rattle.dw_bind_query.proofs.lookup.names_for.Given as goal

abbrev pub invariant-loop-column : goal.invariant-loop-column
invariant-loop-column l = l.names ++ map name_in (drop l.column-index l.columns) ≡ map name_in l.columns
