-- Each name so far is that of a table.
use Rattle.std.proofs.Common.{◌≡◌, drop}
use Rattle.dw_model.specs.Bound.{first_missing}
use Rattle.dw_model.specs.Databases.{def_of}
use Rattle.dw_plain.proofs.bind.missing_table.Given as goal

abbrev pub invariant-loop-table : goal.invariant-loop-table
invariant-loop-table l = first_missing (def_of l.database) l.tables ≡ first_missing (def_of l.database) (drop l.table-index l.tables)
