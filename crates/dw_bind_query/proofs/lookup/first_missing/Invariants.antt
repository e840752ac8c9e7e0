-- Each name so far is that of a column.
use Rattle.std.proofs.Common.{◌≡◌, drop}
use Rattle.dw_query.specs.BindingRows.{first_missing}
use Rattle.dw_bind_query.proofs.lookup.first_missing.Given as goal

abbrev pub invariant-loop-name : goal.invariant-loop-name
invariant-loop-name l = first_missing l.columns l.names ≡ first_missing l.columns (drop l.name-index l.names)
