-- Each name so far is that of a column.
use Rattle.std.proofs.Common.{◌≡◌, drop}
use Rattle.dw_model.specs.Binding.{first_unknown}
use Rattle.dw_plain.proofs.columns.unknown_column.Given as goal

abbrev pub invariant-loop-name : goal.invariant-loop-name
invariant-loop-name l = first_unknown l.columns l.names ≡ first_unknown l.columns (drop l.name-index l.names)
