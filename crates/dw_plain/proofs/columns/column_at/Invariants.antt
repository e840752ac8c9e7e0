-- No column so far has the name.
use Rattle.std.proofs.Common.{◌≡◌, drop}
use Rattle.dw_model.specs.Binding.{column_of}
use Rattle.dw_plain.proofs.columns.column_at.Given as goal

abbrev pub invariant-loop-column : goal.invariant-loop-column
invariant-loop-column l = column_of l.columns l.name ≡ column_of (drop l.column-index l.columns) l.name
