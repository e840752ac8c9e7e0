-- No column so far is at fault.
use Rattle.std.proofs.Common.{◌≡◌, drop}
use Rattle.dw_model.specs.Inserting.{null_column, null_from}
use Rattle.dw_plain.proofs.insert.null_column.Given as goal

abbrev pub invariant-loop-place : goal.invariant-loop-place
invariant-loop-place l = null_column l.columns l.rows ≡ null_from l.place (drop l.place l.columns) l.rows
