-- The values so far are shown, and stand in front of what is left.
use Rattle.std.proofs.Common.{◌≡◌, ◌++◌, drop}
use Rattle.dw_model.specs.Selection.{shown_all}
use Rattle.dw_plain.proofs.select.shown_row.Given as goal

abbrev pub invariant-loop-place : goal.invariant-loop-place
invariant-loop-place l = shown_all l.kinds l.row.values ≡ l.fields ++ shown_all (drop l.place l.kinds) (drop l.place l.row.values)
