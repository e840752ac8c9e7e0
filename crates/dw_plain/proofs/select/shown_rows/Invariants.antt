-- The rows so far are shown.
use Rattle.std.proofs.Common.{◌≡◌, map, take}
use Rattle.dw_model.specs.Selection.{fields_of}
use Rattle.dw_plain.proofs.select.shown_rows.Given as goal

abbrev pub invariant-loop-row : goal.invariant-loop-row
invariant-loop-row l = l.shown ≡ map (fields_of l.kinds) (take l.row-index l.rows)
