-- The rows so far are written.
use Rattle.std.proofs.Common.{◌≡◌, ◌++◌, take}
use Rattle.std.specs.Prelude.{flat_map}
use Rattle.dw_print.specs.Rows.{row_line}
use Rattle.dw_print.proofs.tables.write_rows.Given as goal

abbrev pub invariant-loop-row : goal.invariant-loop-row
invariant-loop-row l = l.out.items ≡ l.initial.out.items ++ flat_map (row_line l.columns) (take l.row-index l.rows)
