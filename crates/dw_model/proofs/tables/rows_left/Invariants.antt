-- The rows that the loop has passed are gone.
use Rattle.std.proofs.Common.{◌≡◌, drop}
use Rattle.dw_model.specs.Changes.{without_rows}
use Rattle.dw_model.specs.Databases.{IsAscending}
use Rattle.dw_model.proofs.tables.rows_left.Given as goal

abbrev pub invariant-loop-row : goal.invariant-loop-row
invariant-loop-row l = record {
  whole : without_rows (drop l.row-index l.row-items) l.left.items ≡ without_rows l.gone l.rows;
  up : IsAscending l.left.items;
}
