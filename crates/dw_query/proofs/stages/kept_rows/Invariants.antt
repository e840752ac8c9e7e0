-- The rows so far, with those that are left, are all.
use Rattle.std.proofs.Common.{◌≡◌, drop}
use Rattle.dw_query.specs.Stages.{joined, stage, kept_row, kept_rows}
use Rattle.dw_query.specs.Outcomes.{so_far}
use Rattle.dw_query.proofs.stages.kept_rows.Given as goal

abbrev pub invariant-loop-row : goal.invariant-loop-row
invariant-loop-row l =
    joined (so_far l.kept.made l.kept.least) (stage (kept_row l.condition) (drop l.row-index l.rows)) ≡ kept_rows l.condition l.rows
