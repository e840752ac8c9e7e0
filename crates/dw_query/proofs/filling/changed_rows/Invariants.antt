-- The rows so far, with those that are left, are all.
use Rattle.std.proofs.Common.{◌≡◌, drop, zip}
use Rattle.dw_query.specs.Stages.{joined, stage}
use Rattle.dw_query.specs.Filling.{changed_row, changed_rows}
use Rattle.dw_query.specs.Outcomes.{so_far}
use Rattle.dw_query.proofs.filling.changed_rows.Given as goal

abbrev pub invariant-loop-place : goal.invariant-loop-place
invariant-loop-place l =
    joined (so_far l.changed.made l.changed.least) (stage (changed_row l.targets l.sets) (drop l.place (zip l.rows l.values))) ≡ changed_rows l.targets l.sets l.rows l.values
