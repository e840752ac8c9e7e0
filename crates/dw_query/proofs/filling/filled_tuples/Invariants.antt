-- The rows so far, with those that are left, are all.
use Rattle.std.proofs.Common.{◌≡◌, drop, zip}
use Rattle.dw_query.specs.Stages.{joined, stage}
use Rattle.dw_query.specs.Filling.{filled_tuple, filled_tuples}
use Rattle.dw_query.specs.Outcomes.{so_far}
use Rattle.dw_query.proofs.filling.filled_tuples.Given as goal

abbrev pub invariant-loop-place : goal.invariant-loop-place
invariant-loop-place l =
    joined (so_far l.filled.made l.filled.least) (stage (filled_tuple l.targets l.defaults) (drop l.place (zip l.tuples l.rows))) ≡ filled_tuples l.targets l.defaults l.tuples l.rows
