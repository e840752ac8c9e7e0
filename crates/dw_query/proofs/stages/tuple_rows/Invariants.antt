-- The rows so far, with those that are left, are all.
use Rattle.std.proofs.Common.{◌≡◌, drop}
use Rattle.dw_query.specs.Stages.{joined, stage, tuple_row, tuple_rows}
use Rattle.dw_query.specs.Outcomes.{so_far}
use Rattle.dw_query.proofs.stages.tuple_rows.Given as goal

abbrev pub invariant-loop-tuple : goal.invariant-loop-tuple
invariant-loop-tuple l =
    joined (so_far l.rows.made l.rows.least) (stage tuple_row (drop l.tuple-index l.tuples)) ≡ tuple_rows l.tuples
