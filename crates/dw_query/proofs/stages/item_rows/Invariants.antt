-- The rows so far, with those that are left, are all.
use Rattle.std.proofs.Common.{◌≡◌, drop}
use Rattle.dw_query.specs.Stages.{joined, stage, items_of, item_rows}
use Rattle.dw_query.specs.Outcomes.{so_far}
use Rattle.dw_query.proofs.stages.item_rows.Given as goal

abbrev pub invariant-loop-row : goal.invariant-loop-row
invariant-loop-row l =
    joined (so_far l.items.made l.items.least) (stage (items_of l.exprs) (drop l.row-index l.rows)) ≡ item_rows l.exprs l.rows
