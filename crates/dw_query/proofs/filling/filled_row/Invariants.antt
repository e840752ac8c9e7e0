-- The columns so far, with those that are left, are all.
use Rattle.std.proofs.Common.{◌≡◌, drop}
use Rattle.dw_query.specs.Stages.{joined}
use Rattle.dw_query.specs.Filling.{filled_from}
use Rattle.dw_query.specs.Outcomes.{so_far}
use Rattle.dw_query.proofs.filling.filled_row.Given as goal

abbrev pub invariant-loop-column : goal.invariant-loop-column
invariant-loop-column l =
    joined (so_far l.row.made l.row.least) (filled_from l.column (drop l.column l.targets) l.exprs l.values l.others) ≡ filled_from 0 l.targets l.exprs l.values l.others
