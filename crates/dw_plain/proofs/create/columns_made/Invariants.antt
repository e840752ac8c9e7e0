-- The columns so far are made.
use Rattle.std.proofs.Common.{◌≡◌, map, take}
use Rattle.dw_model.specs.Creating.{column_made}
use Rattle.dw_plain.proofs.create.columns_made.Given as goal

abbrev pub invariant-loop-column : goal.invariant-loop-column
invariant-loop-column l = l.made ≡ map column_made (take l.column-index l.columns)
