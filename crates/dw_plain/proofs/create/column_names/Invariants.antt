-- The names of the columns so far.
use Rattle.std.proofs.Common.{◌≡◌, take}
use Rattle.dw_model.specs.Creating.{names_of}
use Rattle.dw_plain.proofs.create.column_names.Given as goal

abbrev pub invariant-loop-column : goal.invariant-loop-column
invariant-loop-column l = l.names ≡ names_of (take l.column-index l.columns)
