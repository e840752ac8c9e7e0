-- No column so far is unfit.
use Rattle.std.proofs.Common.{◌≡◌, drop}
use Rattle.std.specs.List.{list_any}
use Rattle.dw_model.specs.Creating.{is_unfit}
use Rattle.dw_plain.proofs.create.has_unfit.Given as goal

abbrev pub invariant-loop-column : goal.invariant-loop-column
invariant-loop-column l = list_any is_unfit l.columns ≡ list_any is_unfit (drop l.column-index l.columns)
