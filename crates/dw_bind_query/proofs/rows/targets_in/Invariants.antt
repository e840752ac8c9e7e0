-- The columns so far, with those that are left, are all.
use Rattle.std.proofs.Common.{◌≡◌, ◌++◌, map, drop}
use Rattle.dw_query.specs.BindingRows.{target_in}
use Rattle.dw_bind_query.proofs.rows.targets_in.Given as goal

abbrev pub invariant-loop-column : goal.invariant-loop-column
invariant-loop-column l = l.targets ++ map (target_in l.names) (drop l.column-index l.columns) ≡ map (target_in l.names) l.columns
