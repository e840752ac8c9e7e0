-- The names so far, with those that are left, are all.
use Rattle.std.proofs.Common.{◌≡◌, ◌++◌, map, drop}
use Rattle.dw_query.specs.BindingRows.{set_name}
use Rattle.dw_bind_query.proofs.rows.set_names.Given as goal

abbrev pub invariant-loop-assignment : goal.invariant-loop-assignment
invariant-loop-assignment l = l.names ++ map set_name (drop l.assignment-index l.sets) ≡ map set_name l.sets
