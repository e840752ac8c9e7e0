-- The new values so far, with those that are left, are all.
use Rattle.std.proofs.Common.{◌≡◌, drop}
use Rattle.dw_query.specs.Binding.{appended, bound_parts}
use Rattle.dw_query.specs.BindingRows.{a_set}
use Rattle.dw_bind_query.specs.Parts.{so_far}
use Rattle.dw_bind_query.proofs.rows.bind_sets.Given as goal

abbrev pub invariant-loop-assignment : goal.invariant-loop-assignment
invariant-loop-assignment l =
    appended (so_far l.parts.made l.parts.refusal) (bound_parts (a_set l.sight l.columns) (drop l.assignment-index l.sets)) ≡ bound_parts (a_set l.sight l.columns) l.sets
