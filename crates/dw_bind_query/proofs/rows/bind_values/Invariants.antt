-- The expressions so far, with those that are left, are all.
use Rattle.std.proofs.Common.{◌≡◌, drop}
use Rattle.dw_query.specs.Binding.{appended}
use Rattle.dw_query.specs.BindingRows.{bound_values}
use Rattle.dw_bind_query.specs.Parts.{so_far}
use Rattle.dw_bind_query.proofs.rows.bind_values.Given as goal

abbrev pub invariant-loop-place : goal.invariant-loop-place
invariant-loop-place l =
    appended (so_far l.parts.made l.parts.refusal) (bound_values (drop l.place l.wanted) (drop l.place l.tuple)) ≡ bound_values l.wanted l.tuple
