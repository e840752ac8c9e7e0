-- The tuples so far, with those that are left, are all.
use Rattle.std.proofs.Common.{◌≡◌, drop}
use Rattle.dw_query.specs.Binding.{appended, bound_parts}
use Rattle.dw_query.specs.BindingRows.{a_tuple}
use Rattle.dw_bind_query.specs.Parts.{so_far}
use Rattle.dw_bind_query.proofs.rows.bind_all.Given as goal

abbrev pub invariant-loop-tuple : goal.invariant-loop-tuple
invariant-loop-tuple l =
    appended (so_far l.parts.made l.parts.refusal) (bound_parts (a_tuple l.wanted) (drop l.tuple-index l.tuples)) ≡ bound_parts (a_tuple l.wanted) l.tuples
