use Rattle.std.proofs.Common.{◌≡◌, ◌≤◌}
use Rattle.dw_expr.specs.Tree.{trees_size, branches_size}
use Rattle.dw_expr.specs.Binding.{typed_all, typed_arms}
use Rattle.dw_bind.specs.Steps.{after}
use Rattle.dw_bind.proofs.binding.+typed.Given as goal

abbrev pub decreases-typed : goal.decreases-typed
decreases-typed l = goal.size-typed l

abbrev pub decreases-typed_all : goal.decreases-typed_all
decreases-typed_all l = goal.size-typed_all l

abbrev pub decreases-typed_arms : goal.decreases-typed_arms
decreases-typed_arms l = goal.size-typed_arms l

abbrev pub invariant-typed_all-loop-rest : goal.invariant-typed_all-loop-rest
invariant-typed_all-loop-rest l = record {
  size : trees_size l.rest ≤ trees_size l.list;
  rest : after l.items (typed_all l.sight l.aggregates l.rest) ≡ typed_all l.sight l.aggregates l.list;
}

abbrev pub invariant-typed_arms-loop-rest : goal.invariant-typed_arms-loop-rest
invariant-typed_arms-loop-rest l = record {
  size : branches_size l.rest ≤ branches_size l.arms;
  rest : after l.items (typed_arms l.sight l.aggregates l.rest) ≡ typed_arms l.sight l.aggregates l.arms;
}
