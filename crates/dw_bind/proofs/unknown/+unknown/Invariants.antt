use Rattle.std.proofs.Common.{◌≡◌, ◌≤◌}
use Rattle.dw_expr.specs.Tree.{trees_size, branches_size}
use Rattle.dw_expr.specs.Sight.{first_unknown, references_all, references_in}
use Rattle.dw_bind.proofs.unknown.+unknown.Given as goal

abbrev pub decreases-unknown_in : goal.decreases-unknown_in
decreases-unknown_in l = goal.size-unknown_in l

abbrev pub decreases-unknown_in_all : goal.decreases-unknown_in_all
decreases-unknown_in_all l = goal.size-unknown_in_all l

abbrev pub decreases-unknown_in_arms : goal.decreases-unknown_in_arms
decreases-unknown_in_arms l = goal.size-unknown_in_arms l

abbrev pub invariant-unknown_in_all-loop-rest : goal.invariant-unknown_in_all-loop-rest
invariant-unknown_in_all-loop-rest l = record {
  size : trees_size l.rest ≤ trees_size l.list;
  rest : first_unknown l.sight (references_all l.rest) ≡ first_unknown l.sight (references_all l.list);
}

abbrev pub invariant-unknown_in_arms-loop-rest : goal.invariant-unknown_in_arms-loop-rest
invariant-unknown_in_arms-loop-rest l = record {
  size : branches_size l.rest ≤ branches_size l.arms;
  rest : first_unknown l.sight (references_in l.rest) ≡ first_unknown l.sight (references_in l.arms);
}
