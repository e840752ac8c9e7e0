-- No name so far stands again after it.
use Rattle.std.proofs.Common.{◌≡◌, length}
use Rattle.dw_query.specs.BindingRows.{is_repeated}
use Rattle.dw_bind_query.proofs.lookup.is_repeated.Given as goal

abbrev pub invariant-loop-rest : goal.invariant-loop-rest
invariant-loop-rest l = is_repeated l.names ≡ is_repeated l.rest

abbrev pub decreases-loop-rest : goal.decreases-loop-rest
decreases-loop-rest l = length l.rest
