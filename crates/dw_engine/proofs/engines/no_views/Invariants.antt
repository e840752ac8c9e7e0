use Rattle.std.proofs.Common.{◌≡◌, replicate, None}
use Rattle.dw_engine.proofs.engines.no_views.Given as goal

abbrev pub invariant-loop : goal.invariant-loop
invariant-loop l = l.views.items ≡ replicate l.counter None
