use Rattle.std.proofs.Common.{◌≡◌, []}
use Rattle.dw_history.specs.Calls.{known, IsPassOf}
use Rattle.dw_history.proofs.tests.one_pass.Given as goal

abbrev pub invariant-loop : goal.invariant-loop
invariant-loop g l = IsPassOf (λ counter. tt) l.kept l.pass × ((known l.pass).number ≡ 0) × ((known l.pass).made ≡ 1) × ((known l.pass).joined ≡ [])
