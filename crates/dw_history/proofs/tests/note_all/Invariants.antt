use Rattle.std.proofs.Common.{◌≡◌}
use Rattle.dw_history.specs.Calls.{known, IsPassOf}
use Rattle.dw_history.proofs.tests.note_all.Given as goal

abbrev pub invariant-loop-what : goal.invariant-loop-what
invariant-loop-what g l = IsPassOf (λ diary. tt) l.kept l.pass × ((known l.pass).number ≡ l.number) × ((known l.pass).made ≡ (known l.fn.pass).made) × ((known l.pass).joined ≡ (known l.fn.pass).joined)
