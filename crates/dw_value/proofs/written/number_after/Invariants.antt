use Rattle.std.specs.Prelude.{min}
use Rattle.std.proofs.Common.{◌≡◌, ◌-◌, ◌^◌, take}
use Rattle.std.specs.List.{fold}
use Rattle.dw_value.specs.Texts.{with_digit}
use Rattle.dw_value.proofs.written.number_after.Given as goal

abbrev pub invariant-loop-digit : goal.invariant-loop-digit
invariant-loop-digit l = l.number ≡ min (fold with_digit l.start (take l.digit-index l.digits)) (2 ^ 128 - 1)
