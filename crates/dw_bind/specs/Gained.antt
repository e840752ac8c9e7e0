-- What a call gives that owes an expression with its kind, or a part of one.
use Rattle.std.specs.Prelude.{◌≡◌, Option, Some, None, Result, Ok, Err}
use Rattle.dw_bind.specs.declared.faults.KindFault.{KindFault}
use Rattle.dw_bind.specs.declared.faults.KindFault.TheVariants.{Clash, Memory}

-- the expected one, or a clash where none is expected, unless there was no memory
abbrev pub Gains : {A : Type 0} → Option A → Result A KindFault → Type 0
Gains expected (Ok a) = expected ≡ Some a
Gains expected (Err Clash) = expected ≡ None
Gains expected (Err Memory) = Unit {0}
