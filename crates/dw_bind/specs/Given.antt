-- What a call gives that owes a bound expression: it or the refusal, unless there was no memory.
use Rattle.std.specs.Prelude.{◌≡◌, Result, Ok, Err}
use Rattle.dw_expr.specs.declared.faults.BindFault.{BindFault}
use Rattle.dw_expr.specs.declared.faults.BindFault.TheVariants.{Unknown, Clash, Memory}
use Rattle.dw_expr.specs.BoundTree.{BoundTree}

abbrev pub Gives : Result BoundTree BindFault → Result BoundTree BindFault → Type 0
Gives outcome (Ok tree) = outcome ≡ Ok tree
Gives outcome (Err (Unknown name)) = outcome ≡ Err (Unknown name)
Gives outcome (Err Clash) = outcome ≡ Err Clash
Gives outcome (Err Memory) = Unit {0}
