-- What a call gives that owes an outcome: the value or the fault, unless there was no memory.
use Rattle.std.specs.Prelude.{◌≡◌, Result, Ok, Err}
use Rattle.dw_value.specs.declared.values.Value.{Value}
use Rattle.dw_expr.specs.declared.evaluation.ExecFault.{ExecFault}
use Rattle.dw_expr.specs.declared.evaluation.ExecFault.TheVariants.{Refused, Memory}
use Rattle.dw_expr.specs.Evaluation.{Outcome}

abbrev pub Gives : Outcome → Result Value ExecFault → Type 0
Gives outcome (Ok x) = outcome ≡ Ok x
Gives outcome (Err (Refused fault)) = outcome ≡ Err fault
Gives outcome (Err Memory) = Unit {0}
