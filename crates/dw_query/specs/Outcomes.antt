-- What a call gives that owes a stage's outcome: it or the fault, unless there was no memory; and what a stage that is
-- under way comes to.
use Rattle.std.specs.Prelude.{◌≡◌, List, Option, Some, None, Result, Ok, Err}
use Rattle.dw_value.specs.declared.kinds.Fault.{Fault}
use Rattle.dw_expr.specs.declared.evaluation.ExecFault.{ExecFault}
use Rattle.dw_expr.specs.declared.evaluation.ExecFault.TheVariants.{Refused, Memory}
use Rattle.dw_expr.specs.Evaluation.{least_fault}

abbrev pub Gives : {A : Type 0} → Result A Fault → Result A ExecFault → Type 0
Gives outcome (Ok made) = outcome ≡ Ok made
Gives outcome (Err (Refused fault)) = outcome ≡ Err fault
Gives outcome (Err Memory) = Unit {0}

-- what has been made so far, or the least fault so far
abbrev pub so_far : {A : Type 0} → List A → Option Fault → Result (List A) Fault
so_far made None = Ok made
so_far made (Some fault) = Err fault

-- the least fault after one more
abbrev pub least_after : Option Fault → Fault → Fault
least_after None fault = fault
least_after (Some least) fault = least_fault least fault

-- the same as the answer of a call
abbrev pub came_to : {A : Type 0} → List A → Option Fault → Result (List A) ExecFault
came_to made None = Ok made
came_to made (Some fault) = Err (Refused fault)
