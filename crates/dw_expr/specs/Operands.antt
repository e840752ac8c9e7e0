-- What the operands of an expression come to, and what is said of them.
use Rattle.std.specs.Prelude.{◌≡◌, Bool, true, false, Option, Some, None, Result, Ok, Err}
use Rattle.std.specs.Borrow.{Bor}
use Rattle.dw_value.specs.declared.kinds.Fault.{Fault}
use Rattle.dw_value.specs.declared.values.Value.{Value}
use Rattle.dw_value.specs.declared.values.Value.TheVariants.{Null}
use Rattle.dw_expr.specs.declared.operands.Operand.{Operand}
use Rattle.dw_expr.specs.declared.operands.Operand.TheVariants.{Read, Made, Refused}
use Rattle.dw_expr.specs.BoundTree.{BoundTree, kind_of, arithmetic, joined, compared, both, either, like}
use Rattle.dw_expr.specs.Evaluation.{Outcome, of_two, arithmetic_value, joined_value, comparison_of, both_of, either_of, like_value, not_if}

-- the outcome that an operand is
abbrev pub outcome_of : Operand → Outcome
outcome_of (Read value) = Ok value.now
outcome_of (Made value) = Ok value
outcome_of (Refused fault) = Err fault

-- an outcome, where its value is read elsewhere
abbrev pub IsOutcome : Outcome → Result (Bor Value) Fault → Type 0
IsOutcome outcome (Ok value) = outcome ≡ Ok value.now
IsOutcome outcome (Err fault) = outcome ≡ Err fault

-- the values of two outcomes, or the fault that is told of both
abbrev pub AreBoth : Outcome → Outcome → Result (Bor Value × Bor Value) Fault → Type 0
AreBoth a b (Ok pair) = (a ≡ Ok pair.0.now) × (b ≡ Ok pair.1.now)
AreBoth a b (Err fault) = (make : Value → Value → Outcome) → of_two make a b ≡ Err fault

-- what comes of a condition that is true, that isn't, and that has a fault
abbrev pub decided : Result Bool Fault → Outcome → Outcome → Outcome
decided (Ok true) result rest = result
decided (Ok false) result rest = rest
decided (Err fault) result rest = Err fault

-- the outcome of the branch that was found, or else this one
abbrev pub or_else : Option Operand → Outcome → Outcome
or_else (Some found) other = outcome_of found
or_else None other = other

-- what an operation comes to whose two sides come to these; NULL where it has no two sides
abbrev pub made_of_two : BoundTree → Outcome → Outcome → Outcome
made_of_two (arithmetic op a b kind) x y = of_two (arithmetic_value op (kind_of a) (kind_of b)) x y
made_of_two (joined a b) x y = of_two joined_value x y
made_of_two (compared comparison a b) x y = comparison_of comparison (kind_of a) x (kind_of b) y
made_of_two (both a b) x y = both_of x y
made_of_two (either a b) x y = either_of x y
made_of_two (like negated a b) x y = not_if negated (of_two like_value x y)
made_of_two tree x y = Ok Null
