-- What the code asks of a bound expression on its way.
use Rattle.std.specs.Prelude.{◌≡◌, ℕ, List, Option, Some, None, Result, Ok, Err}
use Rattle.dw_value.specs.declared.kinds.Kind.{Kind}
use Rattle.dw_value.specs.declared.values.Value.{Value}
use Rattle.dw_value.specs.declared.values.Value.TheVariants as values
use Rattle.dw_expr.specs.declared.typed.Typed.{Typed}
use Rattle.dw_expr.specs.BoundTree.{BoundTree, literal}
use Rattle.dw_expr.specs.Binding.{standing_once, settled}
use Rattle.std.specs.declared.alloc.AllocError.{AllocError}

-- the value of a literal, and its kind
abbrev pub literal_in : BoundTree → Option (Value × Kind)
literal_in (literal value kind) = Some (value, kind)
literal_in a = None

-- the text of a text literal
abbrev pub text_of : Value → Option (List ℕ)
text_of (values.Words text) = Some text
text_of value = None

abbrev pub words_in : BoundTree → Option (List ℕ)
words_in (literal value kind) = text_of value
words_in a = None

-- an operand and its copy where it stands in each comparison, or no copy where it stands once
abbrev pub Doubles : Typed → Result (Option Typed) AllocError → Type 0
Doubles a (Ok (Some copy)) = (copy ≡ a) × (standing_once a ≡ None)
Doubles a (Ok None) = standing_once a ≡ Some (settled a)
Doubles a (Err fault) = Unit {0}
