-- CAST of a value from one kind to another. After the SQL standard; faults and roundings are this project's own.
use Rattle.std.specs.Prelude.{ℤ, List, ℕ, Result, Ok, Err, if◌then◌else◌}
use Rattle.dw_value.specs.declared.kinds.Kind.{Kind}
use Rattle.dw_value.specs.declared.kinds.Misfit.{Misfit}
use Rattle.dw_value.specs.declared.kinds.Misread.{Misread}
use Rattle.dw_value.specs.declared.kinds.Fault.{Fault}
use Rattle.dw_value.specs.declared.kinds.Fault.TheVariants.{Range}
use Rattle.dw_value.specs.declared.values.Value.{Value}
use Rattle.dw_value.specs.declared.values.Value.TheVariants.{Number, Words, Null}
use Rattle.dw_value.specs.declared.values.Field.{Field}
use Rattle.dw_value.specs.declared.values.Field.TheVariants.{Shown, Null as NoText}
use Rattle.dw_value.specs.Values.{takes_numbers, takes_texts, held}
use Rattle.dw_value.specs.Printed.{shown}
use Rattle.dw_value.specs.Written.{number_in}
use Rattle.dw_value.specs.Assignment.{admitted}

-- in an expression every misfit is a value outside its kind
abbrev pub fitting : Result Value Misfit → Result Value Fault
fitting (Ok value) = Ok value
fitting (Err misfit) = Err Range

abbrev pub number_read : Result ℤ Misread → Result Value Fault
number_read (Ok n) = Ok (Number n)
number_read (Err misread) = Err Range

-- a printed form as a text; NULL has none
abbrev pub text_value : Field → Value
text_value (Shown text) = Words text
text_value NoText = Null

-- a text as a number, where it writes one, or else as an assignment makes it
abbrev pub text_cast : Kind → List ℕ → Kind → Result Value Fault
text_cast to text from =
    if takes_numbers to then number_read (number_in to text) else fitting (admitted to (Words text) from)

-- The value of the kind `from` as one of the kind `to`: to a text by its printed form, from a text to a number by what
-- it writes, and else as in an assignment. CAST of 1.005 to DECIMAL(4,2) is 1.01, of 12.50 to VARCHAR(5) is '12.50',
-- and of ' +7 ' to INTEGER is 7.
abbrev pub cast_value : Kind → Value → Kind → Result Value Fault
cast_value to (Words text) from = text_cast to text from
cast_value to value from =
    if takes_texts to then fitting (held to (text_value (shown from value))) else fitting (admitted to value from)
