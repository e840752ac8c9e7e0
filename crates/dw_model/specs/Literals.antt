-- Literals: their kinds and values, and what a column makes of them. After the literals and the store assignment of the
-- SQL standard; the order of faults is this project's own.
use Rattle.std.specs.Prelude.{ℕ, Bool, true, false, Option, Some, None, option_map, if◌then◌else◌}
use Rattle.std.specs.Result.{result_ok}
use Rattle.dw_value.specs.declared.kinds.Kind.{Kind}
use Rattle.dw_value.specs.declared.kinds.Kind.TheVariants as kinds
use Rattle.dw_value.specs.declared.values.Value.{Value}
use Rattle.dw_value.specs.declared.values.Value.TheVariants as values
use Rattle.dw_value.specs.Values.{goes_with}
use Rattle.dw_value.specs.Kinds.{literal_kind}
use Rattle.dw_value.specs.Dates.{day_in}
use Rattle.dw_value.specs.Assignment.{admitted}
use Rattle.dw_model.specs.declared.statements.Literal.{Literal}
use Rattle.dw_model.specs.declared.statements.Literal.TheVariants.{Null, Number, Words, Date, Truth}

-- the kind of a literal: a number's by its size and its point, the longest text, a date or a truth; NULL is an INTEGER
-- where nothing else decides
abbrev pub kind_of_literal : Literal → Kind
kind_of_literal Null = kinds.Int
kind_of_literal (Number n scale) = literal_kind n scale
kind_of_literal (Words text) = kinds.Varchar 65535
kind_of_literal (Date text) = kinds.Date
kind_of_literal (Truth b) = kinds.Bool

-- how many digits stood after a literal's point
abbrev pub scale_of_literal : Literal → ℕ
scale_of_literal (Number n scale) = scale
scale_of_literal literal = 0

-- the value that a literal writes: none for DATE before a text that is no date
abbrev pub value_of_literal : Literal → Option Value
value_of_literal Null = Some values.Null
value_of_literal (Number n scale) = Some (values.Number n)
value_of_literal (Words text) = Some (values.Words text)
value_of_literal (Date text) = option_map (λ day. values.Day day) (day_in text)
value_of_literal (Truth b) = Some (values.Truth b)

-- whether a value may be assigned to a column of this kind: one of the column's class, and a text to a date
abbrev pub is_assignable : Kind → Value → Bool
is_assignable kinds.Date (values.Words text) = true
is_assignable kind value = goes_with kind value

abbrev pub has_assignable : Kind → Option Value → Bool
has_assignable kind None = false
has_assignable kind (Some value) = is_assignable kind value

abbrev pub literal_goes_with : Kind → Literal → Bool
literal_goes_with kind literal = has_assignable kind (value_of_literal literal)

-- what a column of this kind holds of a value of another, if it fits
abbrev pub held_of : Kind → Kind → Option Value → Option Value
held_of kind from None = None
held_of kind from (Some value) = result_ok (admitted kind value from)

-- the literal as a column of this kind holds it, if it fits: 1.005 in DECIMAL(4,2) is 1.01
abbrev pub held_of_literal : Kind → Literal → Option Value
held_of_literal kind literal = held_of kind (kind_of_literal literal) (value_of_literal literal)

-- the value, where it is of the class of this kind
abbrev pub of_class : Kind → Option Value → Option Value
of_class kind None = None
of_class kind (Some value) = if goes_with kind value then Some value else None

-- the value that a column of this kind is compared with: a text beside a date is read as a date; none where the classes
-- differ
abbrev pub compared_with : Kind → Literal → Option Value
compared_with kinds.Date (Words text) = option_map (λ day. values.Day day) (day_in text)
compared_with kind literal = of_class kind (value_of_literal literal)
