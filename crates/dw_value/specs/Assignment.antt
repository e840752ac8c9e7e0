-- What a column holds of a value that is assigned to it. After the SQL standard (store assignment); the misfits and the
-- rounding are this project's own.
use Rattle.std.specs.Prelude.{ℤ, Option, None, Some, Result, Ok, Err}
use Rattle.dw_value.specs.declared.kinds.Kind.{Kind}
use Rattle.dw_value.specs.declared.kinds.Kind.TheVariants as kinds
use Rattle.dw_value.specs.declared.kinds.Misfit.{Misfit}
use Rattle.dw_value.specs.declared.kinds.Misfit.TheVariants.{Date}
use Rattle.dw_value.specs.declared.values.Value.{Value}
use Rattle.dw_value.specs.declared.values.Value.TheVariants.{Number, Words, Day}
use Rattle.dw_value.specs.Dates.{day_in}
use Rattle.dw_value.specs.Values.{held}
use Rattle.dw_value.specs.Kinds.{scale_of}
use Rattle.dw_value.specs.Arithmetic.{rescaled}

-- the day that a text writes, or that it writes none
abbrev pub day_or_misfit : Option ℤ → Result Value Misfit
day_or_misfit None = Err Date
day_or_misfit (Some day) = Ok (Day day)

-- A value of the kind `from` as a column of the kind `to` holds it, or why it can't: a number at the column's scale,
-- and a text beside a date as the day that it writes. 1.005 in DECIMAL(4,2) is 1.01, and -0.5 in INTEGER is -1.
abbrev pub admitted : Kind → Value → Kind → Result Value Misfit
admitted to (Number n) from = held to (Number (rescaled (scale_of from) (scale_of to) n))
admitted kinds.Date (Words text) from = day_or_misfit (day_in text)
admitted to value from = held to value
