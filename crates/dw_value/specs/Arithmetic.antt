-- Arithmetic on exact numbers. After the SQL standard (numeric value expressions); the ranges of results are this
-- project's own.
use Rattle.std.specs.Prelude.{◌≡◌, ℕ, suc, ◌+◌, ◌-◌, ◌*◌, ◌/◌, ◌%◌, ◌^◌, ◌<◌, ◌≤◌, ◌==◌, nat_le, ℤ, pos, negsuc, neg_ℤ, unsigned_abs, ◌+ℤ◌, ◌-ℤ◌, ◌*ℤ◌, int_div, int_rem, ◌&&◌, Option, None, Some, Result, Ok, Err, if◌then◌else◌}
use Rattle.dw_value.specs.declared.kinds.Op.{Op}
use Rattle.dw_value.specs.declared.kinds.Op.TheVariants.{Add, Subtract, Multiply, Divide, Remainder}
use Rattle.dw_value.specs.declared.kinds.Kind.{Kind}
use Rattle.dw_value.specs.declared.kinds.Fault.{Fault}
use Rattle.dw_value.specs.declared.kinds.Fault.TheVariants.{Range, Zero}
use Rattle.dw_value.specs.declared.values.Value.{Value}
use Rattle.dw_value.specs.declared.values.Value.TheVariants.{Number, Null}
use Rattle.dw_value.specs.Values.{holds_number}
use Rattle.dw_value.specs.Kinds.{scale_of, result_kind}

-- the coefficient of the same number with so many more digits after its point: 15 of scale 1 is 150 of scale 2
abbrev pub raised : ℕ → ℤ → ℤ
raised places n = n *ℤ pos (10 ^ places)

-- how many units come nearest to n, of two such numbers the greater: a half counts as one more
abbrev pub nearest : ℕ → ℕ → ℕ
nearest n unit = if nat_le unit (2 * (n % unit)) then n / unit + 1 else n / unit

-- how many units come nearest to a number, of two such the one farther from zero: 15 is two tens, and -15 is -2
abbrev pub rounded : ℕ → ℤ → ℤ
rounded unit (pos n) = pos (nearest n unit)
rounded unit (negsuc n) = neg_ℤ (pos (nearest (suc n) unit))

-- what rounding means: so many units are at most half a unit from the number, and where they are half a unit from it,
-- they are farther from zero
pub record IsRounded (unit : ℕ) (n r : ℤ) : Type 0 where
  pub near : 2 * unsigned_abs (n -ℤ (r *ℤ pos unit)) ≤ unit
  pub half : 2 * unsigned_abs (n -ℤ (r *ℤ pos unit)) ≡ unit → unsigned_abs n < unsigned_abs r * unit

-- the coefficient at a scale of a number given at another: exact with more digits, rounded with fewer
abbrev pub rescaled : ℕ → ℕ → ℤ → ℤ
rescaled from to n = if nat_le from to then raised (to - from) n else rounded (10 ^ (from - to)) n

-- the number, where its kind holds it
abbrev pub in_range : Kind → ℤ → Result ℤ Fault
in_range kind n = if holds_number kind n then Ok n else Err Range

-- a sum, where its kind holds both of its parts and itself
abbrev pub sum_in_range : Kind → ℤ → ℤ → ℤ → Result ℤ Fault
sum_in_range kind x y sum = if holds_number kind x && holds_number kind y then in_range kind sum else Err Range

-- what a division gives, unless the divisor is zero
abbrev pub unless_zero : ℤ → Result ℤ Fault → Result ℤ Fault
unless_zero divisor outcome = if unsigned_abs divisor == 0 then Err Zero else outcome

-- a kind's number at the scale of a result
abbrev pub operand : Kind → Kind → ℤ → ℤ
operand result kind n = raised (scale_of result - scale_of kind) n

-- the operation on numbers of these kinds, where the result has a kind: + and - at the scale of the result, / toward
-- zero, and % what / leaves, with the sign of the dividend
abbrev pub number_computed : Op → Kind → Kind → ℤ → Kind → ℤ → Result ℤ Fault
number_computed Add result a m b n =
    sum_in_range result (operand result a m) (operand result b n) (operand result a m +ℤ operand result b n)
number_computed Subtract result a m b n =
    sum_in_range result (operand result a m) (operand result b n) (operand result a m -ℤ operand result b n)
number_computed Multiply result a m b n = in_range result (m *ℤ n)
number_computed Divide result a m b n = unless_zero n (in_range result (int_div m n))
number_computed Remainder result a m b n = unless_zero n (in_range result (int_rem m n))

-- a number as a value
abbrev pub number_value : Result ℤ Fault → Result Value Fault
number_value (Ok n) = Ok (Number n)
number_value (Err fault) = Err fault

-- the same, where these kinds have a result's kind; else there is no value
abbrev pub computed_by : Option Kind → Op → Kind → ℤ → Kind → ℤ → Result Value Fault
computed_by None op a m b n = Ok Null
computed_by (Some result) op a m b n = number_value (number_computed op result a m b n)

-- the operation on two values of these kinds: NULL beside NULL, and where it doesn't take such values
abbrev pub computed : Op → Value → Kind → Value → Kind → Result Value Fault
computed op (Number m) a (Number n) b = computed_by (result_kind op a b) op a m b n
computed op x a y b = Ok Null
