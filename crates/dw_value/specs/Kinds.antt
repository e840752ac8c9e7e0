-- Kinds by what they hold, the kinds of literals and of results. After the data types of the Amazon Redshift guide; the
-- kinds of results are this project's own.
use Rattle.std.specs.Prelude.{ℕ, zero, suc, ◌+◌, max, nat_le, ℤ, Bool, true, false, ◌&&◌, Option, None, Some, if◌then◌else◌}
use Rattle.dw_value.specs.declared.kinds.Op.{Op}
use Rattle.dw_value.specs.declared.kinds.Op.TheVariants.{Add, Subtract, Multiply, Divide, Remainder}
use Rattle.dw_value.specs.declared.kinds.Kind.{Kind}
use Rattle.dw_value.specs.declared.kinds.Kind.TheVariants.{Small, Int, Big, Decimal}
use Rattle.dw_value.specs.Values.{takes_numbers, holds_number}

-- how many digits after the point the numbers of a kind have
abbrev pub scale_of : Kind → ℕ
scale_of (Decimal precision scale) = scale
scale_of kind = 0

-- the kinds of whole numbers: SMALLINT, INTEGER and BIGINT
abbrev pub is_whole : Kind → Bool
is_whole Small = true
is_whole Int = true
is_whole Big = true
is_whole kind = false

-- of two kinds of whole numbers the one that holds more of them
abbrev pub wider : Kind → Kind → Kind
wider Big b = Big
wider Int Big = Big
wider Int b = Int
wider a b = b

-- the kind of a number literal with so many digits after its point: without one the narrowest of INTEGER and BIGINT
-- that holds it, else a decimal
abbrev pub literal_kind : ℤ → ℕ → Kind
literal_kind n zero = if holds_number Int n then Int else if holds_number Big n then Big else Decimal 38 0
literal_kind n (suc places) = Decimal 38 (suc places)

-- the kind of an operation on decimals of two scales: sums have the greater one and products their sum, up to 37;
-- quotients and remainders there are none
abbrev pub decimal_kind : Op → ℕ → ℕ → Option Kind
decimal_kind Add s t = Some (Decimal 38 (max s t))
decimal_kind Subtract s t = Some (Decimal 38 (max s t))
decimal_kind Multiply s t = if nat_le (s + t) 37 then Some (Decimal 38 (s + t)) else None
decimal_kind Divide s t = None
decimal_kind Remainder s t = None

-- the kind of an operation on values of two kinds: the wider one of whole numbers, else a decimal, where a whole number
-- has the scale 0; none where it doesn't take such values
abbrev pub result_kind : Op → Kind → Kind → Option Kind
result_kind op a b =
    if is_whole a && is_whole b then Some (wider a b)
    else if takes_numbers a && takes_numbers b then decimal_kind op (scale_of a) (scale_of b)
    else None
