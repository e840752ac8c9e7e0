-- Printed forms of values. A day is printed as ISO 8601 has it; the other forms are this project's own.
use Rattle.std.specs.Prelude.{ℕ, zero, suc, ◌+◌, ◌/◌, ◌%◌, ◌^◌, ℤ, pos, negsuc, unsigned_abs, true, false, List, [], ◌∷◌, ◌++◌, codes}
use Rattle.std.specs.Fmt.{decimal}
use Rattle.dw_value.specs.declared.kinds.Kind.{Kind}
use Rattle.dw_value.specs.declared.values.Value.{Value}
use Rattle.dw_value.specs.declared.values.Value.TheVariants.{Number, Words, Day, Truth as Logical, Null}
use Rattle.dw_value.specs.declared.values.Field.{Field}
use Rattle.dw_value.specs.declared.values.Field.TheVariants.{Shown, Null as NoText}
use Rattle.dw_value.specs.Dates.{date_text}
use Rattle.dw_value.specs.Kinds.{scale_of}

-- the last digits of a number, so many of them
abbrev pub last_digits : ℕ → ℕ → List ℕ
last_digits zero n = []
last_digits (suc places) n = last_digits places (n / 10) ++ (48 + n % 10) ∷ []

-- a minus in front of a number below zero
abbrev pub minus_text : ℤ → List ℕ
minus_text (pos n) = []
minus_text (negsuc n) = codes "-"

-- a point and so many last digits; no point without digits
abbrev pub places_text : ℕ → ℕ → List ℕ
places_text zero n = []
places_text (suc places) n = codes "." ++ last_digits (suc places) n

-- The number of a scale: a minus, the whole part in at least one digit, and exactly as many digits after a point as the
-- scale says. -5 of scale 2 is -0.05.
abbrev pub number_text : ℕ → ℤ → List ℕ
number_text scale n = minus_text n ++ decimal (unsigned_abs n / 10 ^ scale) ++ places_text scale (unsigned_abs n)

-- the printed form of a value of a kind: a number at the kind's scale, a text as it is, a day as YYYY-MM-DD, t or f,
-- and no text for NULL
abbrev pub shown : Kind → Value → Field
shown kind (Number n) = Shown (number_text (scale_of kind) n)
shown kind (Words text) = Shown text
shown kind (Day n) = Shown (date_text n)
shown kind (Logical true) = Shown (codes "t")
shown kind (Logical false) = Shown (codes "f")
shown kind Null = NoText
