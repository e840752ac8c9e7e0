-- Numbers that texts write. The form is this project's own: spaces around it, a sign, digits, and a point with digits.
use Rattle.std.specs.Prelude.{ℕ, ◌-◌, ◌*◌, ◌^◌, ◌==◌, nat_le, ℤ, pos, neg_ℤ, Bool, true, false, ◌&&◌, ◌||◌, not, List, [], ◌∷◌, ◌++◌, length, Option, None, Some, Result, Ok, Err, if◌then◌else◌}
use Rattle.std.specs.List.{list_all, list_any, before_first, after_first}
use Rattle.dw_value.specs.declared.kinds.Kind.{Kind}
use Rattle.dw_value.specs.declared.kinds.Misread.{Misread}
use Rattle.dw_value.specs.declared.kinds.Misread.TheVariants.{Form, Range}
use Rattle.dw_value.specs.Texts.{number_of, without_end_spaces}
use Rattle.dw_value.specs.Values.{holds_number}
use Rattle.dw_value.specs.Kinds.{scale_of, is_whole}
use Rattle.dw_value.specs.Arithmetic.{nearest, rescaled}

-- the text from its first byte on that isn't a space
abbrev pub without_front_spaces : List ℕ → List ℕ
without_front_spaces [] = []
without_front_spaces (byte ∷ rest) = if byte == 32 then without_front_spaces rest else byte ∷ rest

abbrev pub is_digit : ℕ → Bool
is_digit byte = nat_le 48 byte && nat_le byte 57

-- at least one digit, and nothing else
abbrev pub is_digits : List ℕ → Bool
is_digits [] = false
is_digits (byte ∷ rest) = list_all is_digit (byte ∷ rest)

abbrev pub is_point : ℕ → Bool
is_point byte = byte == 46

-- a number, and how many digits after its point it is written with
pub record Written : Type 0 where
  pub number : ℤ
  pub places : ℕ

-- a size, and the same below zero
abbrev pub with_sign : Bool → ℕ → ℤ
with_sign false n = pos n
with_sign true n = neg_ℤ (pos n)

-- what digits before and after a point write
abbrev pub written : Bool → List ℕ → List ℕ → Written
written below whole fraction =
    record { number = with_sign below (number_of (whole ++ fraction)); places = length fraction }

-- a number after its sign: digits, and where there is a point digits after it
abbrev pub size_written : Bool → List ℕ → Option Written
size_written below text =
    if is_digits (before_first is_point text) && (is_digits (after_first is_point text) || not (list_any is_point text))
    then Some (written below (before_first is_point text) (after_first is_point text))
    else None

-- a number with a sign or without one
abbrev pub number_written : List ℕ → Option Written
number_written [] = None
number_written (first ∷ rest) =
    if first == 45 then size_written true rest
    else if first == 43 then size_written false rest
    else size_written false (first ∷ rest)

-- the number, where the kind holds it
abbrev pub number_within : Kind → ℤ → Result ℤ Misread
number_within kind n = if holds_number kind n then Ok n else Err Range

-- a written number as one of a kind: rounded to the kind's scale and in its range; whole numbers take no point
abbrev pub written_in : Kind → Option Written → Result ℤ Misread
written_in kind None = Err Form
written_in kind (Some found) =
    if is_whole kind && not (found.places == 0) then Err Form
    else number_within kind (rescaled found.places (scale_of kind) found.number)

-- The number of a kind that a text writes, apart from spaces around it. " -1.005" is -101 in DECIMAL(4,2).
abbrev pub number_in : Kind → List ℕ → Result ℤ Misread
number_in kind text = written_in kind (number_written (without_front_spaces (without_end_spaces text)))

-- a size of one scale at another: exact with more digits, rounded with fewer
abbrev pub size_rescaled : ℕ → ℕ → ℕ → ℕ
size_rescaled from to n = if nat_le from to then n * 10 ^ (to - from) else nearest n (10 ^ (from - to))
