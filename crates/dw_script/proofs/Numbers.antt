-- Numbers of a schedule.
use Rattle.std.proofs.Common.{◌≡◌, ℕ, ◌<◌, ◌^◌, Bool, true, false, not, ◌&&◌, cond, eqb, leb, Some, None, Err, List, [], ◌∷◌, length, refl, arith, rules}
use Rattle.std.specs.Char.{is_ascii_digit}
use Rattle.std.specs.List.{list_all}
use Rattle.std.specs.Str.{IsUtf8, IsAscii}
use Rattle.std.specs.Str.Parse.{ParsesUnsigned, digits_value}
use Rattle.std.proofs.lemmas.Bool.{and_parts, leb-true}
use Rattle.std.proofs.lemmas.Bool.Decides.{nat_tests}
use Rattle.std.proofs.lemmas.Str.{IsUtf8-from_ascii}
use Rattle.std.proofs.lemmas.Str.Ascii.{IsAscii-nil, IsAscii-cons}
use Rattle.std.proofs.lemmas.Str.Parse.{IsNumeralModel, numerals_by_value, parse_digits}
use Rattle.dw_script.specs.Characters.{digit_zero}
use Rattle.dw_script.specs.Schedule.{number_up_to}

digit_small : (b : ℕ) → is_ascii_digit b ≡ true → b < 128
digit_small b h = grind (arith, nat_tests)

digits_ascii : (bytes : List ℕ) → list_all is_ascii_digit bytes ≡ true → IsAscii bytes
digits_ascii [] all = IsAscii-nil
digits_ascii (b ∷ bs) all =
    let parts = and_parts (is_ascii_digit b) (list_all is_ascii_digit bs) all in IsAscii-cons b bs (digit_small b parts.0) (digits_ascii bs parts.1)

-- no number is written in bytes that are no digits
none_by : (first digits least most : Bool) (n : ℕ) → digits ≡ false → cond (first && digits && least && most) (Some n) None ≡ None
none_by true digits least most n e = rw e refl
none_by false digits least most n e = refl

not_digits : (bytes : List ℕ) (limit : ℕ) → list_all is_ascii_digit bytes ≡ false → number_up_to limit bytes ≡ None
not_digits [] limit none = refl
not_digits (d ∷ ds) limit none =
    none_by (not (eqb d digit_zero)) (list_all is_ascii_digit (d ∷ ds)) (leb 1 (digits_value 10 (d ∷ ds))) (leb (digits_value 10 (d ∷ ds)) limit) (digits_value 10 (d ∷ ds)) none

no_text : (bytes : List ℕ) (limit : ℕ) (digits : Bool) → list_all is_ascii_digit bytes ≡ digits → ¬ (IsUtf8 bytes) → number_up_to limit bytes ≡ None
no_text bytes limit true all none = absurd (none (IsUtf8-from_ascii bytes (digits_ascii bytes all)))
no_text bytes limit false all none = not_digits bytes limit all

pub number-no_text : (bytes : List ℕ) (limit : ℕ) → ¬ (IsUtf8 bytes) → number_up_to limit bytes ≡ None
number-no_text bytes limit none = no_text bytes limit (list_all is_ascii_digit bytes) refl none

numerals : IsNumeralModel (λ ds. list_all is_ascii_digit ds ≡ true) (digits_value 10)
numerals = numerals_by_value _ (search rules)

-- a number that does not fit is past the limit
past_by : (first digits least most : Bool) (n : ℕ) → most ≡ false → cond (first && digits && least && most) (Some n) None ≡ None
past_by true true true most n e = rw e refl
past_by true true false most n e = refl
past_by true false least most n e = refl
past_by false digits least most n e = refl

pub number-past : {E : Type 0} (bytes : List ℕ) (limit : ℕ) (error : E) → limit < 2 ^ 32 → list_all is_ascii_digit bytes ≡ true → ParsesUnsigned 32 10 bytes (Err error) → number_up_to limit bytes ≡ None
number-past [] limit error fits all parsed = refl
number-past (d ∷ ds) limit error fits all parsed = past digits_long (parse_digits numerals 32 (d ∷ ds) (Err error) parsed all)
  where
    digits_long : 0 < length (d ∷ ds)
    digits_long = omega arith

    past : 0 < length (d ∷ ds) → ¬ ((0 < length (d ∷ ds)) × (digits_value 10 (d ∷ ds) < 2 ^ 32)) → number_up_to limit (d ∷ ds) ≡ None
    past long none =
        past_by (not (eqb d digit_zero)) (list_all is_ascii_digit (d ∷ ds)) (leb 1 (digits_value 10 (d ∷ ds))) (leb (digits_value 10 (d ∷ ds)) limit) (digits_value 10 (d ∷ ds))
        (great (leb (digits_value 10 (d ∷ ds)) limit) refl)
      where
        great : (test : Bool) → leb (digits_value 10 (d ∷ ds)) limit ≡ test → leb (digits_value 10 (d ∷ ds)) limit ≡ false
        great true e = let small = leb-true (digits_value 10 (d ∷ ds)) limit e in absurd (none (long, omega arith))
        great false e = e
