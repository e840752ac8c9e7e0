-- Numbers as they are printed, and how they are read.
use Rattle.std.proofs.Common.{◌≡◌, ℕ, ◌<◌, ◌^◌, true, false, ltb, List, [], ◌∷◌, Some, None, Ok, Err, refl, arith, rules}
use Rattle.std.specs.Char.{is_ascii_digit}
use Rattle.std.specs.List.{list_all}
use Rattle.std.specs.Str.{IsUtf8, IsAscii}
use Rattle.std.specs.Str.Parse.{ParsesUnsigned, digits_value}
use Rattle.std.proofs.lemmas.Bool.{and_parts}
use Rattle.std.proofs.lemmas.Bool.Decides.{nat_tests}
use Rattle.std.proofs.lemmas.Str.{IsUtf8-from_ascii}
use Rattle.std.proofs.lemmas.Str.Ascii.{IsAscii-nil, IsAscii-cons}
use Rattle.std.proofs.lemmas.Str.Parse.{IsNumeralModel, numerals_by_value, parse_digits}
use Rattle.dw_read_report.specs.Reading.{has_zero_first, number_of}

digit_is_ascii : (b : ℕ) → is_ascii_digit b ≡ true → b < 128
digit_is_ascii b h = grind (arith, nat_tests)

digits_are_ascii : (bytes : List ℕ) → list_all is_ascii_digit bytes ≡ true → IsAscii bytes
digits_are_ascii [] all = IsAscii-nil
digits_are_ascii (b ∷ bs) all =
    let parts = and_parts (is_ascii_digit b) (list_all is_ascii_digit bs) all in
    IsAscii-cons b bs (digit_is_ascii b parts.0) (digits_are_ascii bs parts.1)

pub digits_are_text : (bytes : List ℕ) → list_all is_ascii_digit bytes ≡ true → IsUtf8 bytes
digits_are_text bytes all = IsUtf8-from_ascii bytes (digits_are_ascii bytes all)

pub numerals : IsNumeralModel (λ ds. list_all is_ascii_digit ds ≡ true) (digits_value 10)
numerals = numerals_by_value _ (search rules)

not_below : (a b : ℕ) → ¬ (a < b) → ltb a b ≡ false
not_below a b none = grind (arith, nat_tests, none)

-- the number that `parse` gives is the one that is read, and where it gives none, none is read
pub number_is_parsed : (digits : List ℕ) (n : ℕ) → list_all is_ascii_digit digits ≡ true
    → has_zero_first digits ≡ false → ParsesUnsigned {E = ℕ} 64 10 digits (Ok n) → Some n ≡ number_of digits
number_is_parsed [] n all plain parsed = absurd (omega (arith, (parse_digits numerals {E = ℕ} 64 [] (Ok n) parsed all).0.0))
number_is_parsed (digit ∷ digits) n all plain parsed =
    let is = parse_digits numerals {E = ℕ} 64 (digit ∷ digits) (Ok n) parsed all in
    let small : ltb (digits_value 10 (digit ∷ digits)) (2 ^ 64) ≡ true = grind (arith, nat_tests, is.0.1) in
    rw (plain, small, is.1) refl

pub none_is_parsed : (digits : List ℕ) (error : ℕ) → list_all is_ascii_digit digits ≡ true
    → has_zero_first digits ≡ false → ParsesUnsigned {E = ℕ} 64 10 digits (Err error) → None ≡ number_of digits
none_is_parsed [] error all plain parsed = refl
none_is_parsed (digit ∷ digits) error all plain parsed =
    let is = parse_digits numerals {E = ℕ} 64 (digit ∷ digits) (Err error) parsed all in
    let large : ltb (digits_value 10 (digit ∷ digits)) (2 ^ 64) ≡ false =
    not_below _ _ (λ small. is (omega arith, small)) in
    rw (plain, large) refl
