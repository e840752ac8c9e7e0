-- Dates that are read: the test of a date, and the day of one that the calendar has.
use Rattle.std.specs.Prelude.{nat_eq, nat_le, slice_range}
use Rattle.std.proofs.Common.{◌≡◌, ℕ, zero, suc, ◌-◌, ◌/◌, ◌<◌, ◌≤◌, Bool, true, false, ◌&&◌, ℤ, pos, ◌-ℤ◌, List, [], ◌∷◌, ◌++◌, get_or, take, Option, None, Some, refl, sym, ap, ◌∙◌, arith, true≢false, if◌then◌else◌}
use Rattle.std.specs.List.{list_all}
use Rattle.std.proofs.lemmas.Cmp.{nat_list_eq_equiv}
use Rattle.std.proofs.lemmas.Slice.Eq.{bytes_eq-Decides}
use Rattle.std.specs.Cmp.Lexicographic.{pointwise}
use Rattle.std.proofs.lemmas.Bool.{leb-true, le-leb}
use Rattle.std.proofs.lemmas.Int.{ints}
use Rattle.jiff_core.specs.Calendar.{days_from_civil, IsDate as IsJiffDate, IsCivilDate}
use Rattle.jiff_core.proofs.SignedLemmas.{signed_arith}
use Rattle.dw_value.specs.Texts.{number_of}
use Rattle.dw_value.specs.Dates.{two_digits, is_leap, month_lengths, month_length, is_date, date_number, date_form, day_of, day_written, day_in, IsDate, IsDateOf}
use Rattle.dw_value.proofs.Civil.{civil_length, civil_date_from}

pub read_by : (text : List ℕ) (year month day y m d : ℕ) (found : Option ℤ) → year ≡ y → month ≡ m → day ≡ d
    → pointwise nat_eq text (date_form year month day) ≡ true → found ≡ day_of year month day → found ≡ day_written y m d text
read_by text year month day y m d found is_y is_m is_d form is =
    is ∙ ap (λ (t : Bool). if t then day_of year month day else None) (sym form) ∙ (λ i. day_written (is_y i) (is_m i) (is_d i) text)

and_left : (a b : Bool) → (a && b) ≡ true → a ≡ true
and_left true b e = refl
and_left false b e = absurd (true≢false (sym e))

and_right : (a b : Bool) → (a && b) ≡ true → b ≡ true
and_right true b e = e
and_right false b e = absurd (true≢false (sym e))

and_both : (a b : Bool) → a ≡ true → b ≡ true → (a && b) ≡ true
and_both true b e f = f
and_both false b e f = absurd (true≢false (sym e))

between : (low n high : ℕ) → low ≤ n → n ≤ high → (nat_le low n && nat_le n high) ≡ true
between low n high a b = and_both (nat_le low n) (nat_le n high) (le-leb low n a) (le-leb n high b)

pub date_tested : (year month day : ℕ) → IsDate year month day → is_date year month day ≡ true
date_tested year month day is =
    and_both (nat_le 1 year && nat_le year 9999) ((nat_le 1 month && nat_le month 12) && (nat_le 1 day && nat_le day (month_length year month)))
    (between 1 year 9999 is.first_year is.last_year)
    (and_both (nat_le 1 month && nat_le month 12) (nat_le 1 day && nat_le day (month_length year month))
    (between 1 month 12 is.first_month is.last_month) (between 1 day (month_length year month) is.first_day is.last_day))

pub tested_date : (year month day : ℕ) → is_date year month day ≡ true → IsDate year month day
tested_date year month day e =
    let years = and_left (nat_le 1 year && nat_le year 9999) ((nat_le 1 month && nat_le month 12) && (nat_le 1 day && nat_le day (month_length year month))) e in
    let rest = and_right (nat_le 1 year && nat_le year 9999) ((nat_le 1 month && nat_le month 12) && (nat_le 1 day && nat_le day (month_length year month))) e in
    let months = and_left (nat_le 1 month && nat_le month 12) (nat_le 1 day && nat_le day (month_length year month)) rest in
    let days = and_right (nat_le 1 month && nat_le month 12) (nat_le 1 day && nat_le day (month_length year month)) rest in
    record {
      first_year = leb-true 1 year (and_left (nat_le 1 year) (nat_le year 9999) years);
      last_year = leb-true year 9999 (and_right (nat_le 1 year) (nat_le year 9999) years);
      first_month = leb-true 1 month (and_left (nat_le 1 month) (nat_le month 12) months);
      last_month = leb-true month 12 (and_right (nat_le 1 month) (nat_le month 12) months);
      first_day = leb-true 1 day (and_left (nat_le 1 day) (nat_le day (month_length year month)) days);
      last_day = leb-true day (month_length year month) (and_right (nat_le 1 day) (nat_le day (month_length year month)) days);
    }

-- a date of the calendar has its day number
pub day_of_date : (number : ℤ) (year month day : ℕ) → IsDateOf number year month day → day_of year month day ≡ Some number
day_of_date number year month day is =
    let counted : pos (date_number year month day) -ℤ pos (date_number 1970 1 1) ≡ number = omega (arith, ints, is.counted) in
    ap (λ (t : Bool). if t then Some (pos (date_number year month day) -ℤ pos (date_number 1970 1 1)) else None) (date_tested year month day is.in_calendar)
    ∙ ap Some counted

-- a date of jiff from the year 1 on
pub day_of_civil : (year month day : ℕ) → 0 < year → IsCivilDate (pos year) month day → day_of year month day ≡ Some (days_from_civil (pos year) month day)
day_of_civil zero month day some is = absurd (omega arith)
day_of_civil (suc k) month day some is = day_of_date (days_from_civil (pos (suc k)) month day) (suc k) month day (civil_date_from k month day is)

pub day_of_jiff : (y : ℤ) (m d year month day : ℕ) (number : ℤ) → y ≡ pos year → m ≡ month → d ≡ day → 0 < year → IsCivilDate y m d
    → number ≡ days_from_civil y m d → Some number ≡ day_of year month day
day_of_jiff y m d year month day number is_y is_m is_d some is counted =
    let civil : IsCivilDate (pos year) month day = rw is_y at (rw is_m at (rw is_d at is)) in
    ap Some (counted ∙ (λ i. days_from_civil (is_y i) (is_m i) (is_d i))) ∙ sym (day_of_civil year month day some civil)

none_by : (year month day : ℕ) (t : Bool) → is_date year month day ≡ t → (IsJiffDate (pos year) (pos month) (pos day) → ⊥)
    → (if t then Some (pos (date_number year month day) -ℤ pos (date_number 1970 1 1)) else None) ≡ None
none_by year month day true e none =
    let is = tested_date year month day e in
    let length = civil_length year month is.first_month is.last_month in
    absurd (none (
      (omega (arith, signed_arith, is.first_year), omega (arith, signed_arith, is.last_year)),
      (omega (arith, signed_arith, is.first_month), omega (arith, signed_arith, is.last_month)),
      (omega (arith, signed_arith, is.first_day), omega (arith, signed_arith, is.last_day, length)),
    ))
none_by year month day false e none = refl

-- a date that jiff doesn't have
pub none_of_jiff : (y m d : ℤ) (year month day : ℕ) → y ≡ pos year → m ≡ pos month → d ≡ pos day → (IsJiffDate y m d → ⊥) → None ≡ day_of year month day
none_of_jiff y m d year month day is_y is_m is_d none =
    let none_there : IsJiffDate (pos year) (pos month) (pos day) → ⊥ = rw is_y at (rw is_m at (rw is_d at none)) in
    sym (none_by year month day (is_date year month day) refl none_there)

four_digits : (year : ℕ) → year ≤ 9999 → number_of (two_digits (year / 100) ++ two_digits year) ≡ year
four_digits year most = omega arith

two_of : (n : ℕ) → n ≤ 99 → number_of (two_digits n) ≡ n
two_of n most = omega arith

most_at : (lengths : List ℕ) (place : ℕ) → list_all (λ x. nat_le x 31) lengths ≡ true → get_or lengths place 0 ≤ 31
most_at [] place e = omega arith
most_at (length ∷ lengths) zero e = leb-true length 31 (and_left (nat_le length 31) (list_all (λ x. nat_le x 31) lengths) e)
most_at (length ∷ lengths) (suc place) e = most_at lengths place (and_right (nat_le length 31) (list_all (λ x. nat_le x 31) lengths) e)

most_by : (leap : Bool) (place : ℕ) → get_or (month_lengths leap) place 0 ≤ 31
most_by true place = most_at (month_lengths true) place refl
most_by false place = most_at (month_lengths false) place refl

month_most : (year month : ℕ) → month_length year month ≤ 31
month_most year month = most_by (is_leap year) (month - 1)

-- the form of a date reads as this date
form_read : (year month day : ℕ) → IsDate year month day → day_in (date_form year month day) ≡ day_of year month day
form_read year month day is =
    let months : month ≤ 99 = omega (arith, is.last_month) in
    let days : day ≤ 99 = omega (arith, is.last_day, month_most year month) in
    sym (read_by (date_form year month day) year month day _ _ _ (day_of year month day)
    (sym (four_digits year is.last_year)) (sym (two_of month months)) (sym (two_of day days))
    (nat_list_eq_equiv.refl (date_form year month day)) refl)

pub date_read : (number : ℤ) (year month day : ℕ) → IsDateOf number year month day → day_in (date_form year month day) ≡ Some number
date_read number year month day is = form_read year month day is.in_calendar ∙ day_of_date number year month day is

day_by : (number : ℤ) (text : List ℕ) (year month day : ℕ) (t : Bool) → is_date year month day ≡ t → text ≡ date_form year month day
    → (if t then Some (pos (date_number year month day) -ℤ pos (date_number 1970 1 1)) else None) ≡ Some number
    → (year : ℕ) × (month : ℕ) × (day : ℕ) × IsDateOf number year month day × (text ≡ date_form year month day)
day_by number text year month day false e form is = absurd (cc)
day_by number text year month day true e form is =
    let number_is : pos (date_number year month day) -ℤ pos (date_number 1970 1 1) ≡ number = cc in
    (year, month, day, record { in_calendar = tested_date year month day e; counted = omega (arith, ints, number_is) }, form)

form_by : (number : ℤ) (text : List ℕ) (year month day : ℕ) (t : Bool) → pointwise nat_eq text (date_form year month day) ≡ t
    → (if t then day_of year month day else None) ≡ Some number
    → (year : ℕ) × (month : ℕ) × (day : ℕ) × IsDateOf number year month day × (text ≡ date_form year month day)
form_by number text year month day false e is = absurd (cc)
form_by number text year month day true e is =
    day_by number text year month day (is_date year month day) refl ((bytes_eq-Decides text (date_form year month day)).0 e) is

-- only the form of a date reads as a day, which is this date's
pub read_date_only : (number : ℤ) (text : List ℕ) → day_in text ≡ Some number
    → (year : ℕ) × (month : ℕ) × (day : ℕ) × IsDateOf number year month day × (text ≡ date_form year month day)
read_date_only number text is =
    form_by number text (number_of (take 4 text)) (number_of (slice_range text 5 7)) (number_of (slice_range text 8 10))
    (pointwise nat_eq text (date_form (number_of (take 4 text)) (number_of (slice_range text 5 7)) (number_of (slice_range text 8 10)))) refl is
