-- The values of a kind fit the bytes of their kind.
use Rattle.std.proofs.Common.{◌≡◌, ℕ, ◌^◌, ◌≤◌, ◌<◌, Bool, true, false, ◌&&◌, ℤ, pos, negsuc, Ok, Err, if◌then◌else◌, refl, sym, arith, true≢false, FitsSigned, w32, unsigned_abs}
use Rattle.std.specs.Prelude.{int_le, nat_le, min, ◌≤ℤ◌}
use Rattle.std.proofs.lemmas.Int.{ints}
use Rattle.std.proofs.lemmas.Bool.{leb-true, ltb-true}
use Rattle.dw_value.specs.declared.kinds.Kind.{Kind}
use Rattle.dw_value.specs.declared.kinds.Kind.TheVariants.{Small, Int, Big, Decimal, Char, Varchar, Date, Bool as Boolean}
use Rattle.dw_value.specs.declared.kinds.Misfit.{Misfit}
use Rattle.dw_value.specs.declared.kinds.Misfit.TheVariants.{Range}
use Rattle.dw_value.specs.declared.values.Value.{Value}
use Rattle.dw_value.specs.declared.values.Value.TheVariants.{Number, Day, Truth}
use Rattle.dw_value.specs.Values.{is_within, holds_number}
use Rattle.dw_value.proofs.Powers.{ten_below, ten_38}
use Rattle.dw_codec_plain.specs.Numbers.{half, FitsWidth}
use Rattle.dw_value.specs.Encodings.{width}
use Rattle.dw_block.specs.Blocks.{IsKind, IsValueOf}

-- a test that lets a value through
test_holds : (t : Bool) (v : Value) (m : Misfit) → (if t then Ok v else Err m) ≡ Ok v → t ≡ true
test_holds true v m e = refl
test_holds false v m e = cc

and_left : (a b : Bool) → (a && b) ≡ true → a ≡ true
and_left true b e = refl
and_left false b e = absurd (true≢false (sym e))

and_right : (a b : Bool) → (a && b) ≡ true → b ≡ true
and_right true b e = e
and_right false b e = absurd (true≢false (sym e))

within : (greatest : ℕ) (n : ℤ) → is_within greatest n ≡ true → (negsuc greatest ≤ℤ n) × (n ≤ℤ pos greatest)
within greatest n e =
    let low : int_le (negsuc greatest) n ≡ true = and_left (int_le (negsuc greatest) n) (int_le n (pos greatest)) e in
    let high : int_le n (pos greatest) ≡ true = and_right (int_le (negsuc greatest) n) (int_le n (pos greatest)) e in
    (grind (arith, ints), grind (arith, ints))

small_fits : (n : ℤ) → holds_number Small n ≡ true → FitsWidth 2 n
unfolding half
small_fits n e = let r = within 32767 n e in record { least = omega (arith, ints, r.0); greatest = omega (arith, ints, r.1) }

int_fits : (n : ℤ) → holds_number Int n ≡ true → FitsWidth 4 n
unfolding half
int_fits n e = let r = within 2147483647 n e in record { least = omega (arith, ints, r.0); greatest = omega (arith, ints, r.1) }

big_fits : (n : ℤ) → holds_number Big n ≡ true → FitsWidth 8 n
unfolding half
big_fits n e = let r = within 9223372036854775807 n e in record { least = omega (arith, ints, r.0); greatest = omega (arith, ints, r.1) }

ten_18 : 10 ^ 18 ≡ 1000000000000000000
ten_18 = refl

size_8 : (n : ℤ) → unsigned_abs n < 1000000000000000000 → FitsWidth 8 n
unfolding half
size_8 (pos k) lt = record { least = omega (arith, ints); greatest = omega (arith, ints) }
size_8 (negsuc k) lt = record { least = omega (arith, ints); greatest = omega (arith, ints) }

size_16 : (n : ℤ) → unsigned_abs n < 100000000000000000000000000000000000000 → FitsWidth 16 n
unfolding half
size_16 (pos k) lt = record { least = omega (arith, ints); greatest = omega (arith, ints) }
size_16 (negsuc k) lt = record { least = omega (arith, ints); greatest = omega (arith, ints) }

decimal_by : (precision : ℕ) (n : ℤ) (t : Bool) → nat_le precision 18 ≡ t → precision ≤ 38 → unsigned_abs n < 10 ^ min precision 38 → FitsWidth (if t then 8 else 16) n
decimal_by precision n true e most lt =
    let few : 10 ^ min precision 38 ≤ 10 ^ 18 = ten_below (min precision 38) 18 (omega (arith, leb-true precision 18 e)) in
    size_8 n (omega (arith, few, ten_18))
decimal_by precision n false e most lt =
    let few : 10 ^ min precision 38 ≤ 10 ^ 38 = ten_below (min precision 38) 38 (omega arith) in
    size_16 n (omega (arith, few, ten_38))

pub number_fits : (kind : Kind) (n : ℤ) → IsKind kind → IsValueOf kind (Number n) → FitsWidth (width kind) n
number_fits Small n is of = small_fits n (test_holds (holds_number Small n) (Number n) Range of.held)
number_fits Int n is of = int_fits n (test_holds (holds_number Int n) (Number n) Range of.held)
number_fits Big n is of = big_fits n (test_holds (holds_number Big n) (Number n) Range of.held)
number_fits (Decimal precision scale) n is of =
    decimal_by precision n (nat_le precision 18) refl is
    (ltb-true (unsigned_abs n) (10 ^ min precision 38) (test_holds (holds_number (Decimal precision scale) n) (Number n) Range of.held))
number_fits (Char limit) n is of = absurd (true≢false (sym of.goes))
number_fits (Varchar limit) n is of = absurd (true≢false (sym of.goes))
number_fits Date n is of = absurd (true≢false (sym of.goes))
number_fits Boolean n is of = absurd (true≢false (sym of.goes))

date_fits : (n : ℤ) → FitsSigned w32 n → FitsWidth 4 n
unfolding half
date_fits n fits = record { least = omega (arith, ints, fits); greatest = omega (arith, ints, fits) }

pub day_fits : (kind : Kind) (n : ℤ) → FitsSigned w32 n → IsValueOf kind (Day n) → FitsWidth (width kind) n
day_fits Date n fits of = date_fits n fits
day_fits Small n fits of = absurd (true≢false (sym of.goes))
day_fits Int n fits of = absurd (true≢false (sym of.goes))
day_fits Big n fits of = absurd (true≢false (sym of.goes))
day_fits (Decimal precision scale) n fits of = absurd (true≢false (sym of.goes))
day_fits (Char limit) n fits of = absurd (true≢false (sym of.goes))
day_fits (Varchar limit) n fits of = absurd (true≢false (sym of.goes))
day_fits Boolean n fits of = absurd (true≢false (sym of.goes))

bit_fits : (n : ℕ) → n ≤ 1 → FitsWidth 1 (pos n)
unfolding half
bit_fits n le = record { least = omega (arith, ints); greatest = omega (arith, ints) }

pub truth_fits : (kind : Kind) (b : Bool) (n : ℕ) → n ≤ 1 → IsValueOf kind (Truth b) → FitsWidth (width kind) (pos n)
truth_fits Boolean b n le of = bit_fits n le
truth_fits Small b n le of = absurd (true≢false (sym of.goes))
truth_fits Int b n le of = absurd (true≢false (sym of.goes))
truth_fits Big b n le of = absurd (true≢false (sym of.goes))
truth_fits (Decimal precision scale) b n le of = absurd (true≢false (sym of.goes))
truth_fits (Char limit) b n le of = absurd (true≢false (sym of.goes))
truth_fits (Varchar limit) b n le of = absurd (true≢false (sym of.goes))
truth_fits Date b n le of = absurd (true≢false (sym of.goes))

pub date_range : (n : ℤ) → FitsWidth 4 n → FitsSigned w32 n
unfolding half
date_range n fits = omega (arith, ints, fits.least, fits.greatest)
