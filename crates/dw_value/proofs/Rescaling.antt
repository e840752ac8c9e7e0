-- Numbers at other scales: those that pass 128 bits, those that no kind holds, and those that round to nothing.
use Rattle.std.specs.Prelude.{int_le, nat_le, min}
use Rattle.std.proofs.Common.{◌≡◌, ℕ, suc, ◌+◌, ◌-◌, ◌*◌, ◌/◌, ◌%◌, ◌^◌, ◌<◌, ◌≤◌, Bool, true, false, ◌&&◌, ℤ, pos, negsuc, neg_ℤ, ◌*ℤ◌, ◌≤ℤ◌, ◌<ℤ◌, unsigned_abs, FitsSigned, refl, sym, ap, ◌∙◌, arith, if◌then◌else◌, true≢false}
use Rattle.std.specs.Int.{w128}
use Rattle.std.proofs.Math.Nat.{div-one, mod-one, mod-eq_of_lt, div-eq_of_lt, mul-le-mul_right, mul-div-le}
use Rattle.std.proofs.lemmas.Int.{ints, unsigned_abs-mul, fits_signed_from_abs}
use Rattle.std.proofs.lemmas.Bool.{leb-true, le-leb, ltb-true}
use Rattle.dw_value.specs.declared.kinds.Kind.{Kind}
use Rattle.dw_value.specs.declared.kinds.Kind.TheVariants.{Small, Int, Big, Decimal}
use Rattle.dw_value.specs.Values.{is_within, holds_number}
use Rattle.dw_value.specs.Arithmetic.{raised, nearest, rounded, rescaled}
use Rattle.dw_value.proofs.Powers.{ten_38, ten_39, ten_below}

size_fits : (z : ℤ) → FitsSigned w128 z → unsigned_abs z ≤ 170141183460469231731687303715884105728
size_fits z fits = omega (arith, ints, fits)

some_size : (n : ℤ) → (n ≡ pos 0 → ⊥) → 0 < unsigned_abs n
some_size n some = omega (arith, ints, some)

-- a number with 39 more digits passes 128 bits
pub past : (n : ℤ) (places : ℕ) → (n ≡ pos 0 → ⊥) → 38 < places → FitsSigned w128 (raised places n) → ⊥
past n places some more fits =
    let power : 10 ^ 39 ≤ 10 ^ places = ten_below 39 places (omega arith) in
    let size : unsigned_abs (n *ℤ pos (10 ^ places)) ≡ unsigned_abs n * 10 ^ places = unsigned_abs-mul n (pos (10 ^ places)) in
    let least : 1 * 10 ^ places ≤ unsigned_abs n * 10 ^ places = mul-le-mul_right (10 ^ places) (some_size n some) in
    omega (arith, size_fits (raised places n) fits, power, size, least, ten_39)

pub nearest_one : (n : ℕ) → nearest n 1 ≡ n
nearest_one n = rw (mod-one n, div-one n) refl

nothing_by : (n unit : ℕ) (t : Bool) → nat_le unit (2 * n) ≡ t → 2 * n < unit → (if t then 0 + 1 else 0) ≡ 0
nothing_by n unit true e less = absurd (omega (arith, leb-true unit (2 * n) e))
nothing_by n unit false e less = refl

small_by : (n unit : ℕ) (t : Bool) → n / unit + 1 < 100000000000000000000000000000000000000
    → (if t then n / unit + 1 else n / unit) < 100000000000000000000000000000000000000
small_by n unit true less = less
small_by n unit false less = omega arith

-- less than half a unit rounds to nothing
pub nearest_nothing : (n unit : ℕ) → 2 * n < unit → nearest n unit ≡ 0
nearest_nothing n unit less =
    let below : n < unit = omega arith in
    rw (mod-eq_of_lt below, div-eq_of_lt below) (nothing_by n unit (nat_le unit (2 * n)) refl less)

pub rounded_one : (n : ℤ) → rounded 1 n ≡ n
rounded_one (pos n) = ap pos (nearest_one n)
rounded_one (negsuc n) = ap (λ (k : ℕ). neg_ℤ (pos k)) (nearest_one (suc n))

pub rounded_nothing : (n : ℤ) (unit : ℕ) → 2 * unsigned_abs n < unit → rounded unit n ≡ pos 0
rounded_nothing (pos n) unit less = ap pos (nearest_nothing n unit less)
rounded_nothing (negsuc n) unit less = ap (λ (k : ℕ). neg_ℤ (pos k)) (nearest_nothing (suc n) unit less)

pub rounded_above : (n : ℤ) (unit : ℕ) → pos 0 ≤ℤ n → rounded unit n ≡ pos (nearest (unsigned_abs n) unit)
rounded_above (pos n) unit h = refl
rounded_above (negsuc n) unit h = absurd (omega (arith, ints))

pub rounded_below : (n : ℤ) (unit : ℕ) → n <ℤ pos 0 → rounded unit n ≡ neg_ℤ (pos (nearest (unsigned_abs n) unit))
rounded_below (pos n) unit h = absurd (omega (arith, ints))
rounded_below (negsuc n) unit h = refl

-- in units of ten or more a number of 128 bits has room to spare
pub nearest_small : (n unit : ℕ) → 10 ≤ unit → n ≤ 170141183460469231731687303715884105728 → nearest n unit < 100000000000000000000000000000000000000
nearest_small n unit ten size =
    let tens : 10 * (n / unit) ≤ unit * (n / unit) = mul-le-mul_right (n / unit) ten in
    let within : unit * (n / unit) ≤ n = mul-div-le n unit in
    small_by n unit (nat_le unit (2 * (n % unit))) (omega (arith, tens, within))

and_left : (a b : Bool) → (a && b) ≡ true → a ≡ true
and_left true b e = refl
and_left false b e = absurd (true≢false (sym e))

and_right : (a b : Bool) → (a && b) ≡ true → b ≡ true
and_right true b e = e
and_right false b e = absurd (true≢false (sym e))

within_fits : (greatest : ℕ) (n : ℤ) → greatest < 170141183460469231731687303715884105728 → is_within greatest n ≡ true → FitsSigned w128 n
within_fits greatest n small e =
    let low : int_le (negsuc greatest) n ≡ true = and_left (int_le (negsuc greatest) n) (int_le n (pos greatest)) e in
    let high : int_le n (pos greatest) ≡ true = and_right (int_le (negsuc greatest) n) (int_le n (pos greatest)) e in
    grind (arith, ints)

-- a number that a kind holds fits in 128 bits
pub held_fits : (kind : Kind) (n : ℤ) → holds_number kind n ≡ true → FitsSigned w128 n
held_fits Small n e = within_fits 32767 n (omega arith) e
held_fits Int n e = within_fits 2147483647 n (omega arith) e
held_fits Big n e = within_fits 9223372036854775807 n (omega arith) e
held_fits (Decimal precision scale) n e =
    let few : 10 ^ min precision 38 ≤ 10 ^ 38 = ten_below (min precision 38) 38 (omega arith) in
    fits_signed_from_abs w128 n (omega (arith, ltb-true (unsigned_abs n) (10 ^ min precision 38) e, few, ten_38))
held_fits kind n e = absurd (true≢false (sym e))

not_held_by : (kind : Kind) (n : ℤ) (t : Bool) → holds_number kind n ≡ t → (FitsSigned w128 n → ⊥) → t ≡ false
not_held_by kind n true e past = absurd (past (held_fits kind n e))
not_held_by kind n false e past = refl

-- no kind holds a number that passes 128 bits
pub not_held : (kind : Kind) (n : ℤ) → (FitsSigned w128 n → ⊥) → holds_number kind n ≡ false
not_held kind n past = not_held_by kind n (holds_number kind n) refl past

same_by : (scale : ℕ) (n : ℤ) (t : Bool) → nat_le scale scale ≡ t
    → (if t then raised (scale - scale) n else rounded (10 ^ (scale - scale)) n) ≡ n
same_by scale n true e =
    let none : scale - scale ≡ 0 = omega arith in
    let once : n *ℤ pos 1 ≡ n = omega (arith, ints) in
    ap (λ (k : ℕ). n *ℤ pos (10 ^ k)) none ∙ once
same_by scale n false e = absurd (true≢false (sym (le-leb scale scale (omega arith)) ∙ e))

-- at its own scale a number stays as it is
pub rescaled_same : (scale : ℕ) (n : ℤ) → rescaled scale scale n ≡ n
rescaled_same scale n = same_by scale n (nat_le scale scale) refl

within_small : (greatest : ℕ) (n : ℤ) → greatest < 170141183460469231731687303715884105727 → is_within greatest n ≡ true
    → unsigned_abs n < 170141183460469231731687303715884105728
within_small greatest n small e =
    let low : int_le (negsuc greatest) n ≡ true = and_left (int_le (negsuc greatest) n) (int_le n (pos greatest)) e in
    let high : int_le n (pos greatest) ≡ true = and_right (int_le (negsuc greatest) n) (int_le n (pos greatest)) e in
    grind (arith, ints)

-- the size of a number that a kind holds is below 2^127
pub held_small : (kind : Kind) (n : ℤ) → holds_number kind n ≡ true → unsigned_abs n < 170141183460469231731687303715884105728
held_small Small n e = within_small 32767 n (omega arith) e
held_small Int n e = within_small 2147483647 n (omega arith) e
held_small Big n e = within_small 9223372036854775807 n (omega arith) e
held_small (Decimal precision scale) n e =
    let few : 10 ^ min precision 38 ≤ 10 ^ 38 = ten_below (min precision 38) 38 (omega arith) in
    omega (arith, ltb-true (unsigned_abs n) (10 ^ min precision 38) e, few, ten_38)
held_small kind n e = absurd (true≢false (sym e))
