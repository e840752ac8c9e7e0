-- Rounding gives the nearest number of units, of two as near the one farther from zero.
use Rattle.std.specs.Prelude.{nat_le}
use Rattle.std.proofs.Common.{◌≡◌, ℕ, suc, ◌+◌, ◌-◌, ◌*◌, ◌/◌, ◌%◌, ◌<◌, ◌≤◌, Bool, true, false, ℤ, pos, negsuc, neg_ℤ, ◌-ℤ◌, ◌*ℤ◌, unsigned_abs, refl, sym, ap, ◌∙◌, subst, arith, if◌then◌else◌}
use Rattle.std.proofs.Math.Nat.{mod-lt, add-mul}
use Rattle.std.proofs.lemmas.Bool.{leb-true, leb-false}
use Rattle.std.proofs.lemmas.Int.{ints}
use Rattle.std.proofs.lemmas.Nat.{div-add-mod'}
use Rattle.dw_value.specs.Arithmetic.{nearest, rounded, IsRounded}
use Rattle.dw_value.proofs.Scales.{minus_times}

-- so many units are less than half a unit below a size, or at most half a unit above it
record IsNearest (n unit r : ℕ) : Type 0 where
  below : 2 * (n - r * unit) < unit
  above : 2 * (r * unit - n) ≤ unit

nearest_by : (n unit q m : ℕ) (t : Bool) → nat_le unit (2 * m) ≡ t → q * unit + m ≡ n → m < unit → IsNearest n unit (if t then q + 1 else q)
nearest_by n unit q m true e is less =
    let half : unit ≤ 2 * m = leb-true unit (2 * m) e in
    let next : (q + 1) * unit ≡ q * unit + unit = add-mul q 1 unit ∙ omega arith in
    record { below = omega (arith, half, is, next, less); above = omega (arith, half, is, next, less) }
nearest_by n unit q m false e is less =
    let half : 2 * m < unit = leb-false unit (2 * m) e in
    record { below = omega (arith, half, is); above = omega (arith, half, is) }

nearest_is : (n unit : ℕ) → 0 < unit → IsNearest n unit (nearest n unit)
nearest_is n unit some = nearest_by n unit (n / unit) (n % unit) (nat_le unit (2 * (n % unit))) refl (div-add-mod' n unit) (mod-lt n some)

apart : (n m : ℕ) → unsigned_abs (pos n -ℤ pos m) ≡ (n - m) + (m - n)
apart n m = omega (arith, ints)

apart_below : (n m : ℕ) → unsigned_abs (neg_ℤ (pos n) -ℤ neg_ℤ (pos m)) ≡ (n - m) + (m - n)
apart_below n m = omega (arith, ints)

size_below : (n : ℕ) → unsigned_abs (neg_ℤ (pos n)) ≡ n
size_below n = omega (arith, ints)

upward : (n unit r : ℕ) → IsNearest n unit r → IsRounded unit (pos n) (pos r)
upward n unit r is =
    let gap : unsigned_abs (pos n -ℤ (pos r *ℤ pos unit)) ≡ (n - r * unit) + (r * unit - n) = apart n (r * unit) in
    record { near = omega (arith, gap, is.below, is.above); half = λ e. omega (arith, e, gap, is.below, is.above) }

downward : (n unit r : ℕ) → IsNearest n unit r → IsRounded unit (neg_ℤ (pos n)) (neg_ℤ (pos r))
downward n unit r is =
    let gap : unsigned_abs (neg_ℤ (pos n) -ℤ (neg_ℤ (pos r) *ℤ pos unit)) ≡ (n - r * unit) + (r * unit - n) =
    ap (λ (z : ℤ). unsigned_abs (neg_ℤ (pos n) -ℤ z)) (minus_times r unit) ∙ apart_below n (r * unit) in
    record {
      near = omega (arith, gap, is.below, is.above);
      half = λ e.
          let farther : n < r * unit = omega (arith, e, gap, is.below, is.above) in
          subst (λ (k : ℕ). k < unsigned_abs (neg_ℤ (pos r)) * unit) (sym (size_below n))
          (subst (λ (k : ℕ). n < k * unit) (sym (size_below r)) farther);
    }

-- rounding is to the nearest
pub IsRounded-rounded : (unit : ℕ) (n : ℤ) → 0 < unit → IsRounded unit n (rounded unit n)
IsRounded-rounded unit (pos n) some = upward n unit (nearest n unit) (nearest_is n unit some)
IsRounded-rounded unit (negsuc n) some = downward (suc n) unit (nearest (suc n) unit) (nearest_is (suc n) unit some)
