-- What is out of range, and sums whose parts are in range or aren't.
use Rattle.std.specs.Prelude.{◌==◌, int_div, unsigned_abs}
use Rattle.std.proofs.Common.{◌≡◌, ◌∙◌, ℕ, Bool, true, false, ℤ, pos, negsuc, Ok, Err, FitsSigned, refl, sym, ap, arith, if◌then◌else◌}
use Rattle.std.specs.Int.{w128, CanDivide, IsNonZero, cast_unsigned}
use Rattle.std.proofs.lemmas.Bool.{eqb-true}
use Rattle.dw_value.specs.declared.kinds.Kind.{Kind}
use Rattle.dw_value.specs.declared.kinds.Fault.TheVariants.{Range, Zero}
use Rattle.dw_value.specs.Arithmetic.{in_range, unless_zero}
use Rattle.dw_value.proofs.Rescaling.{not_held}

-- what passes 128 bits is out of every range
pub out_of_range : (kind : Kind) (n : ℤ) → (FitsSigned w128 n → ⊥) → Err Range ≡ in_range kind n
out_of_range kind n past = ap (λ (t : Bool). if t then Ok n else Err Range) (sym (not_held kind n past))

size_zero : (n : ℤ) → unsigned_abs n ≡ 0 → cast_unsigned w128 n ≡ 0
size_zero (pos n) e = e
size_zero (negsuc n) e = absurd (omega arith)

zero_tested : (n : ℕ) (t : Bool) → (n == 0) ≡ t → (n ≡ 0 → ⊥) → t ≡ false
zero_tested n true e some = absurd (some (eqb-true n 0 e))
zero_tested n false e some = refl

-- a quotient that passes 128 bits is out of range
pub quotient_out_of_range : (kind : Kind) (a b : ℤ) → (cast_unsigned w128 b ≡ 0 → ⊥) → (CanDivide w128 a b → ⊥)
    → Err Range ≡ unless_zero b (in_range kind (int_div a b))
quotient_out_of_range kind a b some past =
    let tested : (unsigned_abs b == 0) ≡ false = zero_tested (unsigned_abs b) (unsigned_abs b == 0) refl (λ e. some (size_zero b e)) in
    let nonzero : IsNonZero w128 b = omega (arith, some) in
    out_of_range kind (int_div a b) (λ fits. past (nonzero, fits))
    ∙ ap (λ (t : Bool). if t then Err Zero else in_range kind (int_div a b)) (sym tested)
