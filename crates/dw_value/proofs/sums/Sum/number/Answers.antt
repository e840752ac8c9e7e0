use Rattle.std.proofs.Common.{◌≡◌, ℕ, zero, suc, ◌<◌, ◌^◌, ℤ, pos, negsuc, ◌+ℤ◌, ◌*ℤ◌, FitsSigned, refl, sym, ap, subst, of_z, w64, arith}
use Rattle.std.specs.Int.{w128}
use Rattle.std.proofs.lemmas.Int.{ints}
use Rattle.dw_value.proofs.sums.Sum.number.Goals as goal

far : (high : ℤ) (low : ℕ) → low < 2 ^ 128 → (high ≡ pos 0 → ⊥) → (high ≡ negsuc 0 → ⊥) → FitsSigned w128 ((high *ℤ pos (2 ^ 128)) +ℤ pos low) → ⊥
far (pos zero) low less some other fits = some refl
far (pos (suc high)) low less some other fits = absurd (omega (arith, ints, fits))
far (negsuc zero) low less some other fits = other refl
far (negsuc (suc high)) low less some other fits = absurd (omega (arith, ints, fits))

pub returns-else-high : goal.returns-else-high
returns-else-high c = λ fits.
    far c.self.inside.high c.self.inside.low c.self.invariant
    (λ e. c.if-high-eq0.false (ap (λ (z : ℤ). of_z w64 z) e)) (λ e. c.if-high.false (ap (λ (z : ℤ). of_z w64 z) e))
    (subst (FitsSigned w128) (sym c.self.view_is) fits)
