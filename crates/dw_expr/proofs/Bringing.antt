-- A number that is brought to a kind with fewer digits after the point.
use Rattle.std.proofs.Common.{◌≡◌, ℕ, ◌-◌, ◌<◌, ℤ, refl, arith}
use Rattle.std.proofs.lemmas.Int.{ints}
use Rattle.dw_value.specs.Arithmetic.{raised}

raised_none : (n : ℤ) → raised 0 n ≡ n
raised_none n = omega (arith, ints)

-- its digits stay as they are
pub raised_less : (to from : ℕ) (n : ℤ) → to < from → n ≡ raised (to - from) n
raised_less to from n less =
    let e : to - from ≡ 0 = omega (arith, less) in
    rw (e, raised_none n) refl
