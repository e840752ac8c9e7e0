use Rattle.std.proofs.Common.{ℕ, ◌*◌, List, [], ◌∷◌, length, ℤ, pos, ◌+ℤ◌, ◌≤ℤ◌, FitsSigned, arith}
use Rattle.std.specs.Prelude.{All}
use Rattle.std.specs.List.{fold}
use Rattle.std.specs.Int.{w128}
use Rattle.std.proofs.lemmas.Int.{ints}
use Rattle.std.proofs.lemmas.List.Elements.{All-head, All-tail}
use Rattle.dw_value.proofs.laws.sums_of_many_numbers_fit.Goals as goal

-- a sum from a number on, with the bounds that so many numbers of 128 bits give
record IsNear (from : ℤ) (count : ℕ) (sum : ℤ) : Type 0 where
  low : from ≤ℤ (sum +ℤ pos (count * 170141183460469231731687303715884105728))
  high : sum ≤ℤ (from +ℤ pos (count * 170141183460469231731687303715884105727))

near : (from : ℤ) (numbers : List ℤ) → All (FitsSigned w128) numbers → IsNear from (length numbers) (fold ◌+ℤ◌ from numbers)
near from [] each = record { low = omega (arith, ints); high = omega (arith, ints) }
near from (n ∷ numbers) each =
    let fits : FitsSigned w128 n = All-head (FitsSigned w128) n numbers each in
    let rest = near (from +ℤ n) numbers (All-tail (FitsSigned w128) n numbers each) in
    record { low = omega (arith, ints, fits, rest.low); high = omega (arith, ints, fits, rest.high) }

pub returns : goal.returns
returns c = λ numbers each few.
    let is = near (pos 0) numbers each in
    record { least = omega (arith, ints, is.low); greatest = omega (arith, ints, is.high) }
