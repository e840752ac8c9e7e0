-- Exact sums of numbers of 128 bits. A sum may pass 128 bits and come back.
use Rattle.std.specs.Prelude.{◌^◌, ℤ, pos, neg_ℤ, ◌+ℤ◌, ◌≤ℤ◌, ◌<ℤ◌, List}
use Rattle.std.specs.List.{fold}

-- a number of 192 bits, as the sum of 2^64 numbers of 128 bits is
pub record IsSum (n : ℤ) : Type 0 where
  pub least : neg_ℤ (pos (2 ^ 191)) ≤ℤ n
  pub greatest : n <ℤ pos (2 ^ 191)

-- the sum of numbers
abbrev pub sum_of : List ℤ → ℤ
sum_of numbers = fold ◌+ℤ◌ (pos 0) numbers
