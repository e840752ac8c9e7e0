-- Numbers of one, two, four, eight or sixteen bytes, in two's complement, least byte first.
-- The layout of the bytes is this project's own.
use Rattle.std.specs.Prelude.{◌≡◌, ℕ, ◌+◌, ◌-◌, ◌*◌, ◌/◌, ◌%◌, ◌^◌, ◌⊎◌, zero, suc, List, [], ◌∷◌, ℤ, pos, neg_ℤ, ◌≤ℤ◌, ◌<ℤ◌}
use Rattle.std.specs.Int.{w128, cast_unsigned}

-- how many bytes a number may take
abbrev pub IsWidth : ℕ → Type 0
IsWidth width = (width ≡ 1) ⊎ (width ≡ 2) ⊎ (width ≡ 4) ⊎ (width ≡ 8) ⊎ (width ≡ 16)

-- half the range of a number of this many bytes
unfoldable pub half : ℕ → ℕ
half width = 2 ^ (8 * width - 1)

-- the value is in the range of a number of this many bytes
pub record FitsWidth (width : ℕ) (value : ℤ) : Type 0 where
  pub least : neg_ℤ (pos (half width)) ≤ℤ value
  pub greatest : value <ℤ pos (half width)

-- the natural number that bytes are, least first
abbrev pub natural_of : List ℕ → ℕ
natural_of [] = 0
natural_of (byte ∷ bytes) = byte + 256 * natural_of bytes

-- the lowest bytes of a natural number, least first
abbrev pub low_bytes : ℕ → ℕ → List ℕ
low_bytes zero n = []
low_bytes (suc count) n = n % 256 ∷ low_bytes count (n / 256)

-- a value in this many bytes: the lowest bytes of its two's complement. So 5 in two bytes is 05 00, and -2 is fe ff.
abbrev pub number : ℕ → ℤ → List ℕ
number width value = low_bytes width (cast_unsigned w128 value)

-- the text is the number, in this many bytes, of some value from low to high
pub record IsNumberWithin (width : ℕ) (low high : ℤ) (text : List ℕ) : Type 0 where
  pub value : ℤ
  pub least : low ≤ℤ value
  pub greatest : value ≤ℤ high
  pub spells : text ≡ number width value
