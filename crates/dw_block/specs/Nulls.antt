-- The null bits of a block: one bit for each value, set where it is NULL. The layout is this project's own.
use Rattle.std.specs.Prelude.{ℕ, zero, suc, ◌+◌, ◌*◌, ◌/◌, ◌%◌, ◌^◌, ◌==◌, Bool, List, [], ◌∷◌, length, take, drop, slice_index, if◌then◌else◌}
use Rattle.dw_value.specs.declared.values.Value.{Value}
use Rattle.dw_value.specs.Values.{is_null}

-- the bits of values as a number, the first value's least
abbrev pub null_number : List Value → ℕ
null_number [] = 0
null_number (value ∷ rest) = (if is_null value then 1 else 0) + 2 * null_number rest

-- so many bytes, each with the bits of the next eight values; the bits of values that aren't there are 0
abbrev pub null_bytes : ℕ → List Value → List ℕ
null_bytes zero values = []
null_bytes (suc count) values = null_number (take 8 values) ∷ null_bytes count (drop 8 values)

-- how many bytes hold the bits of so many values
abbrev pub null_len : ℕ → ℕ
null_len count = (count + 7) / 8

-- the null bits of a block's values
abbrev pub null_bits : List Value → List ℕ
null_bits values = null_bytes (null_len (length values)) values

-- whether the bit at a place is set
abbrev pub bit_at : List ℕ → ℕ → Bool
bit_at bytes place = slice_index bytes (place / 8) / 2 ^ (place % 8) % 2 == 1
