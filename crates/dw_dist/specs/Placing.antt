-- On which slices a row lies, after the distribution styles of the Amazon Redshift guide. Slices are numbered from 0,
-- those of the first node first. The hash of a text, and what EVEN goes by, are this project's own.
use Rattle.std.specs.Prelude.{ℕ, ◌+◌, ◌*◌, ◌%◌, ◌^◌, ℤ, pos, unsigned_abs, true, false, List, [], ◌∷◌, map}
use Rattle.std.specs.List.{fold, range_with_len}
use Rattle.std.specs.Int.{int_rem_euclid}
use Rattle.dw_value.specs.declared.kinds.Style.{Style}
use Rattle.dw_value.specs.declared.kinds.Style.TheVariants.{Even, Key, All}
use Rattle.dw_value.specs.declared.values.Value.{Value}
use Rattle.dw_value.specs.declared.values.Value.TheVariants.{Number, Words, Day, Truth as Logical, Null}

-- the hash of a text with one more byte
abbrev pub with_byte : ℕ → ℕ → ℕ
with_byte hash byte = (31 * hash + byte) % 2 ^ 32

-- the hash of a text: that of `ab` is 31 times 97, and 98, which is 3105
abbrev pub text_hash : List ℕ → ℕ
text_hash bytes = fold with_byte 0 bytes

-- the remainder of a number, from 0 to slices - 1, also where it is below 0
abbrev pub remainder : ℤ → ℕ → ℕ
remainder number slices = unsigned_abs (int_rem_euclid number (pos slices))

-- the slice of a key's value, of so many in all: a number by its value (a decimal by its coefficient), a day by its
-- number, a truth as 0 or 1, a text by its hash; NULL lies on the first one
abbrev pub key_slice : Value → ℕ → ℕ
key_slice (Number number) slices = remainder number slices
key_slice (Words bytes) slices = text_hash bytes % slices
key_slice (Day day) slices = remainder day slices
key_slice (Logical false) slices = 0 % slices
key_slice (Logical true) slices = 1 % slices
key_slice Null slices = 0

-- the slices of a row with this value in the key's column and this id, in ascending order: EVEN by the id, KEY by the
-- value, ALL on the first slice of each node
abbrev pub slices_of : Style → Value → ℕ → ℕ → ℕ → List ℕ
slices_of Even key id nodes slices = id % (nodes * slices) ∷ []
slices_of (Key column) key id nodes slices = key_slice key (nodes * slices) ∷ []
slices_of All key id nodes slices = map (λ node. node * slices) (range_with_len 0 nodes)
