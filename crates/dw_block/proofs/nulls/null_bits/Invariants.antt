-- The bytes that are there, and those of the values that are left, are the null bits.
use Rattle.std.proofs.Common.{◌≡◌, ◌++◌, ◌-◌, length}
use Rattle.dw_block.specs.Nulls.{null_bytes, null_len}
use Rattle.dw_block.proofs.nulls.null_bits.Given as goal

abbrev pub invariant-loop : goal.invariant-loop
invariant-loop l = null_bytes (null_len (length l.fn.values)) l.fn.values ≡ l.bytes.items ++ null_bytes (null_len (length l.fn.values) - l.counter) l.rest
