-- The values of the blocks so far.
use Rattle.std.proofs.Common.{◌≡◌, take}
use Rattle.dw_slice.specs.Packed.{values_in}
use Rattle.dw_slice.proofs.packed.Packed.rows.Given as goal

abbrev pub invariant-loop-block : goal.invariant-loop-block
invariant-loop-block l = l.columns.items ≡ values_in (take l.block-index l.block-items)
