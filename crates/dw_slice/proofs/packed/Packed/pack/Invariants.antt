-- The blocks of the columns so far.
use Rattle.std.proofs.Common.{◌≡◌, length}
use Rattle.dw_slice.proofs.Packing.{ArePacked}
use Rattle.dw_slice.proofs.packed.Packed.pack.Given as goal

abbrev pub invariant-loop-place : goal.invariant-loop-place
invariant-loop-place l = record {
  packed : ArePacked l.columns l.rows l.blocks.items;
  at : length l.blocks.items ≡ l.place;
}
