-- The bits of the values that the loop has passed are set.
use Rattle.std.proofs.Common.{◌≡◌, ◌<◌, ◌^◌, take}
use Rattle.dw_block.specs.Nulls.{null_number}
use Rattle.dw_block.proofs.nulls.null_byte.Given as goal

abbrev pub invariant-loop-value : goal.invariant-loop-value
invariant-loop-value l = record {
  bits : l.byte ≡ null_number (take l.value-index l.values);
  weight : l.weight ≡ 2 ^ l.value-index;
  below : l.byte < l.weight;
}
