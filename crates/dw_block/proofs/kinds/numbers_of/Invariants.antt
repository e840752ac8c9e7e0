-- The numbers of the values that the loop has passed are there.
use Rattle.std.proofs.Common.{◌≡◌, ◌≤◌, length, All, take}
use Rattle.dw_codec_plain.specs.Numbers.{FitsWidth}
use Rattle.dw_value.specs.Encodings.{width}
use Rattle.dw_block.specs.Blocks.{numbers_of}
use Rattle.dw_block.proofs.kinds.numbers_of.Given as goal

abbrev pub invariant-loop-value : goal.invariant-loop-value
invariant-loop-value l = record {
  numbers : l.numbers.items ≡ numbers_of (take l.value-index l.values);
  fit : All (FitsWidth (width l.fn.kind)) l.numbers.items;
  few : length l.numbers.items ≤ l.value-index;
}
