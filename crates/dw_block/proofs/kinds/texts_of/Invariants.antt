-- The texts of the values that the loop has passed are there.
use Rattle.std.proofs.Common.{◌≡◌, ◌≤◌, length, All, take}
use Rattle.dw_block.specs.Blocks.{IsBlockText, texts_of}
use Rattle.dw_block.proofs.kinds.texts_of.Given as goal

abbrev pub invariant-loop-value : goal.invariant-loop-value
invariant-loop-value l = record {
  texts : l.texts.items ≡ texts_of (take l.value-index l.values);
  stored : All IsBlockText l.texts.items;
  few : length l.texts.items ≤ l.value-index;
}
