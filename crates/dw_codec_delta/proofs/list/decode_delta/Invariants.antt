use Rattle.std.proofs.Common.{◌≡◌, length, None}
use Rattle.dw_codec_plain.specs.Numbers.{FitsWidth}
use Rattle.dw_codec_plain.proofs.Decoding.{IsDecoding}
use Rattle.dw_codec_plain.proofs.Items.{last_of}
use Rattle.dw_codec_delta.specs.Delta.{delta_item}
use Rattle.dw_codec_delta.proofs.list.decode_delta.Given as goal

abbrev pub invariant-loop : goal.invariant-loop
invariant-loop l = record {
  decoding : IsDecoding (delta_item l.width l.step) (FitsWidth l.width) l.bytes l.values.items l.rest;
  counted : length l.values.items ≡ l.counter;
  last : l.before ≡ last_of None l.values.items;
}
