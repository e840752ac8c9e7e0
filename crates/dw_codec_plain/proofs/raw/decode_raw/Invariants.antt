use Rattle.std.proofs.Common.{◌≡◌, length}
use Rattle.dw_codec_plain.specs.Numbers.{FitsWidth}
use Rattle.dw_codec_plain.proofs.Decoding.{IsDecoding}
use Rattle.dw_codec_plain.proofs.RawItems.{raw_item}
use Rattle.dw_codec_plain.proofs.raw.decode_raw.Given as goal

abbrev pub invariant-loop : goal.invariant-loop
invariant-loop l = record {
  decoding : IsDecoding (raw_item l.width) (FitsWidth l.width) l.bytes l.values.items l.rest;
  counted : length l.values.items ≡ l.counter;
}
