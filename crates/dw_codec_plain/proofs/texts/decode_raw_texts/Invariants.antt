use Rattle.std.proofs.Common.{◌≡◌, length}
use Rattle.dw_codec_plain.specs.Encodings.{IsText, raw_text_item}
use Rattle.dw_codec_plain.proofs.Decoding.{IsDecoding}
use Rattle.dw_codec_plain.proofs.texts.decode_raw_texts.Given as goal

abbrev pub invariant-loop : goal.invariant-loop
invariant-loop l = record {
  decoding : IsDecoding raw_text_item IsText l.bytes l.values.items l.rest;
  counted : length l.values.items ≡ l.counter;
}
