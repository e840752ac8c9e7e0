use Rattle.std.proofs.Common.{◌≤◌, length}
use Rattle.dw_codec_runs.proofs.DictionaryEncoding.{IsEncoding}
use Rattle.dw_codec_runs.proofs.dictionary_encode.encode_items.Given as goal

abbrev pub invariant-loop : goal.invariant-loop
invariant-loop l = record {
  encoding : IsEncoding l.shape l.count l.plain l.known l.places.items l.rest l.counter;
  few : length l.known ≤ 256;
}
