use Rattle.dw_codec_runs.specs.DictionaryParts.{IsShape}
use Rattle.dw_codec_runs.proofs.DictionaryDecoding.{IsPassing}
use Rattle.dw_codec_runs.proofs.dictionary_decode.decode_long.Given as goal

abbrev pub invariant-loop-at : goal.invariant-loop-at
invariant-loop-at l = (is : IsShape l.shape) × IsPassing l.shape is l.count l.bytes l.known l.rest l.at
