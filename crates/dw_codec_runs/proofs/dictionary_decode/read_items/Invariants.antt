use Rattle.dw_codec_runs.specs.DictionaryParts.{IsShape}
use Rattle.dw_codec_runs.proofs.DictionaryDecoding.{IsKnowing}
use Rattle.dw_codec_runs.proofs.dictionary_decode.read_items.Given as goal

abbrev pub invariant-loop : goal.invariant-loop
invariant-loop l = (is : IsShape l.shape) × IsKnowing l.shape is l.count l.bytes l.number l.known l.rest l.counter
