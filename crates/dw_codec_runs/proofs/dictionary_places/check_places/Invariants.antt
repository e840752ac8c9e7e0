use Rattle.dw_codec_runs.proofs.DictionaryPlaces.{IsReading}
use Rattle.dw_codec_runs.proofs.dictionary_places.check_places.Given as goal

abbrev pub invariant-loop-at : goal.invariant-loop-at
invariant-loop-at l = IsReading l.number l.count l.bytes l.known l.at
