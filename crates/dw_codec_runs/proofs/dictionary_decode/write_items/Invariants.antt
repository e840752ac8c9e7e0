use Rattle.std.proofs.Common.{◌≡◌, take}
use Rattle.std.specs.List.{concat}
use Rattle.dw_codec_runs.specs.DictionaryParts.{items_at}
use Rattle.dw_codec_runs.proofs.dictionary_decode.write_items.Given as goal

abbrev pub invariant-loop-place : goal.invariant-loop-place
invariant-loop-place l = l.plain.items ≡ concat (items_at l.known (take l.place-index l.places))
