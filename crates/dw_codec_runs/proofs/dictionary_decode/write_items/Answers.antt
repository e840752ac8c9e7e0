use Rattle.std.proofs.Common.{◌++◌, ℕ, List, [], get_or, ap, ◌∙◌}
use Rattle.dw_codec_runs.proofs.DictionaryDecoding.{written_more}
use Rattle.dw_codec_runs.proofs.dictionary_decode.write_items.Goals as goal

pub loop-place-preserved : goal.loop-place-preserved
loop-place-preserved c =
    written_more c.args.known.now c.args.places.now c.loop-place.place-index c.loop-place.plain.items c.extend_from_slice.new.self.items c.loop-place-test.true c.loop-place.invariant
    (c.in_ok-extend_from_slice.ensures.items ∙ ap (λ (t : List ℕ). c.loop-place.plain.items ++ t) (c.get.ensures ∙ ap (λ (p : ℕ). get_or c.args.known.now p []) c.from.ensures))
