use Rattle.std.proofs.Common.{◌+◌, ◌++◌, ℕ, List, drop, sym, ap, ◌∙◌, subst, arith, length-drop}
use Rattle.std.specs.List.{concat}
use Rattle.dw_codec_plain.specs.Numbers.{low_bytes}
use Rattle.dw_codec_runs.specs.DictionaryParts.{HasPlaces, IsBroken}
use Rattle.dw_codec_runs.proofs.DictionaryDecoding.{places_within, short_unpacked, places_damaged}
use Rattle.dw_codec_runs.proofs.dictionary_decode.decode_short.Goals as goal

pub write_items-requires : goal.write_items-requires
write_items-requires c =
    places_within c.args.shape c.requires.shape c.args.count c.args.bytes.now c.args.number c.requires.head c.in-Ok.read.0 c.split_at.result.1.now
    c.in-Ok.ensures.counted c.in-Ok.ensures.new c.in-Ok.ensures.each c.in-Ok-check_places.ensures.ok

pub returns-in-Ok-check_places-clause-plain : goal.returns-in-Ok-check_places-clause-plain
returns-in-Ok-check_places-clause-plain c =
    short_unpacked c.args.shape c.requires.shape c.args.count c.args.bytes.now c.args.number c.requires.head c.in-Ok.read.0 c.split_at.result.1.now c.in_ok-write_items-in-Ok-check_places.field-0.items
    c.in-Ok.ensures.counted c.in-Ok.ensures.new c.in-Ok.ensures.each c.in-Ok-check_places.ensures.ok
    (c.in-Ok.ensures.spells ∙ ap (λ (t : List ℕ). low_bytes 2 c.args.number ++ (concat c.in-Ok.read.0 ++ t)) (sym c.split_at.ensures.back))
    c.in_ok-write_items-in-Ok-check_places.ensures

pub returns-clause-fault : goal.returns-clause-fault
returns-clause-fault c =
    let broken : IsBroken (HasPlaces c.args.number 0 c.args.count) (drop c.in-Ok.read.1 c.args.bytes.now) c.in-Err-check_places.place =
    subst (λ t. IsBroken (HasPlaces c.args.number 0 c.args.count) t c.in-Err-check_places.place) c.split_at.ensures.back c.in-Err-check_places.ensures.broken in
    places_damaged c.args.shape c.requires.shape c.args.count c.args.bytes.now c.args.number c.requires.head (drop c.in-Ok.read.1 c.args.bytes.now) c.in-Err-check_places.place
    (c.in-Ok.read.1 + c.in-Err-check_places.place) c.in-Ok.ensures.follows (omega (arith, c.in-Ok.ensures.within, length-drop c.in-Ok.read.1 c.args.bytes.now)) broken
