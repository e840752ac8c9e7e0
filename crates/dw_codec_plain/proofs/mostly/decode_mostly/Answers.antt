use Rattle.std.proofs.Common.{◌≡◌, ◌++◌, ◌∷◌, ◌+◌, ◌-ℤ◌, [], ℕ, ℤ, pos, length, take, None, arith, sym, ap, ◌∙◌, refl}
use Rattle.std.proofs.lemmas.Bool.{eqb-false}
use Rattle.std.proofs.lemmas.List.{length_push}
use Rattle.dw_codec_plain.specs.Numbers.{FitsWidth}
use Rattle.dw_codec_plain.specs.Encodings.{short_or_full}
use Rattle.dw_codec_plain.proofs.Items.{last_of}
use Rattle.dw_codec_plain.proofs.Decoding.{decoding_goes_on, decoding_stops, decoding_trails}
use Rattle.dw_codec_plain.proofs.Forms.{width_of_step}
use Rattle.dw_codec_plain.proofs.MostlyItems.{mostly_item, mostly_free, mostly_none, mostly_front, nothing_fits, read_is}
use Rattle.dw_codec_plain.proofs.Signed.{same_bits}
use Rattle.dw_codec_plain.proofs.mostly.decode_mostly.Goals as goal

pub short_or_full_front-front-requires-clause-base : goal.short_or_full_front-front-requires-clause-base
short_or_full_front-front-requires-clause-base c = nothing_fits c.args.width c.requires.width

pub returns-in-None-clause-fault : goal.returns-in-None-clause-fault
returns-in-None-clause-fault c =
    let is = width_of_step c.args.step c.requires.step in
    decoding_stops (mostly_item c.args.width c.args.step) (FitsWidth c.args.width) (mostly_free c.args.width c.args.step c.requires.width is) c.args.bytes.now c.loop.values.items c.loop.rest.now c.args.count
    c.short_or_full_front-front.result _ c.loop.invariant.decoding (omega arith) refl
    (mostly_none c.args.width c.args.step c.requires.width is (last_of None c.loop.values.items) c.loop.rest.now c.in-None.ensures.none)
    (mostly_front c.args.width c.args.step c.requires.width is (last_of None c.loop.values.items) c.loop.rest.now c.short_or_full_front-front.result c.short_or_full_front-front.ensures)

pub loop-preserved : goal.loop-preserved
loop-preserved c =
    let value : ℤ = c.in-Some.value in
    let spells : take c.in-Some.size c.loop.rest.now ≡ short_or_full c.args.width c.args.step (value -ℤ pos 0) value = c.in-Some.ensures.spells in
    let fits : FitsWidth c.args.width value = c.in-Some.ensures.fits in
    let is : c.loop.rest.now ≡ short_or_full c.args.width c.args.step value value ++ c.split_at.result.1.now =
    read_is c.args.width c.args.step c.in-Some.size value c.loop.rest.now c.split_at.result.1.now spells c.split_at.ensures.back in
    let pushed : c.push.new.self.items ≡ c.loop.values.items ++ value ∷ [] =
    c.in_ok-push-in-Some.ensures.items ∙ ap (λ (z : ℤ). c.loop.values.items ++ z ∷ []) (same_bits c.args.width c.requires.width value fits) in
    record {
      decoding = rw pushed (decoding_goes_on (mostly_item c.args.width c.args.step) (FitsWidth c.args.width) c.args.bytes.now c.loop.values.items c.loop.rest.now c.split_at.result.1.now value
          c.loop.invariant.decoding fits is);
      counted = rw pushed (length_push c.loop.values.items value ∙ ap (λ (n : ℕ). n + 1) c.loop.invariant.counted);
    }

pub returns-then-not-is_empty-clause-fault : goal.returns-then-not-is_empty-clause-fault
returns-then-not-is_empty-clause-fault c =
    let is = width_of_step c.args.step c.requires.step in
    let some : length c.loop.rest.now ≡ 0 → ⊥ = eqb-false _ _ (sym c.is_empty.ensures ∙ c.if-not-is_empty.true) in
    decoding_trails (mostly_item c.args.width c.args.step) (FitsWidth c.args.width) (mostly_free c.args.width c.args.step c.requires.width is) c.args.bytes.now c.loop.values.items c.loop.rest.now c.args.count
    _ c.loop.invariant.decoding (omega arith) refl (omega arith)
