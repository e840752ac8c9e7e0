use Rattle.std.proofs.Common.{◌≡◌, ◌++◌, ◌∷◌, ◌+◌, ◌<◌, ◌≤◌, ℤ, [], ℕ, List, length, take, drop, None, arith, sym, ap, ◌∙◌, refl}
use Rattle.std.proofs.lemmas.Bool.{eqb-false}
use Rattle.std.proofs.lemmas.List.{take-append-drop, length_push}
use Rattle.dw_codec_plain.specs.Numbers.{FitsWidth, number}
use Rattle.dw_codec_plain.proofs.Items.{last_of}
use Rattle.dw_codec_plain.proofs.Decoding.{decoding_goes_on, decoding_stops, decoding_trails, decoding_within, decoding_bytes}
use Rattle.dw_codec_plain.proofs.Naturals.{AreBytes}
use Rattle.dw_codec_plain.proofs.Signed.{same_bits}
use Rattle.dw_codec_plain.proofs.RawItems.{raw_item, raw_free, raw_none, raw_front}
use Rattle.dw_codec_plain.proofs.raw.decode_raw.Goals as goal

pub returns-then-rest-from-clause-fault : goal.returns-then-rest-from-clause-fault
returns-then-rest-from-clause-fault c =
    let short : length c.loop.rest.now < c.args.width = omega arith in
    let within : length c.loop.rest.now ≤ length c.args.bytes.now = decoding_within (raw_item c.args.width) (FitsWidth c.args.width) c.args.bytes.now c.loop.values.items c.loop.rest.now c.loop.invariant.decoding in
    let are : AreBytes c.loop.rest.now = decoding_bytes (raw_item c.args.width) (FitsWidth c.args.width) c.args.bytes.now c.loop.values.items c.loop.rest.now c.loop.invariant.decoding (λ i. omega (arith, c.type_inv.bytes i)) in
    decoding_stops (raw_item c.args.width) (FitsWidth c.args.width) (raw_free c.args.width c.requires.width) c.args.bytes.now c.loop.values.items c.loop.rest.now c.args.count
    (length c.loop.rest.now) (length c.args.bytes.now) c.loop.invariant.decoding (omega arith) (omega arith)
    (raw_none c.args.width c.requires.width (last_of None c.loop.values.items) c.loop.rest.now short)
    (raw_front c.args.width c.requires.width (last_of None c.loop.values.items) c.loop.rest.now are short)

pub loop-preserved : goal.loop-preserved
loop-preserved c =
    let front : number c.args.width c.number_at.result ≡ take c.args.width c.loop.rest.now = c.number_at.ensures.spells in
    let whole : c.loop.rest.now ≡ number c.args.width c.number_at.result ++ drop c.args.width c.loop.rest.now =
    sym (take-append-drop c.args.width c.loop.rest.now) ∙ ap (λ (t : List ℕ). t ++ drop c.args.width c.loop.rest.now) (sym front) in
    let after : c.split_at.result.1.now ≡ drop c.args.width c.loop.rest.now = c.split_at.ensures.back ∙ ap (λ (k : ℕ). drop k c.loop.rest.now) c.from-in-loop.ensures in
    let is : c.loop.rest.now ≡ number c.args.width c.number_at.result ++ c.split_at.result.1.now = whole ∙ ap (λ (t : List ℕ). number c.args.width c.number_at.result ++ t) (sym after) in
    let pushed : c.push.new.self.items ≡ c.loop.values.items ++ c.number_at.result ∷ [] =
    c.in_ok-push.ensures.items ∙ ap (λ (z : ℤ). c.loop.values.items ++ z ∷ []) (same_bits c.args.width c.requires.width c.number_at.result c.number_at.ensures.fits) in
    record {
      decoding = rw pushed (decoding_goes_on (raw_item c.args.width) (FitsWidth c.args.width) c.args.bytes.now c.loop.values.items c.loop.rest.now c.split_at.result.1.now c.number_at.result
          c.loop.invariant.decoding c.number_at.ensures.fits is);
      counted = rw pushed (length_push c.loop.values.items c.number_at.result ∙ ap (λ (n : ℕ). n + 1) c.loop.invariant.counted);
    }

pub returns-then-not-is_empty-clause-fault : goal.returns-then-not-is_empty-clause-fault
returns-then-not-is_empty-clause-fault c =
    let some : length c.loop.rest.now ≡ 0 → ⊥ = eqb-false _ _ (sym c.is_empty.ensures ∙ c.if-not-is_empty.true) in
    decoding_trails (raw_item c.args.width) (FitsWidth c.args.width) (raw_free c.args.width c.requires.width) c.args.bytes.now c.loop.values.items c.loop.rest.now c.args.count
    _ c.loop.invariant.decoding (omega arith) refl (omega arith)
