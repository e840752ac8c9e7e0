use Rattle.std.proofs.Common.{◌≡◌, ◌++◌, ℤ, pos, ◌-ℤ◌, List, ℕ, get_or, ap, ◌∙◌}
use Rattle.std.proofs.lemmas.List.Elements.{All-get_or}
use Rattle.dw_codec_plain.specs.Numbers.{FitsWidth}
use Rattle.dw_codec_plain.specs.Encodings.{short_or_full}
use Rattle.dw_codec_plain.proofs.Encoding.{encoding_goes_on}
use Rattle.dw_codec_plain.proofs.MostlyItems.{mostly_item, near_nothing}
use Rattle.dw_codec_plain.proofs.Signed.{same_bits}
use Rattle.dw_codec_plain.proofs.mostly.encode_mostly.Goals as goal

pub loop-value-preserved : goal.loop-value-preserved
loop-value-preserved c =
    let value : ℤ = get_or c.args.values.now c.loop-value.value-index (pos 0) in
    let fits : FitsWidth c.args.width value = All-get_or (FitsWidth c.args.width) c.args.values.now c.loop-value.value-index (pos 0) c.loop-value-test.true c.requires.fit in
    let old : List ℕ = c.loop-value.bytes.items in
    let written : c.push_short_or_full.new.out.items ≡ old ++ short_or_full c.args.width c.args.step value value =
    c.in_ok-push_short_or_full.ensures.ok ∙ (ap (λ (z : ℤ). old ++ short_or_full c.args.width c.args.step (z -ℤ pos 0) z) (same_bits c.args.width c.requires.width value fits)
    ∙ ap (λ (t : List ℕ). old ++ t) (near_nothing c.args.width c.args.step value)) in
    encoding_goes_on (mostly_item c.args.width c.args.step) (FitsWidth c.args.width) c.args.values.now c.loop-value.value-index (pos 0) old c.push_short_or_full.new.out.items c.loop-value-test.true c.loop-value.invariant written
