use Rattle.std.proofs.Common.{◌≡◌, ◌++◌, ℤ, pos, get_or, ap, ◌∙◌}
use Rattle.std.proofs.lemmas.List.Elements.{All-get_or}
use Rattle.dw_codec_plain.specs.Numbers.{FitsWidth, number}
use Rattle.dw_codec_plain.proofs.Encoding.{encoding_goes_on}
use Rattle.dw_codec_plain.proofs.RawItems.{raw_item}
use Rattle.dw_codec_plain.proofs.Signed.{same_bits}
use Rattle.dw_codec_plain.proofs.raw.encode_raw.Goals as goal

pub loop-value-preserved : goal.loop-value-preserved
loop-value-preserved c =
    let value : ℤ = get_or c.args.values.now c.loop-value.value-index (pos 0) in
    let fits : FitsWidth c.args.width value = All-get_or (FitsWidth c.args.width) c.args.values.now c.loop-value.value-index (pos 0) c.loop-value-test.true c.requires.fit in
    let written : c.push_number.new.out.items ≡ c.loop-value.bytes.items ++ number c.args.width value =
    c.in_ok-push_number.ensures.ok ∙ ap (λ (z : ℤ). c.loop-value.bytes.items ++ number c.args.width z) (same_bits c.args.width c.requires.width value fits) in
    encoding_goes_on (raw_item c.args.width) (FitsWidth c.args.width) c.args.values.now c.loop-value.value-index (pos 0) c.loop-value.bytes.items c.push_number.new.out.items c.loop-value-test.true c.loop-value.invariant written
