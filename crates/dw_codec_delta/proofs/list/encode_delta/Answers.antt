use Rattle.std.proofs.Common.{◌≡◌, ◌++◌, ℤ, pos, List, ℕ, Option, None, Some, take, get_or, to_z, of_z, sym, ap, ◌∙◌}
use Rattle.std.specs.Int.{w128}
use Rattle.std.proofs.lemmas.List.Elements.{All-get_or}
use Rattle.dw_codec_plain.specs.Numbers.{FitsWidth}
use Rattle.dw_codec_plain.proofs.Encoding.{encoding_goes_on}
use Rattle.dw_codec_plain.proofs.Items.{last_of}
use Rattle.dw_codec_plain.proofs.Signed.{same_bits}
use Rattle.dw_codec_delta.specs.Delta.{delta_item}
use Rattle.dw_codec_delta.proofs.DeltaItems.{last_of-more}
use Rattle.dw_codec_delta.proofs.list.encode_delta.Goals as goal

pub loop-value-preserved : goal.loop-value-preserved
loop-value-preserved c =
    let value : ℤ = get_or c.args.values.now c.loop-value.value-index (pos 0) in
    let fits : FitsWidth c.args.width value = All-get_or (FitsWidth c.args.width) c.args.values.now c.loop-value.value-index (pos 0) c.loop-value-test.true c.requires.fit in
    let bits : to_z w128 (of_z w128 value) ≡ value = same_bits c.args.width c.requires.width value fits in
    let old : List ℕ = c.loop-value.bytes.items in
    let written : c.push_item.new.out.items ≡ old ++ delta_item c.args.width c.args.step (last_of None (take c.loop-value.value-index c.args.values.now)) value =
    c.in_ok-push_item.ensures.ok ∙ (ap (λ (z : ℤ). old ++ delta_item c.args.width c.args.step c.loop-value.before z) bits
    ∙ ap (λ (o : Option ℤ). old ++ delta_item c.args.width c.args.step o value) c.loop-value.invariant.last) in
    record {
      written = encoding_goes_on (delta_item c.args.width c.args.step) (FitsWidth c.args.width) c.args.values.now c.loop-value.value-index (pos 0) old c.push_item.new.out.items c.loop-value-test.true c.loop-value.invariant.written written;
      last = ap (λ (z : ℤ). Some z) bits ∙ sym (last_of-more c.args.values.now c.loop-value.value-index (pos 0) c.loop-value-test.true);
    }
