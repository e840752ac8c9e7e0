use Rattle.std.proofs.Common.{rules, ◌≡◌, ◌≤◌, take, arith, ap, ◌∙◌, to_z, of_z, ℤ}
use Rattle.std.specs.Int.{w128, cast_unsigned}
use Rattle.std.proofs.lemmas.Int.{to_z-of_z}
use Rattle.dw_codec_plain.specs.Numbers.{number}
use Rattle.dw_codec_plain.proofs.Naturals.{written_is}
use Rattle.dw_codec_plain.proofs.Signed.{sized}
use Rattle.dw_codec_plain.proofs.numbers.push_number.Goals as goal

pub returns : goal.returns
returns c =
    let size = sized c.args.width c.requires.width in
    let most : c.from.result ≤ 16 = omega (arith, size.most) in
    let e : take c.from.result c.to_le_bytes-bytes.result ≡ number c.args.width c.args.value =
    written_is (cast_unsigned w128 (to_z w128 (of_z w128 c.args.value))) c.from.result c.to_le_bytes-bytes.result most c.to_le_bytes-bytes.ensures
    ∙ (ap (λ (z : ℤ). number c.from.result z) (to_z-of_z w128 c.args.value c.ranges.value) ∙ ap (λ w. number w c.args.value) c.from.ensures) in
    record { ok = search (rules, e) }
