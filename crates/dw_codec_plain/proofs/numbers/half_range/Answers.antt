use Rattle.std.proofs.Common.{◌≡◌, ℕ, ◌*◌, ◌-◌, ◌^◌, ◌%◌, arith, ap, ◌∙◌}
use Rattle.dw_codec_plain.specs.Numbers.{half}
use Rattle.dw_codec_plain.proofs.Signed.{half_shifted, sized}
use Rattle.dw_codec_plain.proofs.numbers.half_range.Goals as goal

pub returns : goal.returns
returns c =
    let size = sized c.args.width c.requires in
    let e : 1 * 2 ^ (8 * c.from.result - 1) % 2 ^ 128 ≡ half c.args.width =
    ap (λ (w : ℕ). 1 * 2 ^ (8 * w - 1) % 2 ^ 128) c.from.ensures ∙ half_shifted c.args.width c.requires in
    record { value = e; least = omega (arith, size.full); greatest = omega (arith, size.room) }
