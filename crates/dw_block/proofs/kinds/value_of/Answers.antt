use Rattle.std.proofs.Common.{◌≡◌, ◌∙◌, sym, ap, subst, ℤ, to_z, of_z, FitsSigned, w32, inl, inr, refl}
use Rattle.std.specs.Int.{w128}
use Rattle.std.proofs.lemmas.Int.{to_z-of_z}
use Rattle.dw_value.specs.declared.values.Value.TheVariants.{Day}
use Rattle.dw_codec_plain.specs.Numbers.{FitsWidth}
use Rattle.dw_codec_plain.proofs.Signed.{same_bits}
use Rattle.dw_value.specs.Encodings.{width}
use Rattle.dw_block.specs.Blocks.{value_of}
use Rattle.dw_block.proofs.Fit.{date_range}
use Rattle.dw_block.proofs.kinds.value_of.Goals as goal

pub overflow_cast-result : goal.overflow_cast-result
overflow_cast-result c =
    let fits : FitsWidth 4 c.args.number = subst (λ k. FitsWidth (width k) c.args.number) c.in-Date.is c.requires in
    let same : to_z w128 (of_z w128 c.args.number) ≡ c.args.number = same_bits 4 (inr (inr (inl refl))) c.args.number fits in
    subst (FitsSigned w32) (sym same) (date_range c.args.number fits)

pub returns-in-Date : goal.returns-in-Date
returns-in-Date c =
    let fits : FitsWidth 4 c.args.number = subst (λ k. FitsWidth (width k) c.args.number) c.in-Date.is c.requires in
    let same : to_z w128 (of_z w128 c.args.number) ≡ c.args.number = same_bits 4 (inr (inr (inl refl))) c.args.number fits in
    ap (λ (n : ℤ). Day (to_z w32 (of_z w32 n))) same ∙ ap Day (to_z-of_z w32 c.args.number (date_range c.args.number fits))
    ∙ ap (λ k. value_of k c.args.number) (sym c.in-Date.is)
