use Rattle.std.proofs.Common.{◌≡◌, inl, inr, refl, arith}
use Rattle.dw_value.specs.declared.kinds.Encoding.TheVariants.{Raw, Bytedict, Delta, Delta32k, Mostly8, Mostly16, Mostly32, Runlength}
use Rattle.dw_block.specs.Blocks.{encoded_numbers}
use Rattle.dw_block.proofs.encodings.numbers_have_one_form.Goals as goal

pub returns : goal.returns
returns c = λ encoding width numbers others is few few' fits fits'.
    elim encoding as (λ e. encoded_numbers e width numbers ≡ encoded_numbers e width others → numbers ≡ others) [
      | Raw ↦ c.raw_has_one_form.ensures width numbers others is fits fits'
      | Bytedict ↦ c.bytedict_has_one_form.ensures width numbers others is fits fits'
      | Delta ↦ c.delta_has_one_form.ensures width 1 numbers others is (inl refl) fits fits'
      | Delta32k ↦ c.delta_has_one_form.ensures width 2 numbers others is (inr refl) fits fits'
      | Mostly8 ↦ c.mostly_has_one_form.ensures width 1 numbers others is (inl refl) fits fits'
      | Mostly16 ↦ c.mostly_has_one_form.ensures width 2 numbers others is (inr (inl refl)) fits fits'
      | Mostly32 ↦ c.mostly_has_one_form.ensures width 4 numbers others is (inr (inr refl)) fits fits'
      | Runlength ↦ c.runlength_has_one_form.ensures width numbers others is (omega (arith, few)) (omega (arith, few')) fits fits'
    ]
