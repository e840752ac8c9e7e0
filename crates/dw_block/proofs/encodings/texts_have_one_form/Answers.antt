use Rattle.std.proofs.Common.{◌≡◌, arith}
use Rattle.dw_value.specs.declared.kinds.Encoding.TheVariants.{Raw, Bytedict, Delta, Delta32k, Mostly8, Mostly16, Mostly32, Runlength}
use Rattle.dw_block.specs.Blocks.{encoded_texts}
use Rattle.dw_block.proofs.encodings.texts_have_one_form.Goals as goal

pub returns : goal.returns
returns c = λ encoding texts others few few' fits fits'.
    elim encoding as (λ e. encoded_texts e texts ≡ encoded_texts e others → texts ≡ others) [
      | Raw ↦ c.raw_texts_have_one_form.ensures texts others fits fits'
      | Bytedict ↦ c.bytedict_texts_have_one_form.ensures texts others fits fits'
      | Delta ↦ c.raw_texts_have_one_form.ensures texts others fits fits'
      | Delta32k ↦ c.raw_texts_have_one_form.ensures texts others fits fits'
      | Mostly8 ↦ c.raw_texts_have_one_form.ensures texts others fits fits'
      | Mostly16 ↦ c.raw_texts_have_one_form.ensures texts others fits fits'
      | Mostly32 ↦ c.raw_texts_have_one_form.ensures texts others fits fits'
      | Runlength ↦ c.runlength_texts_have_one_form.ensures texts others (omega (arith, few)) (omega (arith, few')) fits fits'
    ]
