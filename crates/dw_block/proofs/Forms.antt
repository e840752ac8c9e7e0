-- Numbers and texts with one encoding are equal.
use Rattle.std.specs.Prelude.{All}
use Rattle.std.proofs.Common.{◌≡◌, ◌≤◌, ℕ, ℤ, List, length, None, refl, inl, inr, arith, Bool, true, false, if◌then◌else◌}
use Rattle.dw_value.specs.declared.kinds.Encoding.{Encoding}
use Rattle.dw_value.specs.declared.kinds.Encoding.TheVariants.{Raw, Bytedict, Delta, Delta32k, Mostly8, Mostly16, Mostly32, Runlength}
use Rattle.dw_codec_plain.specs.Numbers.{IsWidth, FitsWidth, number}
use Rattle.dw_codec_plain.specs.Encodings.{raw, mostly, raw_text, raw_texts, raw_text_item, IsText, IsMostlyStep}
use Rattle.dw_codec_plain.proofs.Items.{one_form}
use Rattle.dw_codec_plain.proofs.Forms.{width_of_step, length-form}
use Rattle.dw_codec_plain.proofs.MostlyItems.{mostly_item, mostly_free}
use Rattle.dw_codec_plain.proofs.RawItems.{raw_item, raw_free, length-number}
use Rattle.dw_codec_plain.proofs.TextItems.{texts_free, length-raw_text}
use Rattle.dw_codec_plain.proofs.Signed.{sized}
use Rattle.dw_codec_delta.specs.Delta.{delta, delta_item, IsDeltaStep}
use Rattle.dw_codec_delta.proofs.DeltaItems.{mostly_step, delta_free, delta_some}
use Rattle.std.specs.Ordering.{int_eq}
use Rattle.std.specs.Str.{bytes_eq}
use Rattle.dw_codec_runs.specs.Runs.{runlength, runlength_texts}
use Rattle.dw_codec_runs.proofs.DictionaryValues.{bytedict_form, bytedict_texts_form}
use Rattle.dw_codec_runs.proofs.RunsForm.{one_form as runs_form}
use Rattle.dw_codec_runs.proofs.RunsNumbers.{number_code}
use Rattle.dw_codec_runs.proofs.RunsTexts.{text_code}
use Rattle.std.specs.Prelude.{nat_le}
use Rattle.dw_value.specs.declared.kinds.Kind.{Kind}
use Rattle.dw_value.specs.declared.kinds.Kind.TheVariants.{Small, Int, Big, Decimal, Char, Varchar, Date, Bool as Boolean}
use Rattle.dw_value.specs.Encodings.{width}
use Rattle.dw_block.specs.Blocks.{encoded_numbers, encoded_texts}

raw_form : (width : ℕ) (values others : List ℤ) → IsWidth width → All (FitsWidth width) values → All (FitsWidth width) others → raw width values ≡ raw width others → values ≡ others
raw_form width values others is fits fits' same =
    one_form (raw_item width) (FitsWidth width) (raw_free width is)
    (λ before value. let size = sized width is in omega (arith, size.some, length-number width value)) None values others fits fits' same

mostly_form : (width step : ℕ) (values others : List ℤ) → IsWidth width → IsMostlyStep step → All (FitsWidth width) values → All (FitsWidth width) others → mostly width step values ≡ mostly width step others → values ≡ others
mostly_form width step values others is is' fits fits' same =
    let isw = width_of_step step is' in
    one_form (mostly_item width step) (FitsWidth width) (mostly_free width step is isw)
    (λ before value. let size = sized step isw in omega (arith, size.some, length-form width step value value)) None values others fits fits' same

delta_form : (width step : ℕ) (values others : List ℤ) → IsWidth width → IsDeltaStep step → All (FitsWidth width) values → All (FitsWidth width) others → delta width step values ≡ delta width step others → values ≡ others
delta_form width step values others is is' fits fits' same =
    let isw = width_of_step step (mostly_step step is') in
    one_form (delta_item width step) (FitsWidth width) (delta_free width step is isw) (delta_some width step is isw) None values others fits fits' same

runlength_form : (width : ℕ) (values others : List ℤ) → IsWidth width → length values ≤ 4096 → length others ≤ 4096 → All (FitsWidth width) values → All (FitsWidth width) others
    → runlength width values ≡ runlength width others → values ≡ others
runlength_form width values others is few few' fits fits' same =
    runs_form int_eq (number width) (FitsWidth width) (number_code width is) values others (omega (arith, few)) (omega (arith, few')) fits fits' same

raw_texts_form : (values others : List (List ℕ)) → All IsText values → All IsText others → raw_texts values ≡ raw_texts others → values ≡ others
raw_texts_form values others fits fits' same =
    one_form raw_text_item IsText texts_free (λ before text. omega (arith, length-raw_text text)) None values others fits fits' same

runlength_texts_form : (values others : List (List ℕ)) → length values ≤ 4096 → length others ≤ 4096 → All IsText values → All IsText others → runlength_texts values ≡ runlength_texts others → values ≡ others
runlength_texts_form values others few few' fits fits' same =
    runs_form bytes_eq raw_text IsText text_code values others (omega (arith, few)) (omega (arith, few')) fits fits' same

pub texts_form : (encoding : Encoding) (values others : List (List ℕ)) → length values ≤ 4096 → length others ≤ 4096 → All IsText values → All IsText others → encoded_texts encoding values ≡ encoded_texts encoding others → values ≡ others
texts_form Raw values others few few' fits fits' same = raw_texts_form values others fits fits' same
texts_form Bytedict values others few few' fits fits' same = bytedict_texts_form values others fits fits' same
texts_form Delta values others few few' fits fits' same = raw_texts_form values others fits fits' same
texts_form Delta32k values others few few' fits fits' same = raw_texts_form values others fits fits' same
texts_form Mostly8 values others few few' fits fits' same = raw_texts_form values others fits fits' same
texts_form Mostly16 values others few few' fits fits' same = raw_texts_form values others fits fits' same
texts_form Mostly32 values others few few' fits fits' same = raw_texts_form values others fits fits' same
texts_form Runlength values others few few' fits fits' same = runlength_texts_form values others few few' fits fits' same

pub numbers_form : (encoding : Encoding) (width : ℕ) (values others : List ℤ) → IsWidth width → length values ≤ 4096 → length others ≤ 4096 → All (FitsWidth width) values → All (FitsWidth width) others
    → encoded_numbers encoding width values ≡ encoded_numbers encoding width others → values ≡ others
numbers_form Raw width values others is few few' fits fits' same = raw_form width values others is fits fits' same
numbers_form Bytedict width values others is few few' fits fits' same = bytedict_form width values others is fits fits' same
numbers_form Delta width values others is few few' fits fits' same = delta_form width 1 values others is (inl refl) fits fits' same
numbers_form Delta32k width values others is few few' fits fits' same = delta_form width 2 values others is (inr refl) fits fits' same
numbers_form Mostly8 width values others is few few' fits fits' same = mostly_form width 1 values others is (inl refl) fits fits' same
numbers_form Mostly16 width values others is few few' fits fits' same = mostly_form width 2 values others is (inr (inl refl)) fits fits' same
numbers_form Mostly32 width values others is few few' fits fits' same = mostly_form width 4 values others is (inr (inr refl)) fits fits' same
numbers_form Runlength width values others is few few' fits fits' same = runlength_form width values others is few few' fits fits' same

-- the numbers of a kind have a width of the codecs
precise_width : (t : Bool) → IsWidth (if t then 8 else 16)
precise_width true = inr (inr (inr (inl refl)))
precise_width false = inr (inr (inr (inr refl)))

pub IsWidth-width : (kind : Kind) → IsWidth (width kind)
IsWidth-width Small = inr (inl refl)
IsWidth-width Int = inr (inr (inl refl))
IsWidth-width Big = inr (inr (inr (inl refl)))
IsWidth-width (Decimal precision scale) = precise_width (nat_le precision 18)
IsWidth-width Date = inr (inr (inl refl))
IsWidth-width (Char limit) = inl refl
IsWidth-width (Varchar limit) = inl refl
IsWidth-width Boolean = inl refl
