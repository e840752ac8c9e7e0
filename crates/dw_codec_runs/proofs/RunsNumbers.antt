-- Numbers as the values of runs.
use Rattle.std.proofs.Common.{◌≡◌, ℕ, ◌-◌, ◌≤◌, ◌<◌, None, List, [], ◌∷◌, ◌++◌, length, take, sym, ap, ◌∙◌, arith, ℤ, pos, negsuc, subst}
use Rattle.std.specs.Prelude.{◌≤ℤ◌}
use Rattle.std.specs.Int.{w128, cast_unsigned}
use Rattle.std.specs.Ordering.{int_eq}
use Rattle.std.proofs.lemmas.Bool.Decides.{Decides-int_eq}
use Rattle.std.proofs.lemmas.Int.{ints}
use Rattle.dw_codec_plain.specs.Numbers.{IsWidth, FitsWidth, number, low_bytes, IsNumberWithin}
use Rattle.dw_codec_plain.specs.Spelling.{IsItem, IsLongestFront}
use Rattle.dw_codec_plain.proofs.FormFronts.{same_texts}
use Rattle.dw_codec_runs.specs.Runs.{IsTimes, times_item}
use Rattle.dw_codec_plain.proofs.Naturals.{low_bytes_are_bytes}
use Rattle.dw_codec_plain.proofs.Signed.{sized, number_of_bytes}
use Rattle.dw_codec_plain.proofs.RawItems.{raw_free, length-number}
use Rattle.dw_codec_runs.proofs.RunsValues.{IsAnother, IsCode}
use Rattle.dw_codec_runs.proofs.RunsLast.{other_last, IsOtherLast}

module _ (width : ℕ) (is : IsWidth width) where
  another_number : (v : ℤ) → FitsWidth width v → IsAnother (number width) (FitsWidth width) v
  another_number v fits =
      let bytes : List ℕ = number width v in
      let long : length bytes ≡ width = length-number width v in
      let size = sized width is in
      let last : IsOtherLast bytes = other_last bytes (λ i. low_bytes_are_bytes width (cast_unsigned w128 v) i) (omega (arith, size.some)) in
      let w = number_of_bytes width is (take (length bytes - 1) bytes ++ last.last ∷ []) last.are (last.long ∙ long) in
      record {
        other = w.0;
        fits = w.1;
        differs = λ same. last.differs (ap (number width) same ∙ w.2);
        rest = last.last ∷ [];
        begins = w.2;
      }

  -- what a decoder relies on
  pub number_code : IsCode int_eq (number width) (FitsWidth width)
  number_code =
      let size = sized width is in
      record {
        decides = Decides-int_eq;
        some = pos 0;
        fits = record { least = omega (arith, ints, size.full); greatest = omega (arith, ints, size.full) };
        full = λ v. omega (arith, size.some, length-number width v);
        apart = λ v w x y fits fits' same. (raw_free width is).apart None v w x y fits fits' same;
        another = another_number;
      }

-- a length is a number of two bytes
number_times : (n : ℕ) → n ≤ 4096 → number 2 (pos n) ≡ low_bytes 2 n
number_times n most = ap (low_bytes 2) (omega (arith, ints))

to_times : (left : ℕ) → left ≤ 4096 → (text : List ℕ) → IsNumberWithin 2 (pos 1) (pos left) text → IsItem times_item (IsTimes left) None text
to_times left most text is = by_sign is.value is.least is.greatest is.spells where
  by_sign : (value : ℤ) → pos 1 ≤ℤ value → value ≤ℤ pos left → text ≡ number 2 value → IsItem times_item (IsTimes left) None text
  by_sign (pos n) least greatest spells = record {
    value = n;
    fits = record { some = omega (arith, ints); most = omega (arith, ints) };
    spells = spells ∙ number_times n (omega (arith, ints));
  }
  by_sign (negsuc n) least greatest spells = absurd (omega (arith, ints))

from_times : (left : ℕ) → left ≤ 4096 → (text : List ℕ) → IsItem times_item (IsTimes left) None text → IsNumberWithin 2 (pos 1) (pos left) text
from_times left most text is =
    let n : ℕ = is.value in
    let some : 0 < n = is.fits.some in
    let le : n ≤ left = is.fits.most in
    record { value = pos n; least = omega (arith, ints); greatest = omega (arith, ints); spells = is.spells ∙ sym (number_times n (omega arith)) }

pub times_front_is : (left place : ℕ) (high : ℤ) (bytes : List ℕ) → left ≤ 4096 → high ≡ pos left → IsLongestFront (IsNumberWithin 2 (pos 1) high) bytes place → IsLongestFront (IsItem times_item (IsTimes left) None) bytes place
times_front_is left place high bytes most is front =
    same_texts (IsNumberWithin 2 (pos 1) (pos left)) (IsItem times_item (IsTimes left) None) (to_times left most) (from_times left most) bytes place
    (subst (λ h. IsLongestFront (IsNumberWithin 2 (pos 1) h) bytes place) is front)
