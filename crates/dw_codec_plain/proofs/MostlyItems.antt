-- Values in a short form or behind a mark, one after another.
use Rattle.std.proofs.Common.{◌≡◌, ℕ, Option, None, List, ◌++◌, take, drop, sym, ap, ◌∙◌, arith, ℤ, pos, ◌-ℤ◌}
use Rattle.std.proofs.lemmas.Int.{ints}
use Rattle.std.proofs.lemmas.List.{take-append-drop}
use Rattle.dw_codec_plain.specs.Numbers.{IsWidth, FitsWidth}
use Rattle.dw_codec_plain.specs.Encodings.{short_or_full, near_item}
use Rattle.dw_codec_plain.specs.Spelling.{IsItem, NoItem, IsLongestFront}
use Rattle.dw_codec_plain.proofs.Items.{IsPrefixFree}
use Rattle.dw_codec_plain.proofs.Signed.{IsSized, sized}
use Rattle.dw_codec_plain.proofs.Forms.{forms_apart}
use Rattle.dw_codec_plain.proofs.FormFronts.{same_texts}

abbrev pub mostly_item : ℕ → ℕ → Option ℤ → ℤ → List ℕ
mostly_item width step before value = short_or_full width step value value

less_nothing : (value : ℤ) → value -ℤ pos 0 ≡ value
less_nothing value = omega (arith, ints)

pub near_nothing : (width step : ℕ) (value : ℤ) → short_or_full width step (value -ℤ pos 0) value ≡ short_or_full width step value value
near_nothing width step value = ap (λ (d : ℤ). short_or_full width step d value) (less_nothing value)

module _ (width step : ℕ) (is : IsWidth width) (is' : IsWidth step) where
  pub mostly_free : IsPrefixFree (mostly_item width step) (FitsWidth width)
  mostly_free = record {
    apart = λ before v w x y fits fits' same.
        forms_apart width step is is' (pos 0) v w x y fits fits'
        (ap (λ (t : List ℕ). t ++ x) (near_nothing width step v) ∙ (same ∙ ap (λ (t : List ℕ). t ++ y) (sym (near_nothing width step w))));
  }

  pub mostly_none : (before : Option ℤ) (bytes : List ℕ) → NoItem (near_item width step (pos 0)) (FitsWidth width) None bytes → NoItem (mostly_item width step) (FitsWidth width) before bytes
  mostly_none before bytes none value rest fits same =
      none value rest fits (same ∙ ap (λ (t : List ℕ). t ++ rest) (sym (near_nothing width step value)))

  pub mostly_front : (before : Option ℤ) (bytes : List ℕ) (place : ℕ) → IsLongestFront (IsItem (near_item width step (pos 0)) (FitsWidth width) None) bytes place
      → IsLongestFront (IsItem (mostly_item width step) (FitsWidth width) before) bytes place
  mostly_front before bytes place front =
      same_texts (IsItem (near_item width step (pos 0)) (FitsWidth width) None) (IsItem (mostly_item width step) (FitsWidth width) before)
      (λ text i. record { value = i.value; fits = i.fits; spells = i.spells ∙ near_nothing width step i.value })
      (λ text i. record { value = i.value; fits = i.fits; spells = i.spells ∙ sym (near_nothing width step i.value) }) bytes place front

pub nothing_fits : (width : ℕ) → IsWidth width → FitsWidth width (pos 0)
nothing_fits width is = let size : IsSized width = sized width is in record { least = omega (arith, ints, size.full); greatest = omega (arith, ints, size.full) }

-- what was read is the front of the bytes
pub read_is : (width step size : ℕ) (value : ℤ) (bytes after : List ℕ) → take size bytes ≡ short_or_full width step (value -ℤ pos 0) value → after ≡ drop size bytes → bytes ≡ short_or_full width step value value ++ after
read_is width step size value bytes after front back =
    sym (take-append-drop size bytes) ∙ (ap (λ (t : List ℕ). t ++ drop size bytes) (front ∙ near_nothing width step value) ∙ ap (λ (t : List ℕ). short_or_full width step value value ++ t) (sym back))
