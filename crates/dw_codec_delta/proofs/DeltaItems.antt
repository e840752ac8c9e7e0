-- Values spelled by their differences, one after another.
use Rattle.std.proofs.Common.{◌≡◌, ℕ, ◌+◌, ◌-◌, ◌<◌, inl, inr, Option, None, Some, List, [], ◌∷◌, ◌++◌, length, take, drop, get_or, sym, ap, ◌∙◌, arith, ℤ, pos, neg_ℤ, ◌-ℤ◌, subst}
use Rattle.std.specs.Prelude.{All}
use Rattle.std.specs.Option.{ForSome}
use Rattle.std.proofs.lemmas.Int.{ints}
use Rattle.std.proofs.lemmas.List.{take-append-drop, take_more}
use Rattle.std.proofs.lemmas.List.Elements.{All-head, All-tail}
use Rattle.dw_codec_plain.specs.Numbers.{IsWidth, half, FitsWidth, IsNumberWithin}
use Rattle.dw_codec_plain.specs.Encodings.{near_item, IsMostlyStep}
use Rattle.dw_codec_plain.specs.Spelling.{IsItem, NoItem, IsLongestFront}
use Rattle.dw_codec_plain.proofs.Items.{IsPrefixFree, last_of, last_of-push}
use Rattle.dw_codec_plain.proofs.Signed.{IsSized, sized}
use Rattle.dw_codec_plain.proofs.RawItems.{raw_free, raw_none, length-number}
use Rattle.dw_codec_plain.proofs.Forms.{forms_apart, length-form}
use Rattle.dw_codec_plain.proofs.FormFronts.{same_texts}
use Rattle.dw_codec_delta.specs.Delta.{delta_item, IsDeltaStep}

pub mostly_step : (step : ℕ) → IsDeltaStep step → IsMostlyStep step
mostly_step step is = elim is [ inl a ↦ inl a | inr b ↦ inr (inl b) ]

-- the last of the values that fit fits
pub last_fits : (P : ℤ → Type 0) (before : Option ℤ) (values : List ℤ) → ForSome before P → All P values → ForSome (last_of before values) P
last_fits P before [] fits all = fits
last_fits P before (v ∷ vs) fits all = last_fits P (Some v) vs (λ x e. let same : v ≡ x = cc in subst P same (All-head P v vs all)) (All-tail P v vs all)

module _ (width step : ℕ) (is : IsWidth width) (is' : IsWidth step) where
  delta_apart : (before : Option ℤ) (v w : ℤ) (x y : List ℕ) → FitsWidth width v → FitsWidth width w → delta_item width step before v ++ x ≡ delta_item width step before w ++ y → v ≡ w
  delta_apart None v w x y fits fits' same = (raw_free width is).apart None v w x y fits fits' same
  delta_apart (Some base) v w x y fits fits' same = forms_apart width step is is' base v w x y fits fits' same

  pub delta_free : IsPrefixFree (delta_item width step) (FitsWidth width)
  delta_free = record { apart = delta_apart }

  pub delta_some : (before : Option ℤ) (value : ℤ) → 0 < length (delta_item width step before value)
  delta_some None value = let size : IsSized width = sized width is in omega (arith, size.some, length-number width value)
  delta_some (Some base) value = let size : IsSized step = sized step is' in omega (arith, size.some, length-form width step (value -ℤ base) value)

  -- behind a value
  pub near_front : (base : ℤ) (bytes : List ℕ) (place : ℕ) → IsLongestFront (IsItem (near_item width step base) (FitsWidth width) None) bytes place
      → IsLongestFront (IsItem (delta_item width step) (FitsWidth width) (Some base)) bytes place
  near_front base bytes place front =
      same_texts (IsItem (near_item width step base) (FitsWidth width) None) (IsItem (delta_item width step) (FitsWidth width) (Some base))
      (λ text i. record { value = i.value; fits = i.fits; spells = i.spells })
      (λ text i. record { value = i.value; fits = i.fits; spells = i.spells }) bytes place front

  -- at the start
  pub first_front : (bytes : List ℕ) (place : ℕ) → IsLongestFront (IsNumberWithin width (neg_ℤ (pos (half width))) (pos (half width - 1))) bytes place
      → IsLongestFront (IsItem (delta_item width step) (FitsWidth width) None) bytes place
  first_front bytes place front =
      let size : IsSized width = sized width is in
      same_texts (IsNumberWithin width (neg_ℤ (pos (half width))) (pos (half width - 1))) (IsItem (delta_item width step) (FitsWidth width) None)
      (λ text i. record { value = i.value; fits = record { least = i.least; greatest = omega (arith, ints, size.full, i.greatest) }; spells = i.spells })
      (λ text i. record { value = i.value; least = i.fits.least; greatest = omega (arith, ints, size.full, i.fits.greatest); spells = i.spells }) bytes place front

  pub first_none : (bytes : List ℕ) → length bytes < width → NoItem (delta_item width step) (FitsWidth width) None bytes
  first_none bytes short value rest fits same = raw_none width is None bytes short value rest fits same

-- what was read is the front of the bytes
pub read_is : (size : ℕ) (spelled bytes after : List ℕ) → take size bytes ≡ spelled → after ≡ drop size bytes → bytes ≡ spelled ++ after
read_is size spelled bytes after front back =
    sym (take-append-drop size bytes) ∙ (ap (λ (t : List ℕ). t ++ drop size bytes) front ∙ ap (λ (t : List ℕ). spelled ++ t) (sym back))

-- the value before the next one
pub last_of-more : (values : List ℤ) (i : ℕ) (d : ℤ) → i < length values → last_of None (take (i + 1) values) ≡ Some (get_or values i d)
last_of-more values i d lt = ap (last_of None) (take_more values i d lt) ∙ last_of-push None (take i values) (get_or values i d)
