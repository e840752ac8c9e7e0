-- Values and the bytes of their two's complement.
use Rattle.std.proofs.Common.{◌≡◌, ℕ, suc, ◌-◌, ◌*◌, ◌%◌, ◌^◌, ◌≤◌, ◌<◌, inl, inr, subst, List, length, take, refl, sym, ap, ◌∙◌, arith, ℤ, pos, negsuc, neg_ℤ, FitsSigned, to_z, of_z}
use Rattle.std.specs.Prelude.{◌+ℤ◌}
use Rattle.std.specs.Int.{w128, cast_unsigned}
use Rattle.std.proofs.lemmas.Int.{ints, to_z-of_z}
use Rattle.dw_codec_plain.specs.Numbers.{IsWidth, half, FitsWidth, natural_of, number}
use Rattle.std.proofs.lemmas.List.{length-take-le, take_all}
use Rattle.std.proofs.lemmas.Bool.{cases_lt}
use Rattle.dw_codec_plain.proofs.Naturals.{AreBytes, taken_are_bytes, low_bytes_from, natural_of-low_bytes, natural_of-lt}

-- a fact of each width
pub by_width : (P : ℕ → Type 0) → P 1 → P 2 → P 4 → P 8 → P 16 → (width : ℕ) → IsWidth width → P width
by_width P a b c d e width is = elim is [
  | inl h ↦ subst P (sym h) a
  | inr others ↦ elim others [
    | inl h ↦ subst P (sym h) b
    | inr others ↦ elim others [
      | inl h ↦ subst P (sym h) c
      | inr others ↦ elim others [ inl h ↦ subst P (sym h) d | inr h ↦ subst P (sym h) e ]
    ]
  ]
]

-- what the lowest bytes of a value's two's complement are worth
abbrev pub residue : ℕ → ℤ → ℕ
residue width (pos n) = n
residue width (negsuc n) = 2 ^ (8 * width) - suc n

abbrev IsResidue : ℕ → Type 0
IsResidue width = (value : ℤ) → FitsWidth width value → cast_unsigned w128 value % 2 ^ (8 * width) ≡ residue width value

residue_1 : IsResidue 1
unfolding half
residue_1 (pos n) fits = omega (arith, ints, fits.least, fits.greatest)
residue_1 (negsuc n) fits = omega (arith, ints, fits.least, fits.greatest)

residue_2 : IsResidue 2
unfolding half
residue_2 (pos n) fits = omega (arith, ints, fits.least, fits.greatest)
residue_2 (negsuc n) fits = omega (arith, ints, fits.least, fits.greatest)

residue_4 : IsResidue 4
unfolding half
residue_4 (pos n) fits = omega (arith, ints, fits.least, fits.greatest)
residue_4 (negsuc n) fits = omega (arith, ints, fits.least, fits.greatest)

residue_8 : IsResidue 8
unfolding half
residue_8 (pos n) fits = omega (arith, ints, fits.least, fits.greatest)
residue_8 (negsuc n) fits = omega (arith, ints, fits.least, fits.greatest)

residue_16 : IsResidue 16
unfolding half
residue_16 (pos n) fits = omega (arith, ints, fits.least, fits.greatest)
residue_16 (negsuc n) fits = omega (arith, ints, fits.least, fits.greatest)

pub residue_is : (width : ℕ) → IsWidth width → IsResidue width
residue_is width is = by_width IsResidue residue_1 residue_2 residue_4 residue_8 residue_16 width is

-- the sizes of a width: its range is twice its half, and divides that of sixteen bytes
pub record IsSized (width : ℕ) : Type 0 where
  pub some : 0 < width
  pub most : width ≤ 16
  pub twice : 2 ^ (8 * width) ≡ 2 * half width
  pub room : half width ≤ 2 ^ 127
  pub full : 128 ≤ half width

pub sized : (width : ℕ) → IsWidth width → IsSized width
unfolding half
sized width is = by_width IsSized
    (record { some = omega arith; most = omega arith; twice = refl; room = omega arith; full = omega arith })
    (record { some = omega arith; most = omega arith; twice = refl; room = omega arith; full = omega arith })
    (record { some = omega arith; most = omega arith; twice = refl; room = omega arith; full = omega arith })
    (record { some = omega arith; most = omega arith; twice = refl; room = omega arith; full = omega arith })
    (record { some = omega arith; most = omega arith; twice = refl; room = omega arith; full = omega arith })
    width is

-- as the code computes it
pub half_shifted : (width : ℕ) → IsWidth width → 1 * 2 ^ (8 * width - 1) % 2 ^ 128 ≡ half width
unfolding half
half_shifted width is = by_width (λ w. 1 * 2 ^ (8 * w - 1) % 2 ^ 128 ≡ half w) refl refl refl refl refl width is

-- what the bytes of a value are worth
pub natural_of-number : (width : ℕ) → IsWidth width → (value : ℤ) → FitsWidth width value → natural_of (number width value) ≡ residue width value
natural_of-number width is value fits = natural_of-low_bytes width (cast_unsigned w128 value) ∙ residue_is width is value fits

same_residue : (width : ℕ) → IsSized width → (v w : ℤ) → FitsWidth width v → FitsWidth width w → residue width v ≡ residue width w → v ≡ w
same_residue width size (pos m) (pos n) fits fits' same = ap pos same
same_residue width size (pos m) (negsuc n) fits fits' same = absurd (omega (arith, ints, size.twice, fits.greatest, fits'.least))
same_residue width size (negsuc m) (pos n) fits fits' same = absurd (omega (arith, ints, size.twice, fits.least, fits'.greatest))
same_residue width size (negsuc m) (negsuc n) fits fits' same = ap negsuc (omega (arith, ints, size.twice, fits.least, fits'.least))

-- values with the same bytes are equal
pub same_number : (width : ℕ) → IsWidth width → (v w : ℤ) → FitsWidth width v → FitsWidth width w → number width v ≡ number width w → v ≡ w
same_number width is v w fits fits' same =
    same_residue width (sized width is) v w fits fits' (sym (natural_of-number width is v fits) ∙ (ap natural_of same ∙ natural_of-number width is w fits'))

-- a value that is worth what some bytes are worth has those bytes
pub number_from : (width : ℕ) → IsWidth width → (bs : List ℕ) → AreBytes bs → length bs ≡ width → (value : ℤ) → FitsWidth width value → residue width value ≡ natural_of bs → number width value ≡ bs
number_from width is bs are long value fits worth =
    low_bytes_from width bs (cast_unsigned w128 value) are long (residue_is width is value fits ∙ worth)

-- what a value below 0 is worth
pub residue_below : (width : ℕ) → IsSized width → (value : ℤ) (n : ℕ) → value ≡ neg_ℤ (pos (half width)) +ℤ pos (n - half width) → half width ≤ n → n < 2 ^ (8 * width) → residue width value ≡ n
residue_below width size (pos m) n is high below = absurd (omega (arith, ints, size.twice, is))
residue_below width size (negsuc m) n is high below = omega (arith, ints, size.twice, is)

-- the bytes of a natural number below half the range
pub number_low : (width : ℕ) → IsWidth width → (bs : List ℕ) → AreBytes bs → width ≤ length bs → (n : ℕ) → n ≡ natural_of (take width bs) → n < half width → number width (pos n) ≡ take width bs
number_low width is bs are enough n worth below =
    number_from width is (take width bs) (taken_are_bytes width bs are) (length-take-le width bs enough) (pos n) (record { least = omega (arith, ints); greatest = omega (arith, ints) }) worth

-- the bytes of a number from half the range on stand for a value below 0
pub number_high : (width : ℕ) → IsWidth width → (bs : List ℕ) → AreBytes bs → width ≤ length bs → (n : ℕ) → n ≡ natural_of (take width bs) → half width ≤ n
    → (value : ℤ) → value ≡ neg_ℤ (pos (half width)) +ℤ pos (n - half width) → FitsWidth width value × (number width value ≡ take width bs)
number_high width is bs are enough n worth high value e =
    let size : IsSized width = sized width is in
    let are' : AreBytes (take width bs) = taken_are_bytes width bs are in
    let long : length (take width bs) ≡ width = length-take-le width bs enough in
    let below : natural_of (take width bs) < 2 ^ (8 * width) = subst (λ l. natural_of (take width bs) < 2 ^ (8 * l)) long (natural_of-lt (take width bs) are') in
    let below' : n < 2 ^ (8 * width) = omega arith in
    let fits : FitsWidth width value = record { least = omega (arith, ints, e); greatest = omega (arith, ints, e, size.twice) } in
    (fits, number_from width is (take width bs) are' long value fits (residue_below width size value n e high below' ∙ worth))

pub worth_below : (width : ℕ) → IsWidth width → (bs : List ℕ) → AreBytes bs → width ≤ length bs → natural_of (take width bs) < 2 ^ (8 * width)
worth_below width is bs are enough =
    subst (λ l. natural_of (take width bs) < 2 ^ (8 * l)) (length-take-le width bs enough) (natural_of-lt (take width bs) (taken_are_bytes width bs are))

-- a fact of two values, at their bits read again, as the code passes them
pub at_bits : (P : ℤ → ℤ → Type 0) (a b : ℤ) → FitsSigned w128 a → FitsSigned w128 b → P a b → P (to_z w128 (of_z w128 a)) (to_z w128 (of_z w128 b))
at_bits P a b fits fits' p =
    subst (λ x. P x (to_z w128 (of_z w128 b))) (sym (to_z-of_z w128 a fits)) (subst (λ y. P a y) (sym (to_z-of_z w128 b fits')) p)

pub from_bits : (P : ℤ → ℤ → Type 0) (a b : ℤ) → FitsSigned w128 a → FitsSigned w128 b → P (to_z w128 (of_z w128 a)) (to_z w128 (of_z w128 b)) → P a b
from_bits P a b fits fits' p =
    subst (λ y. P a y) (to_z-of_z w128 b fits') (subst (λ x. P x (to_z w128 (of_z w128 b))) (to_z-of_z w128 a fits) p)

-- as many bytes as the width are the number of some value
pub number_of_bytes : (width : ℕ) → IsWidth width → (bs : List ℕ) → AreBytes bs → length bs ≡ width → (value : ℤ) × FitsWidth width value × (number width value ≡ bs)
number_of_bytes width is bs are long =
    let whole : take width bs ≡ bs = take_all width bs (omega arith) in
    let worth : natural_of bs ≡ natural_of (take width bs) = ap natural_of (sym whole) in
    let n : ℕ = natural_of bs in
    elim (cases_lt n (half width)) [
      | inl low ↦
          (pos n, record { least = omega (arith, ints); greatest = omega (arith, ints) }, number_low width is bs are (omega arith) n worth low ∙ whole)
      | inr high ↦
          let value : ℤ = neg_ℤ (pos (half width)) +ℤ pos (n - half width) in
          let r = number_high width is bs are (omega arith) n worth high value refl in
          (value, r.0, r.1 ∙ whole)
    ]

pub wide : (width : ℕ) → IsWidth width → (value : ℤ) → FitsWidth width value → FitsSigned w128 value
wide width is value fits = let size : IsSized width = sized width is in omega (arith, ints, size.room, fits.least, fits.greatest)

-- a value that fits, at its bits read again
pub same_bits : (width : ℕ) → IsWidth width → (value : ℤ) → FitsWidth width value → to_z w128 (of_z w128 value) ≡ value
same_bits width is value fits = to_z-of_z w128 value (wide width is value fits)

pub same_from_bits : (a b : ℤ) → FitsSigned w128 a → FitsSigned w128 b → of_z w128 a ≡ of_z w128 b → a ≡ b
same_from_bits a b fits fits' same = sym (to_z-of_z w128 a fits) ∙ (ap (to_z w128) same ∙ to_z-of_z w128 b fits')

pub from_bit : (P : ℤ → Type 0) (a : ℤ) → FitsSigned w128 a → P (to_z w128 (of_z w128 a)) → P a
from_bit P a fits p = subst P (to_z-of_z w128 a fits) p
