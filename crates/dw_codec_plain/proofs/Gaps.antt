-- The next value from a low one whose number begins with given bytes.
use Rattle.std.proofs.Common.{◌≡◌, ℕ, suc, ◌+◌, ◌-◌, ◌*◌, ◌/◌, ◌%◌, ◌^◌, ◌≤◌, ◌<◌, ◌⊎◌, inl, inr, subst, List, length, take, refl, sym, ap, ◌∙◌, arith, ℤ, pos, negsuc, unsigned_abs, FitsSigned, to_z, of_z}
use Rattle.std.specs.Prelude.{◌≤ℤ◌, ◌+ℤ◌, ◌-ℤ◌}
use Rattle.std.specs.Int.{w128, cast_unsigned, to_le_bytes}
use Rattle.std.proofs.Math.Nat.{mul-le-mul_left}
use Rattle.std.proofs.lemmas.Bool.{cases_lt}
use Rattle.std.proofs.lemmas.Int.{ints, to_z-of_z}
use Rattle.std.proofs.lemmas.Nat.{pow-add, pow_pos, mod_low, div-add-mod'}
use Rattle.dw_codec_plain.specs.Numbers.{natural_of, low_bytes, IsNumberWithin}
use Rattle.dw_codec_plain.proofs.Naturals.{AreBytes, natural_of-low_bytes, natural_of-lt, low_bytes_from, written_is}

distribute : (m p d : ℕ) → m * (p + d) ≡ m * p + m * d
distribute m p d = omega arith

-- a remainder, read off an equation of multiples
mod_from : (k n p a r : ℕ) → n + 2 ^ k * p ≡ 2 ^ k * a + r → r < 2 ^ k → n % 2 ^ k ≡ r
mod_from k n p a r same below = elim (cases_lt a p) [
  | inl lt ↦
      let more : 2 ^ k * suc a ≤ 2 ^ k * p = mul-le-mul_left (2 ^ k) lt in
      absurd (omega arith)
  | inr le ↦
      let d : ℕ = a - p in
      let e : a ≡ p + d = omega arith in
      let product : 2 ^ k * a ≡ 2 ^ k * p + 2 ^ k * d = ap (λ (x : ℕ). 2 ^ k * x) e ∙ distribute (2 ^ k) p d in
      let is : n ≡ d * 2 ^ k + r = omega arith in
      rw is (mod_low d k r below)
]

-- how far a number is from the next one with a given remainder
unfoldable pub IsGap : (modulus start wanted gap : ℕ) → Type 0
IsGap modulus start wanted gap = ((start ≤ wanted) × (gap + start ≡ wanted)) ⊎ ((wanted < start) × (gap + start ≡ modulus + wanted))

-- the gap leads to that remainder
gap_leads : (k low n p gap wanted : ℕ) → wanted < 2 ^ k → IsGap (2 ^ k) (low % 2 ^ k) wanted gap → n + 2 ^ k * p ≡ low + gap → n % 2 ^ k ≡ wanted
unfolding IsGap
gap_leads k low n p gap wanted below is same =
    let split : low / 2 ^ k * 2 ^ k + low % 2 ^ k ≡ low = div-add-mod' low (2 ^ k) in
    elim is [
      | inl h ↦ mod_from k n p (low / 2 ^ k) wanted (omega arith) below
      | inr h ↦ mod_from k n p (low / 2 ^ k + 1) wanted (omega arith) below
    ]

-- and to the first number with it
gap_least : (k low n p gap wanted further : ℕ) → wanted < 2 ^ k → IsGap (2 ^ k) (low % 2 ^ k) wanted gap → n % 2 ^ k ≡ wanted → n + 2 ^ k * p ≡ low + further → gap ≤ further
unfolding IsGap
gap_least k low n p gap wanted further below is worth same =
    let m : ℕ = 2 ^ k in
    let a : ℕ = low / m in
    let c : ℕ = n / m + p in
    let split : a * m + low % m ≡ low = div-add-mod' low m in
    let split' : n / m * m + n % m ≡ n = div-add-mod' n m in
    let start_below : low % m < m = let some : 0 < m = pow_pos k in omega arith in
    let both : m * c + wanted ≡ m * a + low % m + further = omega arith in
    elim (cases_lt c a) [
      | inl lt ↦ let more : m * suc c ≤ m * a = mul-le-mul_left m lt in absurd (omega arith)
      | inr le ↦
          let more : m * a ≤ m * c = mul-le-mul_left m le in
          elim is [
            | inl h ↦ omega arith
            | inr h ↦ elim (cases_lt a c) [
              | inl lt ↦ let step : m * suc a ≤ m * c = mul-le-mul_left m lt in omega arith
              | inr ge ↦ let step : m * c ≤ m * a = mul-le-mul_left m ge in absurd (omega arith)
            ]
          ]
    ]

-- the two's complement of a value further up
complement_further : (low value : ℤ) (further : ℕ) → FitsSigned w128 low → FitsSigned w128 value → value ≡ low +ℤ pos further
    → (cast_unsigned w128 value ≡ cast_unsigned w128 low + further) ⊎ (cast_unsigned w128 value + 2 ^ 128 ≡ cast_unsigned w128 low + further)
complement_further (pos a) (pos b) further fits fits' is = inl (omega (arith, ints, is))
complement_further (pos a) (negsuc b) further fits fits' is = absurd (omega (arith, ints, is))
complement_further (negsuc a) (pos b) further fits fits' is = inr (omega (arith, ints, is, fits))
complement_further (negsuc a) (negsuc b) further fits fits' is = inl (omega (arith, ints, is, fits, fits'))

multiple : (k : ℕ) → k ≤ 16 → 2 ^ 128 ≡ 2 ^ (8 * k) * 2 ^ (128 - 8 * k)
multiple k le =
    let e : 8 * k + (128 - 8 * k) ≡ 128 = omega arith in
    subst (λ x. 2 ^ x ≡ 2 ^ (8 * k) * 2 ^ (128 - 8 * k)) e (pow-add 2 (8 * k) (128 - 8 * k))

-- with some multiple of 2 to the power of k bytes on the left
further_by : (k : ℕ) → k ≤ 16 → (low value : ℤ) (further : ℕ) → FitsSigned w128 low → FitsSigned w128 value → value ≡ low +ℤ pos further
    → (p : ℕ) × (cast_unsigned w128 value + 2 ^ (8 * k) * p ≡ cast_unsigned w128 low + further)
further_by k le low value further fits fits' is = elim (complement_further low value further fits fits' is) [
  | inl e ↦ (0, omega arith)
  | inr e ↦ let whole : 2 ^ 128 ≡ 2 ^ (8 * k) * 2 ^ (128 - 8 * k) = multiple k le in (2 ^ (128 - 8 * k), omega arith)
]

-- what the first bytes of a value are worth, as many as are given
abbrev pub start_of : ℤ → List ℕ → ℕ
start_of low bs = natural_of (low_bytes (length bs) (cast_unsigned w128 low))

pub start_is : (low : ℤ) → FitsSigned w128 low → (bs written : List ℕ) (start : ℕ) → length bs ≤ 16 → written ≡ to_le_bytes w128 (cast_unsigned w128 (to_z w128 (of_z w128 low))) → start ≡ natural_of (take (length bs) written) → start ≡ start_of low bs
start_is low fits bs written start le is e =
    e ∙ ap natural_of (written_is (cast_unsigned w128 (to_z w128 (of_z w128 low))) (length bs) written le is)
    ∙ ap (λ (z : ℤ). start_of z bs) (to_z-of_z w128 low fits)

pub start_below : (low : ℤ) (bs : List ℕ) → start_of low bs < 2 ^ (8 * length bs)
start_below low bs =
    let some : 0 < 2 ^ (8 * length bs) = pow_pos (8 * length bs) in
    let e : start_of low bs ≡ cast_unsigned w128 low % 2 ^ (8 * length bs) = natural_of-low_bytes (length bs) (cast_unsigned w128 low) in
    rw e (omega arith)

module _ (low high : ℤ) (fits : FitsSigned w128 low) (fits' : FitsSigned w128 high) (order : low ≤ℤ high) (bs : List ℕ) (are : AreBytes bs) (le : length bs ≤ 16) where
  pub gap_found : (gap : ℕ) → IsGap (2 ^ (8 * length bs)) (start_of low bs) (natural_of bs) gap → gap ≤ unsigned_abs (high -ℤ low) → IsNumberWithin (length bs) low high bs
  gap_found gap is near =
      let value : ℤ = low +ℤ pos gap in
      let least : low ≤ℤ value = omega (arith, ints) in
      let greatest : value ≤ℤ high = grind (arith, ints) in
      let fits'' : FitsSigned w128 value = omega (arith, ints, fits, fits', least, greatest) in
      let f = further_by (length bs) le low value gap fits fits'' refl in
      let is' : IsGap (2 ^ (8 * length bs)) (cast_unsigned w128 low % 2 ^ (8 * length bs)) (natural_of bs) gap =
      subst (λ s. IsGap (2 ^ (8 * length bs)) s (natural_of bs) gap) (natural_of-low_bytes (length bs) (cast_unsigned w128 low)) is in
      let worth : cast_unsigned w128 value % 2 ^ (8 * length bs) ≡ natural_of bs =
      gap_leads (8 * length bs) (cast_unsigned w128 low) (cast_unsigned w128 value) f.0 gap (natural_of bs) (natural_of-lt bs are) is' f.1 in
      record { value = value; least = least; greatest = greatest; spells = sym (low_bytes_from (length bs) bs (cast_unsigned w128 value) are refl worth) }

  pub gap_within : (gap : ℕ) → IsGap (2 ^ (8 * length bs)) (start_of low bs) (natural_of bs) gap → IsNumberWithin (length bs) low high bs → gap ≤ unsigned_abs (high -ℤ low)
  gap_within gap is within =
      let value : ℤ = within.value in
      let least : low ≤ℤ value = within.least in
      let greatest : value ≤ℤ high = within.greatest in
      let further : ℕ = unsigned_abs (value -ℤ low) in
      let e : value ≡ low +ℤ pos further = grind (arith, ints) in
      let near : further ≤ unsigned_abs (high -ℤ low) = grind (arith, ints) in
      let fits'' : FitsSigned w128 value = omega (arith, ints, fits, fits', least, greatest) in
      let f = further_by (length bs) le low value further fits fits'' e in
      let is' : IsGap (2 ^ (8 * length bs)) (cast_unsigned w128 low % 2 ^ (8 * length bs)) (natural_of bs) gap =
      subst (λ s. IsGap (2 ^ (8 * length bs)) s (natural_of bs) gap) (natural_of-low_bytes (length bs) (cast_unsigned w128 low)) is in
      let worth : cast_unsigned w128 value % 2 ^ (8 * length bs) ≡ natural_of bs =
      sym (natural_of-low_bytes (length bs) (cast_unsigned w128 value)) ∙ ap natural_of (sym within.spells) in
      let first : gap ≤ further = gap_least (8 * length bs) (cast_unsigned w128 low) (cast_unsigned w128 value) f.0 gap (natural_of bs) further (natural_of-lt bs are) is' worth f.1 in
      omega arith

-- what `abs_diff` gives
pub distance_is : (a b : ℤ) → FitsSigned w128 a → FitsSigned w128 b → (distance : ℕ) → distance ≡ unsigned_abs (to_z w128 (of_z w128 a) -ℤ to_z w128 (of_z w128 b)) → distance ≡ unsigned_abs (a -ℤ b)
distance_is a b fits fits' distance is =
    is ∙ (ap (λ (z : ℤ). unsigned_abs (z -ℤ to_z w128 (of_z w128 b))) (to_z-of_z w128 a fits) ∙ ap (λ (z : ℤ). unsigned_abs (a -ℤ z)) (to_z-of_z w128 b fits'))

-- the two ways in which the code finds the gap
pub gap_up : (modulus start wanted gap : ℕ) → start ≤ wanted → gap ≡ wanted - start → IsGap modulus start wanted gap
unfolding IsGap
gap_up modulus start wanted gap le is = inl (le, omega arith)

pub gap_round : (modulus start wanted gap most : ℕ) → wanted < start → start < modulus → most + 1 ≡ modulus → gap ≡ most - start + (wanted + 1) → IsGap modulus start wanted gap
unfolding IsGap
gap_round modulus start wanted gap most lt below is e = inr (lt, omega arith)
