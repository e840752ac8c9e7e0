-- Numbers in a short form or behind a mark.
use Rattle.std.proofs.Common.{◌≡◌, ◌≢◌, ℕ, ◌+◌, ◌^◌, ◌≤◌, ◌<◌, ◌⊎◌, inl, inr, true, false, None, List, ◌++◌, length, take, drop, refl, sym, ap, ◌∙◌, append_assoc, subst, arith, length-append, ℤ, pos, negsuc, neg_ℤ, unsigned_abs, ◌+ℤ◌, ◌-ℤ◌}
use Rattle.std.specs.Prelude.{◌≤ℤ◌, ◌<ℤ◌}
use Rattle.std.specs.Int.Signed.{le_z}
use Rattle.std.proofs.lemmas.Bool.{cases_Bool, cond-true, cond-false, ltb-true, ltb-false, lt-ltb, le-ltb, both_ways}
use Rattle.std.proofs.lemmas.Int.{ints, by_lt_z}
use Rattle.std.proofs.lemmas.List.{take-append-drop, take_at}
use Rattle.dw_codec_plain.specs.Numbers.{IsWidth, half, FitsWidth, number}
use Rattle.dw_codec_plain.specs.Encodings.{is_short, short_or_full, near_item, IsMostlyStep}
use Rattle.dw_codec_plain.specs.Spelling.{NoItem}
use Rattle.dw_codec_plain.proofs.Fronts.{same_front}
use Rattle.dw_codec_plain.proofs.Signed.{IsSized, sized, same_number}
use Rattle.dw_codec_plain.proofs.RawItems.{length-number}

-- a step is a width
pub width_of_step : (step : ℕ) → IsMostlyStep step → IsWidth step
width_of_step step is = elim is [ inl a ↦ inl a | inr others ↦ elim others [ inl b ↦ inr (inl b) | inr c ↦ inr (inr (inl c)) ] ]

pub step_room : (step : ℕ) → IsMostlyStep step → half step ≤ 2 ^ 31
unfolding half
step_room step is = elim is [
  | inl a ↦ subst (λ s. half s ≤ 2 ^ 31) (sym a) (omega arith)
  | inr others ↦ elim others [ inl b ↦ subst (λ s. half s ≤ 2 ^ 31) (sym b) (omega arith) | inr c ↦ subst (λ s. half s ≤ 2 ^ 31) (sym c) (omega arith) ]
]

-- the mark: the least number of a step
abbrev pub mark : ℕ → ℤ
mark step = neg_ℤ (pos (half step))

pub mark_fits : (step : ℕ) → IsWidth step → FitsWidth step (mark step)
mark_fits step is = let size : IsSized step = sized step is in record { least = omega (arith, ints); greatest = omega (arith, ints, size.full) }

short_bounds : (step : ℕ) (d : ℤ) → unsigned_abs d < half step → (mark step <ℤ d) × (d <ℤ pos (half step))
short_bounds step (pos n) lt = (omega (arith, ints), omega (arith, ints))
short_bounds step (negsuc n) lt = (omega (arith, ints), omega (arith, ints))

pub short_within : (step : ℕ) (d : ℤ) → is_short step d ≡ true → (mark step <ℤ d) × (d <ℤ pos (half step))
short_within step d short = short_bounds step d (ltb-true _ _ short)

pub short_fits : (step : ℕ) (d : ℤ) → is_short step d ≡ true → FitsWidth step d
short_fits step d short = let b = short_within step d short in record { least = omega (arith, ints, b.0); greatest = b.1 }

pub short_from : (step : ℕ) (d : ℤ) → mark step <ℤ d → d <ℤ pos (half step) → is_short step d ≡ true
short_from step (pos n) low high = lt-ltb _ _ (omega (arith, ints, high))
short_from step (negsuc n) low high = lt-ltb _ _ (omega (arith, ints, low))

-- a number that isn't short is as far from 0 as the mark
pub long_cases : (step : ℕ) (d : ℤ) → is_short step d ≡ false → (d ≤ℤ mark step) ⊎ (pos (half step) ≤ℤ d)
long_cases step (pos n) long = let far = ltb-false _ _ long in inr (omega (arith, ints, far))
long_cases step (negsuc n) long = let far = ltb-false _ _ long in inl (omega (arith, ints, far))

pub long_from_below : (step : ℕ) (d : ℤ) → d ≤ℤ mark step → is_short step d ≡ false
long_from_below step (pos n) low = le-ltb _ _ (omega (arith, ints, low))
long_from_below step (negsuc n) low = le-ltb _ _ (omega (arith, ints, low))

pub long_from_above : (step : ℕ) (d : ℤ) → pos (half step) ≤ℤ d → is_short step d ≡ false
long_from_above step (pos n) high = le-ltb _ _ (omega (arith, ints, high))
long_from_above step (negsuc n) high = le-ltb _ _ (omega (arith, ints, high))

module _ (width step : ℕ) (small value : ℤ) where
  pub form_short : is_short step small ≡ true → short_or_full width step small value ≡ number step small
  form_short short = cond-true _ _ _ short

  pub form_full : is_short step small ≡ false → short_or_full width step small value ≡ number step (mark step) ++ number width value
  form_full long = cond-false _ _ _ long

  -- the first bytes of a form
  pub form_begins : (rest text : List ℕ) → text ≡ short_or_full width step small value ++ rest
      → ((is_short step small ≡ true) × (text ≡ number step small ++ rest)) ⊎ ((is_short step small ≡ false) × (text ≡ number step (mark step) ++ (number width value ++ rest)))
  form_begins rest text is = elim (cases_Bool (is_short step small)) [
    | inl short ↦ inl (short, is ∙ ap (λ (t : List ℕ). t ++ rest) (form_short short))
    | inr long ↦ inr (long, is ∙ (ap (λ (t : List ℕ). t ++ rest) (form_full long) ∙ append_assoc (number step (mark step)) (number width value) rest))
  ]

  pub length-form : step ≤ length (short_or_full width step small value)
  length-form = elim (cases_Bool (is_short step small)) [
    | inl short ↦ omega (arith, length-number step small, ap length (form_short short))
    | inr long ↦ omega (arith, length-number step (mark step), length-append (number step (mark step)) (number width value), ap length (form_full long))
  ]

module _ (width step : ℕ) (is : IsWidth width) (is' : IsWidth step) where
  fronts_of : (a b : ℤ) (x y : List ℕ) → number step a ++ x ≡ number step b ++ y → (number step a ≡ number step b) × (x ≡ y)
  fronts_of a b x y same = same_front (number step a) x (number step b) y same (length-number step a ∙ sym (length-number step b))

  no_mark : (d : ℤ) → is_short step d ≡ true → number step d ≡ number step (mark step) → ⊥
  no_mark d short same =
      let e : d ≡ mark step = same_number step is' d (mark step) (short_fits step d short) (mark_fits step is') same in
      let b = short_within step d short in
      omega (arith, ints, e, b.0)

  -- no form begins another
  pub forms_apart : (base v w : ℤ) (x y : List ℕ) → FitsWidth width v → FitsWidth width w
      → short_or_full width step (v -ℤ base) v ++ x ≡ short_or_full width step (w -ℤ base) w ++ y → v ≡ w
  forms_apart base v w x y fits fits' same =
      let text : List ℕ = short_or_full width step (v -ℤ base) v ++ x in
      elim (form_begins width step (v -ℤ base) v x text refl) [
        | inl a ↦ elim (form_begins width step (w -ℤ base) w y text same) [
          | inl b ↦
              let r = fronts_of (v -ℤ base) (w -ℤ base) x y (sym a.1 ∙ b.1) in
              let e : v -ℤ base ≡ w -ℤ base = same_number step is' (v -ℤ base) (w -ℤ base) (short_fits step (v -ℤ base) a.0) (short_fits step (w -ℤ base) b.0) r.0 in
              omega (arith, ints, e)
          | inr b ↦ absurd (no_mark (v -ℤ base) a.0 (fronts_of (v -ℤ base) (mark step) x (number width w ++ y) (sym a.1 ∙ b.1)).0)
        ]
        | inr a ↦ elim (form_begins width step (w -ℤ base) w y text same) [
          | inl b ↦ absurd (no_mark (w -ℤ base) b.0 (fronts_of (w -ℤ base) (mark step) y (number width v ++ x) (sym b.1 ∙ a.1)).0)
          | inr b ↦
              let r = fronts_of (mark step) (mark step) (number width v ++ x) (number width w ++ y) (sym a.1 ∙ b.1) in
              let s = same_front (number width v) x (number width w) y r.1 (length-number width v ∙ sym (length-number width w)) in
              same_number width is v w fits fits' s.0
        ]
      ]

  module _ (base : ℤ) (bytes : List ℕ) where
    -- too few bytes for a short form
    pub none_short : length bytes < step → NoItem (near_item width step base) (FitsWidth width) None bytes
    none_short lt value rest fits same =
        omega (arith, length-form width step (value -ℤ base) value, length-append (short_or_full width step (value -ℤ base) value) rest, ap length same)

    module _ (small : ℤ) (enough : step ≤ length bytes) (fits : FitsWidth step small) (at : number step small ≡ take step bytes) where
      whole : bytes ≡ number step small ++ drop step bytes
      whole = sym (take-append-drop step bytes) ∙ ap (λ (t : List ℕ). t ++ drop step bytes) (sym at)

      -- what a short number at the front stands for
      pub read_short : small ≢ mark step → (value : ℤ) (rest : List ℕ) → FitsWidth width value → bytes ≡ near_item width step base None value ++ rest → value ≡ base +ℤ small
      read_short other value rest fits' same = elim (form_begins width step (value -ℤ base) value rest bytes same) [
        | inl a ↦
            let r = fronts_of (value -ℤ base) small rest (drop step bytes) (sym a.1 ∙ whole) in
            let e : value -ℤ base ≡ small = same_number step is' (value -ℤ base) small (short_fits step (value -ℤ base) a.0) fits r.0 in
            omega (arith, ints, e)
        | inr a ↦
            let r = fronts_of (mark step) small (number width value ++ rest) (drop step bytes) (sym a.1 ∙ whole) in
            absurd (other (sym (same_number step is' (mark step) small (mark_fits step is') fits r.0)))
      ]

      pub none_outside : small ≢ mark step → (FitsWidth width (base +ℤ small) → ⊥) → NoItem (near_item width step base) (FitsWidth width) None bytes
      none_outside other outside value rest fits' same =
          outside (subst (FitsWidth width) (read_short other value rest fits' same) fits')

      pub some_short : small ≢ mark step → (value : ℤ) → value ≡ base +ℤ small → take step bytes ≡ short_or_full width step (value -ℤ base) value
      some_short other value e =
          let back : value -ℤ base ≡ small = omega (arith, ints, e) in
          let apart : mark step <ℤ small = above_mark small fits other in
          let short : is_short step (value -ℤ base) ≡ true = subst (λ d. is_short step d ≡ true) (sym back) (short_from step small apart fits.greatest) in
          sym at ∙ (ap (number step) (sym back) ∙ sym (form_short width step (value -ℤ base) value short))
        where
          above_mark : (d : ℤ) → FitsWidth step d → d ≢ mark step → mark step <ℤ d
          above_mark d f ne = by_lt_z (mark step) d (λ lt. lt) (λ le. absurd (ne (omega (arith, ints, le, f.least))))

      -- what a full form at the front stands for
      pub read_full : small ≡ mark step → (value : ℤ) (rest : List ℕ) → FitsWidth width value → bytes ≡ near_item width step base None value ++ rest
          → (is_short step (value -ℤ base) ≡ false) × (drop step bytes ≡ number width value ++ rest)
      read_full marked value rest fits' same = elim (form_begins width step (value -ℤ base) value rest bytes same) [
        | inl a ↦
            let r = fronts_of (value -ℤ base) small rest (drop step bytes) (sym a.1 ∙ whole) in
            absurd (no_mark (value -ℤ base) a.0 (r.0 ∙ ap (number step) marked))
        | inr a ↦ (a.0, sym (fronts_of (mark step) small (number width value ++ rest) (drop step bytes) (sym a.1 ∙ whole)).1)
      ]

      pub none_cut : small ≡ mark step → length (drop step bytes) < width → NoItem (near_item width step base) (FitsWidth width) None bytes
      none_cut marked lt value rest fits' same =
          let r = read_full marked value rest fits' same in
          omega (arith, length-number width value, length-append (number width value) rest, ap length r.1)

      module _ (full : ℤ) (fits' : FitsWidth width full) (marked : small ≡ mark step) (enough' : width ≤ length (drop step bytes)) (at' : number width full ≡ take width (drop step bytes)) where
        pub none_near : is_short step (full -ℤ base) ≡ true → NoItem (near_item width step base) (FitsWidth width) None bytes
        none_near short value rest fits'' same =
            let r = read_full marked value rest fits'' same in
            let split : drop step bytes ≡ number width full ++ drop width (drop step bytes) =
            sym (take-append-drop width (drop step bytes)) ∙ ap (λ (t : List ℕ). t ++ drop width (drop step bytes)) (sym at') in
            let s = same_front (number width value) rest (number width full) (drop width (drop step bytes)) (sym r.1 ∙ split) (length-number width value ∙ sym (length-number width full)) in
            let e : value ≡ full = same_number width is value full fits'' fits' s.0 in
            both_ways _ r.0 (subst (λ v. is_short step (v -ℤ base) ≡ true) (sym e) short)

        pub some_full : is_short step (full -ℤ base) ≡ false → take (step + width) bytes ≡ short_or_full width step (full -ℤ base) full
        some_full long =
            let front : List ℕ = number step (mark step) ++ number width full in
            let after : List ℕ = drop width (drop step bytes) in
            let split : bytes ≡ front ++ after =
            whole ∙ (ap (λ (d : ℤ). number step d ++ drop step bytes) marked
            ∙ (ap (λ (t : List ℕ). number step (mark step) ++ t) (sym (take-append-drop width (drop step bytes)) ∙ ap (λ (t : List ℕ). t ++ after) (sym at'))
            ∙ sym (append_assoc (number step (mark step)) (number width full) after))) in
            let long' : length front ≡ step + width = omega (arith, length-append (number step (mark step)) (number width full), length-number step (mark step), length-number width full) in
            ap (take (step + width)) split ∙ (take_at front after (step + width) long' ∙ sym (form_full width step (full -ℤ base) full long))

-- what a test of two values says
pub le_from_test : (a b : ℤ) → le_z a b ≡ true → a ≤ℤ b
le_from_test a b test = grind (arith, ints)

pub gt_from_test : (a b : ℤ) → le_z a b ≡ false → b <ℤ a
gt_from_test a b test = grind (arith, ints)
