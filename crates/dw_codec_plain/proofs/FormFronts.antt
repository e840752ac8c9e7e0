-- How numbers in a short form or behind a mark begin.
use Rattle.std.proofs.Common.{◌≡◌, ℕ, ◌+◌, ◌-◌, ◌≤◌, ◌<◌, max, ◌⊎◌, inl, inr, true, None, List, [], ◌∷◌, ◌++◌, length, take, drop, refl, sym, ap, ◌∙◌, append_assoc, subst, arith, length-drop, ℤ, pos, neg_ℤ, ◌+ℤ◌, ◌-ℤ◌}
use Rattle.std.specs.Prelude.{◌≤ℤ◌, ◌<ℤ◌}
use Rattle.std.specs.Int.{int_max, int_min}
use Rattle.std.proofs.Math.Seq.{take-append-add}
use Rattle.std.proofs.lemmas.Bool.{cases_Bool, cases_lt}
use Rattle.std.proofs.lemmas.Int.{ints, clamps}
use Rattle.std.proofs.lemmas.List.{length-take-le, take-append-drop, append_cancel_left, take_all}
use Rattle.dw_codec_plain.specs.Numbers.{half, FitsWidth, number, IsNumberWithin}
use Rattle.dw_codec_plain.specs.Encodings.{is_short, near_item, IsShortForm, IsMarkedWithin}
use Rattle.dw_codec_plain.specs.Spelling.{IsItem, Begins, IsLongestFront, IsLongestFrontIfAny}
use Rattle.dw_codec_plain.proofs.Fronts.{overlap, begins_less}
use Rattle.dw_codec_plain.proofs.NumberFronts.{begins_within_width}
use Rattle.dw_codec_plain.proofs.RawItems.{length-number}
use Rattle.dw_codec_plain.proofs.Forms.{mark, short_within, short_from, long_cases, long_from_below, long_from_above, form_short, form_full}

-- the longest front depends only on which texts there are
begins_same : (A T : List ℕ → Type 0) → ((text : List ℕ) → A text → T text) → (front : List ℕ) → Begins A front → Begins T front
begins_same A T to front b = record { text = b.text; is = to b.text b.is; rest = b.rest; begins = b.begins }

pub same_texts : (A T : List ℕ → Type 0) → ((text : List ℕ) → A text → T text) → ((text : List ℕ) → T text → A text) → (bytes : List ℕ) (place : ℕ) → IsLongestFront A bytes place → IsLongestFront T bytes place
same_texts A T to from bytes place front = record {
  within = front.within;
  begins = begins_same A T to (take place bytes) front.begins;
  longest = λ more within b. front.longest more within (begins_same T A from (take more bytes) b);
}

-- of texts of two kinds, the longer front counts
pub either_front : (A B : List ℕ → Type 0) (bytes : List ℕ) (a b : ℕ) → IsLongestFront A bytes a → IsLongestFrontIfAny B bytes b → IsLongestFront (λ text. A text ⊎ B text) bytes (max a b)
either_front A B bytes a b front front' =
    let T : List ℕ → Type 0 = λ text. A text ⊎ B text in
    let left : (text : List ℕ) → A text → T text = λ text x. inl x in
    let right : (text : List ℕ) → B text → T text = λ text x. inr x in
    record {
      within = let w : a ≤ length bytes = front.within in let w' : b ≤ length bytes = front'.within in omega arith;
      begins = elim (cases_lt a b) [
        | inl lt ↦
            let e : b ≡ max a b = omega arith in
            subst (λ k. Begins T (take k bytes)) e (begins_same B T right (take b bytes) (front'.begins (omega arith)))
        | inr le ↦
            let e : a ≡ max a b = omega arith in
            subst (λ k. Begins T (take k bytes)) e (begins_same A T left (take a bytes) front.begins)
      ];
      longest = λ more within x. elim x.is [
        | inl is ↦ let bound : more ≤ a = front.longest more within (record { text = x.text; is = is; rest = x.rest; begins = x.begins }) in omega arith
        | inr is ↦ let bound : more ≤ b = front'.longest more within (record { text = x.text; is = is; rest = x.rest; begins = x.begins }) in omega arith
      ];
    }

pub some_front : (A : List ℕ → Type 0) (bytes : List ℕ) (place : ℕ) → IsLongestFront A bytes place → IsLongestFrontIfAny A bytes place
some_front A bytes place front = record { within = front.within; begins = λ some. front.begins; longest = front.longest }

pub no_front : (A : List ℕ → Type 0) (bytes : List ℕ) → ((text : List ℕ) → A text → ⊥) → IsLongestFrontIfAny A bytes 0
no_front A bytes none = record { within = omega arith; begins = λ some. absurd (omega arith); longest = λ more within b. absurd (none b.text b.is) }

module _ (width step : ℕ) (base low high : ℤ) (low_is : low ≡ int_max (pos 1 -ℤ pos (half step)) (neg_ℤ (pos (half width)) -ℤ base)) (high_is : high ≡ int_min (pos (half step) -ℤ pos 1) ((pos (half width) -ℤ pos 1) -ℤ base)) where
  -- the short forms are the numbers of an interval
  pub to_short : (text : List ℕ) → IsNumberWithin step low high text → IsShortForm width step base text
  to_short text is =
      let d : ℤ = is.value in
      let value : ℤ = base +ℤ d in
      let least : low ≤ℤ d = is.least in
      let greatest : d ≤ℤ high = is.greatest in
      let back : value -ℤ base ≡ d = omega (arith, ints) in
      let short : is_short step d ≡ true = short_from step d (omega (arith, ints, clamps, low_is, least)) (omega (arith, ints, clamps, high_is, greatest)) in
      record {
        value = value;
        fits = record { least = omega (arith, ints, clamps, low_is, least); greatest = omega (arith, ints, clamps, high_is, greatest) };
        short = subst (λ z. is_short step z ≡ true) (sym back) short;
        spells = is.spells ∙ ap (number step) (sym back);
      }

  pub from_short : (text : List ℕ) → IsShortForm width step base text → IsNumberWithin step low high text
  from_short text is =
      let d : ℤ = is.value -ℤ base in
      let b = short_within step d is.short in
      let low_bound : mark step <ℤ d = b.0 in
      let high_bound : d <ℤ pos (half step) = b.1 in
      let least : neg_ℤ (pos (half width)) ≤ℤ is.value = is.fits.least in
      let greatest : is.value <ℤ pos (half width) = is.fits.greatest in
      record {
        value = d;
        least = omega (arith, ints, clamps, low_is, low_bound, least);
        greatest = omega (arith, ints, clamps, high_is, high_bound, greatest);
        spells = is.spells;
      }

module _ (width step : ℕ) (low high : ℤ) (order : low ≤ℤ high) (bytes : List ℕ) where
  prefix : List ℕ
  prefix = number step (mark step)

  -- the bytes leave the mark
  pub mark_stops : (place : ℕ) → place < step → IsLongestFront (IsNumberWithin step (mark step) (mark step)) bytes place → IsLongestFront (IsMarkedWithin width step low high) bytes place
  mark_stops place lt front =
      let i = front.begins.is in
      let value : i.value ≡ mark step = omega (arith, ints, i.least, i.greatest) in
      record {
        within = front.within;
        begins = record {
          text = number step (mark step) ++ number width low;
          is = record { value = low; least = omega (arith, ints); greatest = order; spells = refl };
          rest = front.begins.rest ++ number width low;
          begins = ap (λ (t : List ℕ). t ++ number width low) (ap (number step) (sym value) ∙ (sym i.spells ∙ front.begins.begins)) ∙ append_assoc (take place bytes) front.begins.rest (number width low);
        };
        longest = λ more within b.
            let same : number step (mark step) ++ number width b.is.value ≡ take more bytes ++ b.rest = sym b.is.spells ∙ b.begins in
            let long : length (take more bytes) ≡ more = length-take-le more bytes within in
            let long' : length (number step (mark step)) ≡ step = length-number step (mark step) in
            let cut : (k : ℕ) → k ≤ more → k ≤ step → k ≤ place = λ k le le'.
            let less : Begins (IsMarkedWithin width step low high) (take k bytes) = begins_less (IsMarkedWithin width step low high) bytes k more le within b in
            let same' : number step (mark step) ++ number width less.is.value ≡ take k bytes ++ less.rest = sym less.is.spells ∙ less.begins in
            let long'' : length (take k bytes) ≡ k = length-take-le k bytes (omega arith) in
            let o = overlap (number step (mark step)) (number width less.is.value) (take k bytes) less.rest same' (omega arith) in
            front.longest k (omega arith) (record {
              text = number step (mark step);
              is = record { value = mark step; least = omega (arith, ints); greatest = omega (arith, ints); spells = refl };
              rest = o.0;
              begins = o.1;
            }) in
            elim (cases_lt step more) [
              | inl lt' ↦ let bound : step ≤ place = cut step (omega arith) (omega arith) in absurd (omega arith)
              | inr le ↦ cut more (omega arith) le
            ];
      }

  -- the bytes begin with the mark
  pub mark_goes : (place : ℕ) → IsLongestFront (IsNumberWithin step (mark step) (mark step)) bytes step → IsLongestFront (IsNumberWithin width low high) (drop step bytes) place
      → IsLongestFront (IsMarkedWithin width step low high) bytes (step + place)
  mark_goes place front behind =
      let at : List ℕ = number step (mark step) in
      let i = front.begins.is in
      let value : i.value ≡ mark step = omega (arith, ints, i.least, i.greatest) in
      let long : length at ≡ step = length-number step (mark step) in
      let within' : step ≤ length bytes = front.within in
      let long' : length (take step bytes) ≡ step = length-take-le step bytes within' in
      let starts : at ≡ take step bytes ++ front.begins.rest = ap (number step) (sym value) ∙ (sym i.spells ∙ front.begins.begins) in
      let same : at ≡ take step bytes =
      sym (take_all step at (omega arith)) ∙ (ap (take step) starts ∙ take_front step (take step bytes) front.begins.rest long') in
      let whole : at ++ drop step bytes ≡ bytes = ap (λ (t : List ℕ). t ++ drop step bytes) same ∙ take-append-drop step bytes in
      let fronts : (k : ℕ) → take (step + k) bytes ≡ at ++ take k (drop step bytes) = λ k.
      ap (take (step + k)) (sym whole) ∙ (ap (λ (n : ℕ). take (n + k) (at ++ drop step bytes)) (sym long) ∙ take-append-add at (drop step bytes) k) in
      let b = behind.begins in
      let lengths : length (drop step bytes) ≡ length bytes - step = length-drop step bytes in
      record {
        within = let w : place ≤ length (drop step bytes) = behind.within in omega arith;
        begins = record {
          text = at ++ number width b.is.value;
          is = record { value = b.is.value; least = b.is.least; greatest = b.is.greatest; spells = refl };
          rest = b.rest;
          begins = ap (λ (t : List ℕ). at ++ t) (sym b.is.spells ∙ b.begins)
              ∙ (sym (append_assoc at (take place (drop step bytes)) b.rest) ∙ ap (λ (t : List ℕ). t ++ b.rest) (sym (fronts place)));
        };
        longest = λ more within x. elim (cases_lt more step) [
          | inl lt ↦ omega arith
          | inr le ↦
              let j : ℕ = more - step in
              let e : more ≡ step + j = omega arith in
              let cut : take more bytes ≡ at ++ take j (drop step bytes) = ap (λ (k : ℕ). take k bytes) e ∙ fronts j in
              let regrouped : at ++ number width x.is.value ≡ at ++ (take j (drop step bytes) ++ x.rest) =
              sym x.is.spells ∙ (x.begins ∙ (ap (λ (t : List ℕ). t ++ x.rest) cut ∙ append_assoc at (take j (drop step bytes)) x.rest)) in
              let rests : number width x.is.value ≡ take j (drop step bytes) ++ x.rest = append_cancel_left at (number width x.is.value) (take j (drop step bytes) ++ x.rest) regrouped in
              let bound : j ≤ place = behind.longest j (omega arith) (record {
                text = number width x.is.value;
                is = record { value = x.is.value; least = x.is.least; greatest = x.is.greatest; spells = refl };
                rest = x.rest;
                begins = rests;
              }) in
              omega arith
        ];
      }
    where
      take_front : (k : ℕ) (p q : List ℕ) → length p ≡ k → take k (p ++ q) ≡ p
      take_front k p q e = ap (λ (n : ℕ). take n (p ++ q)) (sym e) ∙ take_at' p q
        where
          take_at' : (p q : List ℕ) → take (length p) (p ++ q) ≡ p
          take_at' [] q = refl
          take_at' (x ∷ p) q = ap (λ (t : List ℕ). x ∷ t) (take_at' p q)

-- the forms near a base: short, or marked and at least as far below or above
abbrev pub IsForm : ℕ → ℕ → ℤ → List ℕ → Type 0
IsForm width step base text = (IsShortForm width step base text ⊎ IsMarkedWithin width step (neg_ℤ (pos (half width))) (base -ℤ pos (half step)) text)
    ⊎ IsMarkedWithin width step (base +ℤ pos (half step)) (pos (half width) -ℤ pos 1) text

module _ (width step : ℕ) (base : ℤ) (fits : FitsWidth width base) where
  pub from_forms : (text : List ℕ) → IsForm width step base text → IsItem (near_item width step base) (FitsWidth width) None text
  from_forms text is = elim is [
    | inl a ↦ elim a [
      | inl s ↦ record { value = s.value; fits = s.fits; spells = s.spells ∙ sym (form_short width step (s.value -ℤ base) s.value s.short) }
      | inr m ↦
          let least : neg_ℤ (pos (half width)) ≤ℤ m.value = m.least in
          let greatest : m.value ≤ℤ (base -ℤ pos (half step)) = m.greatest in
          let far : (m.value -ℤ base) ≤ℤ mark step = omega (arith, ints) in
          record {
            value = m.value;
            fits = record { least = least; greatest = omega (arith, ints, fits.greatest) };
            spells = m.spells ∙ sym (form_full width step (m.value -ℤ base) m.value (long_from_below step (m.value -ℤ base) far));
          }
    ]
    | inr m ↦
        let least : (base +ℤ pos (half step)) ≤ℤ m.value = m.least in
        let greatest : m.value ≤ℤ (pos (half width) -ℤ pos 1) = m.greatest in
        let far : pos (half step) ≤ℤ (m.value -ℤ base) = omega (arith, ints) in
        record {
          value = m.value;
          fits = record { least = omega (arith, ints, fits.least); greatest = omega (arith, ints) };
          spells = m.spells ∙ sym (form_full width step (m.value -ℤ base) m.value (long_from_above step (m.value -ℤ base) far));
        }
  ]

  pub to_forms : (text : List ℕ) → IsItem (near_item width step base) (FitsWidth width) None text → IsForm width step base text
  to_forms text is = elim (cases_Bool (is_short step (is.value -ℤ base))) [
    | inl short ↦ inl (inl (record { value = is.value; fits = is.fits; short = short; spells = is.spells ∙ form_short width step (is.value -ℤ base) is.value short }))
    | inr long ↦
        let spells : text ≡ number step (mark step) ++ number width is.value = is.spells ∙ form_full width step (is.value -ℤ base) is.value long in
        let least : neg_ℤ (pos (half width)) ≤ℤ is.value = is.fits.least in
        let greatest : is.value <ℤ pos (half width) = is.fits.greatest in
        elim (long_cases step (is.value -ℤ base) long) [
          | inl below ↦ inl (inr (record { value = is.value; least = least; greatest = omega (arith, ints, below); spells = spells }))
          | inr above ↦ inr (record { value = is.value; least = omega (arith, ints, above); greatest = omega (arith, ints, greatest); spells = spells })
        ]
  ]

-- no front is longer than the number
pub front_within : (width : ℕ) (low high : ℤ) (bytes : List ℕ) (place : ℕ) → IsLongestFront (IsNumberWithin width low high) bytes place → place ≤ width
front_within width low high bytes place front =
    let within : place ≤ length bytes = front.within in
    let long : length (take place bytes) ≡ place = length-take-le place bytes within in
    let bound : length (take place bytes) ≤ width = begins_within_width width low high (take place bytes) front.begins in
    omega arith
