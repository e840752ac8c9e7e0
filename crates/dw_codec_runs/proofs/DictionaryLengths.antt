-- How long the item is that bytes begin with, and how far they begin one.
use Rattle.std.proofs.Common.{◌≡◌, ◌≢◌, ℕ, suc, ◌+◌, ◌-◌, ◌*◌, ◌≤◌, ◌<◌, min, inl, inr, true, false, List, [], ◌∷◌, ◌++◌, length, take, drop, get_or, refl, sym, ap, ◌∙◌, append_assoc, subst, arith, length-append, length-drop}
use Rattle.std.specs.Prelude.{All, replicate, nat_eq}
use Rattle.std.proofs.lemmas.Bool.{cases_lt, false≢true, not-true, eqb-false}
use Rattle.std.proofs.lemmas.List.{append-nil, length-replicate, take_all, take_at, take-take, length-take-le, take-append-drop, drop_more, take_more, nil_from_length}
use Rattle.dw_codec_plain.specs.Numbers.{IsWidth, natural_of, number}
use Rattle.dw_codec_plain.specs.Spelling.{Begins, IsLongestFront}
use Rattle.dw_codec_plain.proofs.Fronts.{begins_less}
use Rattle.dw_codec_plain.proofs.Naturals.{AreBytes, taken_are_bytes}
use Rattle.dw_codec_plain.proofs.Signed.{IsSized, sized}
use Rattle.dw_codec_plain.proofs.RawItems.{number_begins, length-number, filled_are_bytes}
use Rattle.dw_codec_plain.proofs.TextItems.{length-raw_text}
use Rattle.dw_codec_runs.specs.Dictionary.{is_known}
use Rattle.dw_codec_runs.specs.DictionaryParts.{IsItemOf, IsShape, is_wide, head_of, IsItemAt, IsCutHead, IsUnknown, IsExhausted, NoneFirst, AreNew}
use Rattle.dw_codec_runs.specs.declared.dictionary_item.Shape.{Shape}
use Rattle.dw_codec_runs.specs.declared.dictionary_item.Shape.TheVariants.{Number, Text}
use Rattle.dw_codec_runs.proofs.DictionaryShapes.{HasTurns, turns, number_item, length_number_item, text_item, tail_bytes}
use Rattle.dw_codec_runs.proofs.DictionaryFresh.{fresh_deep, fresh_unless, exhausted, fresh_before}

pub number_len : (width : ℕ) → IsWidth width → (bytes : List ℕ) → AreBytes bytes → IsItemAt (Number width) bytes width
number_len width is bytes are = elim (cases_lt (length bytes) width) [
  | inl short ↦
      let r = number_begins width is bytes are (omega arith) in
      let item : List ℕ = number width r.0 in
      record {
        item = item;
        is = record { value = r.0; fits = r.1; spells = refl };
        long = length-number width r.0;
        agrees = take_all width bytes (omega arith) ∙ (sym (take_at bytes r.2 (length bytes) refl) ∙ ap (take (length bytes)) (sym r.3));
      }
  | inr enough ↦
      let item : List ℕ = take width bytes in
      let long : length item ≡ width = length-take-le width bytes enough in
      record {
        item = item;
        is = number_item width is item (taken_are_bytes width bytes are) long;
        long = long;
        agrees = sym (take_all (length bytes) item (omega arith));
      }
]

pub text_cut : (bytes : List ℕ) → AreBytes bytes → length bytes < 2 → IsCutHead Text bytes
text_cut [] are short = record {
  item = 0 ∷ 0 ∷ [];
  is = text_item 0 0 [] (omega arith) (omega arith) (λ i. omega arith) refl;
  short = omega arith;
  longer = omega arith;
  agrees = refl;
}
text_cut (x ∷ []) are short = record {
  item = x ∷ 0 ∷ replicate x 0;
  is = text_item x 0 (replicate x 0) (are 0) (omega arith) (λ i. filled_are_bytes [] x (λ j. omega arith) i) (omega (arith, length-replicate {A = ℕ} x 0));
  short = omega arith;
  longer = omega arith;
  agrees = refl;
}
text_cut (x ∷ y ∷ bytes) are short = absurd (omega arith)

text_at_parts : (l h : ℕ) (tail : List ℕ) (n : ℕ) → AreBytes (l ∷ h ∷ tail) → n ≡ l + 256 * h → IsItemAt Text (l ∷ h ∷ tail) (suc (suc n))
text_at_parts l h tail n are is =
    let are' : AreBytes tail = tail_bytes (l ∷ h ∷ []) tail are in
    let low : l < 256 = are 0 in
    let high : h < 256 = are 1 in
    elim (cases_lt (length tail) n) [
      | inl cut ↦
          let more : List ℕ = replicate (n - length tail) 0 in
          let long : length (tail ++ more) ≡ n = omega (arith, length-append tail more, length-replicate {A = ℕ} (n - length tail) 0) in
          record {
            item = l ∷ h ∷ (tail ++ more);
            is = text_item l h (tail ++ more) low high (filled_are_bytes tail (n - length tail) are') (long ∙ is);
            long = omega (arith, long);
            agrees = ap (λ (t : List ℕ). l ∷ h ∷ t) (take_all n tail (omega arith) ∙ sym (take_at tail more (length tail) refl));
          }
      | inr enough ↦
          let body : List ℕ = take n tail in
          let long : length body ≡ n = length-take-le n tail enough in
          record {
            item = l ∷ h ∷ body;
            is = text_item l h body low high (taken_are_bytes n tail are') (long ∙ is);
            long = omega (arith, long);
            agrees = ap (λ (t : List ℕ). l ∷ h ∷ t) (sym (take_all (length tail) body (omega arith)));
          }
    ]

pub text_len : (bytes : List ℕ) (n len : ℕ) → AreBytes bytes → 2 ≤ length bytes → n ≡ natural_of (take 2 bytes) → len ≡ 2 + n → IsItemAt Text bytes len
text_len [] n len are enough is e = absurd (omega arith)
text_len (x ∷ []) n len are enough is e = absurd (omega arith)
text_len (l ∷ h ∷ tail) n len are enough is e =
    let said : n ≡ l + 256 * h = omega arith in
    let same : suc (suc n) ≡ len = omega arith in
    subst (IsItemAt Text (l ∷ h ∷ tail)) same (text_at_parts l h tail n are said)

module _ (shape : Shape) (is_shape : IsShape shape) (bytes : List ℕ) where
  Is : List ℕ → Type 0
  Is = IsItemOf shape

  facts : HasTurns (IsItemOf shape) (head_of shape)
  facts = turns shape is_shape

  -- bytes that end within an item
  cut_none : (item : List ℕ) → IsItemOf shape item → length bytes < length item → bytes ≡ take (length bytes) item → NoneFirst (IsItemOf shape) bytes
  cut_none item is lt agrees other rest is' same =
      let whole : item ++ [] ≡ other ++ (rest ++ drop (length bytes) item) =
      append-nil item ∙ (sym (take-append-drop (length bytes) item) ∙ (ap (λ (t : List ℕ). t ++ drop (length bytes) item) (sym agrees ∙ same) ∙ append_assoc other rest (drop (length bytes) item))) in
      let one : item ≡ other = facts.apart item other [] (rest ++ drop (length bytes) item) is is' whole in
      omega (arith, lt, ap length one, ap length same, length-append other rest)

  cut_front : (item : List ℕ) → IsItemOf shape item → bytes ≡ take (length bytes) item → IsLongestFront (IsItemOf shape) bytes (length bytes)
  cut_front item is agrees = record {
    within = omega arith;
    begins = record {
      text = item;
      is = is;
      rest = drop (length bytes) item;
      begins = sym (take-append-drop (length bytes) item) ∙ ap (λ (t : List ℕ). t ++ drop (length bytes) item) (sym agrees ∙ sym (take_all (length bytes) bytes (omega arith)));
    };
    longest = λ more within b. within;
  }

  pub head_none : IsCutHead shape bytes → NoneFirst (IsItemOf shape) bytes
  head_none cut = cut_none cut.item cut.is cut.longer cut.agrees

  pub head_front : IsCutHead shape bytes → IsLongestFront (IsItemOf shape) bytes (length bytes)
  head_front cut = cut_front cut.item cut.is cut.agrees

  agrees_cut : (len : ℕ) (at : IsItemAt shape bytes len) → length bytes < len → bytes ≡ take (length bytes) at.item
  agrees_cut len at lt = sym (take_all len bytes (omega arith)) ∙ at.agrees

  pub item_none : (len : ℕ) → IsItemAt shape bytes len → length bytes < len → NoneFirst (IsItemOf shape) bytes
  item_none len at lt = cut_none at.item at.is (let e : length at.item ≡ len = at.long in omega arith) (agrees_cut len at lt)

  pub item_front : (len : ℕ) → IsItemAt shape bytes len → length bytes < len → IsLongestFront (IsItemOf shape) bytes (length bytes)
  item_front len at lt = cut_front at.item at.is (agrees_cut len at lt)

  agrees_whole : (len : ℕ) (at : IsItemAt shape bytes len) → len ≤ length bytes → take len bytes ≡ at.item
  agrees_whole len at le = at.agrees ∙ take_all (length bytes) at.item (let e : length at.item ≡ len = at.long in omega arith)

  pub item_whole : (len : ℕ) → IsItemAt shape bytes len → len ≤ length bytes → IsItemOf shape (take len bytes)
  item_whole len at le = subst (IsItemOf shape) (sym (agrees_whole len at le)) at.is

  module _ (known : List (List ℕ)) where
    pub unknown_none : NoneFirst (IsItemOf shape) bytes → NoneFirst (IsUnknown shape known) bytes
    unknown_none none item rest is same = none item rest is.is same

    pub known_none : (len : ℕ) → IsItemOf shape (take len bytes) → is_known known (take len bytes) ≡ true → NoneFirst (IsUnknown shape known) bytes
    known_none len is here item rest is' same =
        let one : take len bytes ≡ item = facts.apart (take len bytes) item (drop len bytes) rest is is'.is (take-append-drop len bytes ∙ same) in
        false≢true (sym is'.out ∙ (ap (is_known known) (sym one) ∙ here))

    split : (k : ℕ) (t : List ℕ) → k < length t → t ≡ take k t ++ get_or t k 0 ∷ drop (k + 1) t
    split k t lt = sym (take-append-drop k t) ∙ ap (λ (u : List ℕ). take k t ++ u) (drop_more t k 0 lt)

    -- an unknown item that begins with a front of the bytes
    begins_by : (place : ℕ) → (h : List ℕ) × IsItemOf shape (take place bytes ++ h) × (is_known known (take place bytes ++ h) ≡ false) → Begins (IsUnknown shape known) (take place bytes)
    begins_by place r = record { text = take place bytes ++ r.0; is = record { is = r.1; out = r.2 }; rest = r.0; begins = refl }

    pub unknown_head : IsCutHead shape bytes → length known ≤ 256 → IsLongestFront (IsUnknown shape known) bytes (length bytes)
    unknown_head cut le =
        let n : ℕ = length bytes in
        let b : ℕ = get_or cut.item n 0 in
        let g : List ℕ = drop (n + 1) cut.item in
        let whole : take n bytes ≡ bytes = take_all n bytes (omega arith) in
        let is : IsItemOf shape (take n bytes ++ b ∷ g) = subst (IsItemOf shape) (split n cut.item cut.longer ∙ ap (λ (t : List ℕ). t ++ b ∷ g) (sym cut.agrees ∙ sym whole)) cut.is in
        let short : length (take n bytes) < head_of shape = let s : n < head_of shape = cut.short in omega (arith, ap length whole) in
        record {
          within = omega arith;
          begins = begins_by n (fresh_deep (IsItemOf shape) (head_of shape) facts known (take n bytes) b g is (inr short) le);
          longest = λ more within b. within;
        }

    module _ (len : ℕ) (at : IsItemAt shape bytes len) (place : ℕ) (is_place : place ≡ min (length bytes) (len - 1)) where
      pub filled_len : 0 < len
      filled_len = let some : 0 < length at.item = facts.filled at.item at.is in let e : length at.item ≡ len = at.long in omega arith

      place_before : place < length at.item
      place_before = let some : 0 < len = filled_len in let e : length at.item ≡ len = at.long in omega arith

      left_byte : ℕ
      left_byte = get_or at.item place 0

      left_rest : List ℕ
      left_rest = drop (place + 1) at.item

      same_front : take place at.item ≡ take place bytes
      same_front =
          sym (take-take place (length bytes) at.item (omega arith)) ∙ (ap (take place) (sym at.agrees) ∙ take-take place len bytes (omega arith))

      front_item : IsItemOf shape (take place bytes ++ left_byte ∷ left_rest)
      unfolding left_byte left_rest
      front_item =
          subst (IsItemOf shape) (split place at.item place_before ∙ ap (λ (t : List ℕ). t ++ get_or at.item place 0 ∷ drop (place + 1) at.item) same_front) at.is

      long_front : length (take place bytes) ≡ place
      long_front = length-take-le place bytes (omega arith)

      left_length : length left_rest + place + 1 ≡ len
      unfolding left_rest
      left_length = let lt : place < length at.item = place_before in omega (arith, lt, length-drop (place + 1) at.item, at.long)

      module _ (none : NoneFirst (IsUnknown shape known) bytes) where
        longest_place : (more : ℕ) → more ≤ length bytes → Begins (IsUnknown shape known) (take more bytes) → more ≤ place
        longest_place more within b = elim (cases_lt place more) [
          | inl past ↦
              let le : len ≤ length bytes = omega arith in
              let le' : len ≤ more = omega arith in
              let front : take len (take more bytes) ≡ take len bytes = take-take len more bytes le' in
              let text : List ℕ = b.text in
              let same : take len bytes ++ (drop len (take more bytes) ++ b.rest) ≡ text ++ [] =
              ap (λ (t : List ℕ). t ++ (drop len (take more bytes) ++ b.rest)) (sym front)
              ∙ (sym (append_assoc (take len (take more bytes)) (drop len (take more bytes)) b.rest)
              ∙ (ap (λ (t : List ℕ). t ++ b.rest) (take-append-drop len (take more bytes)) ∙ (sym b.begins ∙ sym (append-nil text)))) in
              let one : take len bytes ≡ text = facts.apart (take len bytes) text (drop len (take more bytes) ++ b.rest) [] (item_whole len at le) b.is.is same in
              absurd (none text (drop len bytes) b.is (sym (take-append-drop len bytes) ∙ ap (λ (t : List ℕ). t ++ drop len bytes) one))
          | inr le ↦ le
        ]

        pub unknown_place : length known ≤ 256 → ¬ IsExhausted shape known len (take place bytes) → IsLongestFront (IsUnknown shape known) bytes place
        unknown_place le unless = record {
          within = omega arith;
          begins = begins_by place (fresh_unless (IsItemOf shape) (head_of shape) facts known (take place bytes) left_byte left_rest front_item le
              (λ e. unless (record {
                full = e.0;
                last = let none_left : length left_rest ≡ 0 = e.1 in omega (arith, left_length, long_front);
                told = e.2;
                all = e.3;
              })));
          longest = longest_place;
        }

        pub exhausted_place : (before : ℕ) → place ≡ suc before → length known ≤ 256 → AreNew [] known → All (IsItemOf shape) known → IsExhausted shape known len (take place bytes) → IsLongestFront (IsUnknown shape known) bytes before
        exhausted_place before is_before most new each ex =
            let f : List ℕ = take place bytes in
            let y : ℕ = get_or bytes before 0 in
            let last_f : f ≡ take before bytes ++ y ∷ [] =
            ap (λ (k : ℕ). take k bytes) (is_before ∙ suc_is before) ∙ take_more bytes before 0 (let w : place ≤ length bytes = omega arith in omega arith) in
            let alone : length left_rest ≡ 0 = let e : length (take place bytes) + 1 ≡ len = ex.last in omega (arith, e, left_length, long_front) in
            let is : IsItemOf shape (f ++ left_byte ∷ []) = subst (λ (t : List ℕ). IsItemOf shape (f ++ left_byte ∷ t)) (nil_from_length left_rest alone) front_item in
            record {
              within = omega arith;
              begins = begins_by before (fresh_before (IsItemOf shape) (head_of shape) facts known f left_byte is ex.told ex.full new each ex.all (take before bytes) y last_f);
              longest = λ more within b. elim (cases_lt before more) [
                | inl past ↦
                    let b' : Begins (IsUnknown shape known) (take place bytes) = begins_less (IsUnknown shape known) bytes place more (omega arith) within b in
                    let here : is_known known (f ++ b'.rest) ≡ true =
                    exhausted (IsItemOf shape) (head_of shape) facts known f left_byte is ex.told ex.full new each ex.all b'.rest (subst (IsItemOf shape) b'.begins b'.is.is) in
                    absurd (false≢true (sym b'.is.out ∙ (ap (is_known known) b'.begins ∙ here)))
                | inr le ↦ le
              ];
            }
          where
            suc_is : (n : ℕ) → suc n ≡ n + 1
            suc_is n = omega arith

-- an item of a wide shape has two bytes or more
pub wide_len : (shape : Shape) (bytes : List ℕ) (len : ℕ) → IsShape shape → IsItemAt shape bytes len → is_wide shape ≡ true → 2 ≤ len
wide_len (Number width) bytes len is at wide =
    let long : length at.item ≡ len = at.long in
    let size : IsSized width = sized width is in
    let other : nat_eq width 1 ≡ false = not-true (nat_eq width 1) wide in
    let apart : width ≢ 1 = eqb-false width 1 other in
    omega (arith, long, size.some, apart, length_number_item width at.item at.is)
wide_len Text bytes len is at wide =
    let item = at.is in
    omega (arith, at.long, ap length item.spells, length-raw_text item.text)
