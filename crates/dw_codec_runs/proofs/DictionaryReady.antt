-- The items of each shape meet what the spelling needs of them; and how heads begin.
use Rattle.std.proofs.Common.{◌≡◌, ◌≢◌, ℕ, zero, suc, ◌/◌, ◌%◌, ◌≤◌, ◌<◌, ◌⊎◌, inl, inr, Bool, true, false, not, List, [], ◌∷◌, ◌++◌, length, take, drop, get_or, refl, sym, ap, ◌∙◌, subst, arith, length-append}
use Rattle.std.specs.Prelude.{All, nat_eq}
use Rattle.std.proofs.lemmas.Bool.{cases_lt, false≢true, not-true, eqb-false, eqb-true, cases_Bool}
use Rattle.std.proofs.lemmas.List.{append-nil, length-take-le, take-append-drop, nil_from_length}
use Rattle.std.proofs.lemmas.List.Elements.{All-weaker}
use Rattle.dw_codec_plain.specs.Numbers.{low_bytes, natural_of}
use Rattle.dw_codec_plain.specs.Spelling.{Begins, IsLongestFront}
use Rattle.dw_codec_plain.proofs.Naturals.{AreBytes, taken_are_bytes, low_bytes-natural_of}
use Rattle.dw_codec_runs.specs.DictionaryParts.{IsItemOf, IsShape, is_wide, head_of, AreNew, IsShortHead, IsHead, IsFirstByte, NoneFirst}
use Rattle.dw_codec_runs.specs.declared.dictionary_item.Shape.{Shape}
use Rattle.dw_codec_runs.specs.declared.dictionary_item.Shape.TheVariants.{Number, Text}
use Rattle.dw_codec_runs.proofs.DictionaryFresh.{fresh_front, fresh_deep, at_most}
use Rattle.dw_codec_runs.proofs.DictionaryShapes.{HasTurns, turns, some_item, length_number_item}
use Rattle.dw_codec_runs.proofs.DictionaryStates.{AreItems, AreMany}

pub are_items : (shape : Shape) → IsShape shape → AreItems (IsItemOf shape)
are_items shape is =
    let facts : HasTurns (IsItemOf shape) (head_of shape) = turns shape is in
    let some = some_item shape is in
    record {
      apart = facts.apart;
      filled = facts.filled;
      fresh = λ known lt. fresh_front (IsItemOf shape) (head_of shape) facts known [] some.0 some.1 some.2 lt;
    }

deep_item : (shape : Shape) → IsShape shape → is_wide shape ≡ true → (b : ℕ) × (g : List ℕ) × IsItemOf shape (b ∷ g) × ((0 < length g) ⊎ (0 < head_of shape))
deep_item (Number width) is wide =
    let some = some_item (Number width) is in
    let other : nat_eq width 1 ≡ false = not-true (nat_eq width 1) wide in
    let apart : width ≢ 1 = eqb-false width 1 other in
    let long : suc (length some.1) ≡ width = length_number_item width (some.0 ∷ some.1) some.2 in
    (some.0, some.1, some.2, inl (omega (arith, long, apart)))
deep_item Text is wide = let some = some_item Text is in (some.0, some.1, some.2, inr (omega arith))

pub are_many : (shape : Shape) → IsShape shape → is_wide shape ≡ true → AreMany (IsItemOf shape)
are_many shape is wide =
    let some = deep_item shape is wide in
    record { fresh = λ known le. fresh_deep (IsItemOf shape) (head_of shape) (turns shape is) known [] some.0 some.1 some.2 some.3 le }

one_byte : (u : List ℕ) → length u ≡ 1 → u ≡ get_or u 0 0 ∷ []
one_byte [] e = absurd (omega arith)
one_byte (b ∷ []) e = refl
one_byte (b ∷ c ∷ u) e = absurd (omega arith)

pub are_few : (shape : Shape) → IsShape shape → is_wide shape ≡ false → (known : List (List ℕ)) → AreNew [] known → All (IsItemOf shape) known → length known ≤ 256
are_few (Number width) is narrow known new each =
    let one : width ≡ 1 = elim (cases_Bool (nat_eq width 1)) [
      | inl e ↦ eqb-true width 1 e
      | inr e ↦ absurd (false≢true (sym narrow ∙ ap not e))
    ] in
    let facts : HasTurns (IsItemOf (Number width)) 0 = turns (Number width) is in
    at_most [] known new (All-weaker (IsItemOf (Number width)) AreBytes facts.bytes known each)
    (All-weaker (IsItemOf (Number width)) (λ u. u ≡ get_or u 0 0 ∷ []) (λ u i. one_byte u (length_number_item width u i ∙ one)) known each)
are_few Text is narrow known new each = absurd (false≢true (sym narrow))

-- heads
pub head_length : (wide : Bool) (count : ℕ) (h : List ℕ) → IsHead wide count h → length h ≡ 2
head_length wide count h (inl s) = let e = s.1 in ap length e.is
head_length wide count h (inr s) = ap length s.is

pub some_head : (wide : Bool) (count : ℕ) → (h : List ℕ) × IsHead wide count h
some_head wide zero = (low_bytes 2 0, inl (0, record { most = omega arith; enough = omega arith; some = inl refl; is = refl }))
some_head wide (suc count) = (low_bytes 2 1, inl (1, record { most = omega arith; enough = omega arith; some = inr (omega arith); is = refl }))

first_begins : (wide : Bool) (count byte : ℕ) → byte < 256 → IsFirstByte count byte → (h : List ℕ) × IsHead wide count (byte ∷ h)
first_begins wide count byte lt (inl none) = elim none.1 [
  | inl empty ↦ (0 ∷ [], inl (0, record { most = omega arith; enough = omega arith; some = inl empty; is = ap (λ (b : ℕ). b ∷ 0 ∷ []) none.0 }))
  | inr full ↦ (1 ∷ [], inl (256, record { most = omega arith; enough = full; some = inr (omega arith); is = ap (λ (b : ℕ). b ∷ 1 ∷ []) none.0 }))
]
first_begins wide count byte lt (inr some) =
    let low : byte % 256 ≡ byte = omega arith in
    let high : byte / 256 % 256 ≡ 0 = omega arith in
    (0 ∷ [], inl (byte, record { most = omega arith; enough = some.1; some = inr some.0; is = rw (low, high) refl }))

first_only : (wide : Bool) (count byte : ℕ) (h : List ℕ) → IsHead wide count (byte ∷ h) → IsFirstByte count byte
first_only wide count byte h (inl s) =
    let n : ℕ = s.0 in
    let i = s.1 in
    let most : n ≤ 256 = i.most in
    let enough : n ≤ count = i.enough in
    let same : byte ∷ h ≡ n % 256 ∷ n / 256 % 256 ∷ [] = i.is in
    let low : byte ≡ n % 256 = cc in
    elim (cases_lt n 256) [
      | inl small ↦ elim i.some [
        | inl empty ↦ inl (omega arith, inl empty)
        | inr some ↦ inr (omega arith, omega arith)
      ]
      | inr full ↦ inl (omega arith, inr (omega arith))
    ]
first_only wide count byte h (inr s) =
    let same : byte ∷ h ≡ 255 ∷ 255 ∷ [] = s.is in
    let low : byte ≡ 255 = cc in
    let enough : 256 < count = s.enough in
    inr (omega arith, omega arith)

pub head_empty : (wide : Bool) (count : ℕ) (bytes : List ℕ) → length bytes ≡ 0 → IsLongestFront (IsHead wide count) bytes 0
head_empty wide count bytes none =
    let some = some_head wide count in
    record {
      within = omega arith;
      begins = record { text = some.0; is = some.1; rest = some.0; begins = refl };
      longest = λ more within b. omega arith;
    }

pub head_first : (wide : Bool) (count : ℕ) (bytes : List ℕ) → AreBytes bytes → 0 < length bytes → IsFirstByte count (get_or bytes 0 0) → NoneFirst (IsHead wide count) bytes → IsLongestFront (IsHead wide count) bytes 1
head_first wide count [] are some first none = absurd (omega arith)
head_first wide count (byte ∷ tail) are some first none =
    let bytes : List ℕ = byte ∷ tail in
    let h = first_begins wide count byte (are 0) first in
    record {
      within = omega arith;
      begins = record { text = byte ∷ h.0; is = h.1; rest = h.0; begins = refl };
      longest = λ more within b. elim (cases_lt 1 more) [
        | inl past ↦
            let two : length b.text ≡ 2 = head_length wide count b.text b.is in
            let long : length (take more bytes) ≡ more = length-take-le more bytes within in
            let whole : more ≡ 2 = omega (arith, two, long, ap length b.begins, length-append (take more bytes) b.rest) in
            let gone : length b.rest ≡ 0 = omega (arith, two, long, ap length b.begins, length-append (take more bytes) b.rest) in
            let same : b.text ≡ take more bytes = b.begins ∙ (ap (λ (t : List ℕ). take more bytes ++ t) (nil_from_length b.rest gone) ∙ append-nil (take more bytes)) in
            absurd (none b.text (drop more bytes) b.is (sym (take-append-drop more bytes) ∙ ap (λ (t : List ℕ). t ++ drop more bytes) (sym same)))
        | inr le ↦ le
      ];
    }

head_next : (wide : Bool) (count : ℕ) (bytes : List ℕ) (more : ℕ) → more ≤ length bytes → (IsFirstByte count (get_or bytes 0 0) → ⊥) → Begins (IsHead wide count) (take more bytes) → more ≤ 0
head_next wide count bytes zero within dead b = omega arith
head_next wide count [] (suc more) within dead b = absurd (omega arith)
head_next wide count (byte ∷ tail) (suc more) within dead b =
    absurd (dead (first_only wide count byte (take more tail ++ b.rest) (subst (IsHead wide count) b.begins b.is)))

pub head_dead : (wide : Bool) (count : ℕ) (bytes : List ℕ) → (IsFirstByte count (get_or bytes 0 0) → ⊥) → IsLongestFront (IsHead wide count) bytes 0
head_dead wide count bytes dead =
    let some = some_head wide count in
    record {
      within = omega arith;
      begins = record { text = some.0; is = some.1; rest = some.0; begins = refl };
      longest = λ more within b. head_next wide count bytes more within dead b;
    }

-- two bytes are those of the number that they are
pub two_bytes : (bytes : List ℕ) (n : ℕ) → AreBytes bytes → 2 ≤ length bytes → n ≡ natural_of (take 2 bytes) → low_bytes 2 n ≡ take 2 bytes
two_bytes bytes n are enough is =
    let long : length (take 2 bytes) ≡ 2 = length-take-le 2 bytes enough in
    ap (low_bytes 2) is ∙ (ap (λ (l : ℕ). low_bytes l (natural_of (take 2 bytes))) (sym long) ∙ low_bytes-natural_of (take 2 bytes) (taken_are_bytes 2 bytes are))

pub head_none : (wide : Bool) (count : ℕ) (bytes : List ℕ) (n : ℕ) → n ≡ natural_of (take 2 bytes) → (IsShortHead count n (low_bytes 2 n) → ⊥) → ((wide ≡ true) × (256 < count) × (n ≡ 65535) → ⊥) → NoneFirst (IsHead wide count) bytes
head_none wide count bytes n is short long h rest (inl s) same =
    let m : ℕ = s.0 in
    let i = s.1 in
    let most : m ≤ 256 = i.most in
    let front : take 2 bytes ≡ low_bytes 2 m = ap (take 2) (same ∙ ap (λ (t : List ℕ). t ++ rest) i.is) in
    let e : n ≡ m = omega (arith, is, ap natural_of front) in
    short (record { most = omega arith; enough = let x : m ≤ count = i.enough in omega arith; some = subst (λ k. (count ≡ 0) ⊎ (0 < k)) (sym e) i.some; is = refl })
head_none wide count bytes n is short long h rest (inr s) same =
    let front : take 2 bytes ≡ 255 ∷ 255 ∷ [] = ap (take 2) (same ∙ ap (λ (t : List ℕ). t ++ rest) s.is) in
    long (s.room, s.enough, is ∙ ap natural_of front)

pub head_short : (wide : Bool) (count : ℕ) (bytes : List ℕ) → length bytes < 2 → NoneFirst (IsHead wide count) bytes
head_short wide count bytes lt h rest is same = omega (arith, ap length same, length-append h rest, head_length wide count h is)
