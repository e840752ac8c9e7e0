-- The items of each shape: each byte may stand at each place of one.
use Rattle.std.proofs.Common.{◌≡◌, ℕ, zero, suc, ◌+◌, ◌-◌, ◌*◌, ◌/◌, ◌%◌, ◌≤◌, ◌<◌, ◌⊎◌, inl, inr, List, [], ◌∷◌, ◌++◌, length, get_or, refl, sym, ap, ◌∙◌, subst, arith, length-append}
use Rattle.std.specs.Prelude.{All, replicate}
use Rattle.std.specs.Int.{w128, cast_unsigned}
use Rattle.std.proofs.lemmas.Bool.{cases_lt}
use Rattle.std.proofs.lemmas.List.{length-replicate, get_or_past}
use Rattle.std.proofs.lemmas.List.Elements.{All-from_get_or, All-get_or}
use Rattle.dw_codec_plain.specs.Numbers.{IsWidth}
use Rattle.dw_codec_plain.specs.Encodings.{raw_text}
use Rattle.dw_codec_plain.proofs.Fronts.{same_front}
use Rattle.dw_codec_plain.proofs.Naturals.{AreBytes, low_bytes_are_bytes}
use Rattle.dw_codec_plain.proofs.Signed.{IsSized, sized, number_of_bytes}
use Rattle.dw_codec_plain.proofs.RawItems.{length-number, filled_are_bytes}
use Rattle.dw_codec_plain.proofs.TextItems.{texts_apart, length-raw_text}
use Rattle.dw_codec_runs.specs.DictionaryParts.{IsNumberItem, IsTextItem, IsItemOf, IsShape, head_of}
use Rattle.dw_codec_runs.specs.declared.dictionary_item.Shape.{Shape}
use Rattle.dw_codec_runs.specs.declared.dictionary_item.Shape.TheVariants.{Number, Text}

-- how items go on behind a front
pub record HasTurns (Is : List ℕ → Type 0) (head : ℕ) : Type 0 where
  pub turn : (f : List ℕ) (b c : ℕ) (g : List ℕ) → Is (f ++ b ∷ g) → c < 256 → (h : List ℕ) × Is (f ++ c ∷ h)
  pub deep : (f : List ℕ) (b c : ℕ) (g : List ℕ) → Is (f ++ b ∷ g) → ((0 < length g) ⊎ (length f < head)) → 0 < c → c < 256 → (d : ℕ) × (h : List ℕ) × Is (f ++ c ∷ d ∷ h)
  pub last : (f x y : List ℕ) → Is (f ++ x) → Is (f ++ y) → head ≤ length f → length x ≡ length y
  pub bytes : (t : List ℕ) → Is t → AreBytes t
  pub apart : (t u x y : List ℕ) → Is t → Is u → t ++ x ≡ u ++ y → t ≡ u
  pub filled : (t : List ℕ) → Is t → 0 < length t

-- another byte in place of one
replaced : (f : List ℕ) (b c : ℕ) (g : List ℕ) → AreBytes (f ++ b ∷ g) → c < 256 → AreBytes (f ++ c ∷ g)
replaced [] b c g are lt zero = lt
replaced [] b c g are lt (suc i) = are (suc i)
replaced (x ∷ f) b c g are lt zero = are 0
replaced (x ∷ f) b c g are lt (suc i) = replaced f b c g (λ j. are (suc j)) lt i

pub tail_bytes : (f g : List ℕ) → AreBytes (f ++ g) → AreBytes g
tail_bytes [] g are = are
tail_bytes (x ∷ f) g are = tail_bytes f g (λ i. are (suc i))

-- numbers
pub number_item : (width : ℕ) → IsWidth width → (t : List ℕ) → AreBytes t → length t ≡ width → IsNumberItem width t
number_item width is t are long = let r = number_of_bytes width is t are long in record { value = r.0; fits = r.1; spells = sym r.2 }

pub length_number_item : (width : ℕ) (t : List ℕ) → IsNumberItem width t → length t ≡ width
length_number_item width t item = ap length item.spells ∙ length-number width item.value

number_bytes : (width : ℕ) (t : List ℕ) → IsNumberItem width t → AreBytes t
number_bytes width t item = subst AreBytes (sym item.spells) (low_bytes_are_bytes width (cast_unsigned w128 item.value))

number_turn : (width : ℕ) → IsWidth width → (f : List ℕ) (b c : ℕ) (g : List ℕ) → IsNumberItem width (f ++ b ∷ g) → c < 256 → IsNumberItem width (f ++ c ∷ g)
number_turn width is f b c g item lt =
    number_item width is (f ++ c ∷ g) (replaced f b c g (number_bytes width (f ++ b ∷ g) item) lt)
    (omega (arith, length-append f (c ∷ g), length-append f (b ∷ g), length_number_item width (f ++ b ∷ g) item))

number_deep : (width : ℕ) → IsWidth width → (f : List ℕ) (b c : ℕ) (g : List ℕ) → IsNumberItem width (f ++ b ∷ g) → ((0 < length g) ⊎ (length f < 0)) → c < 256 → (d : ℕ) × (h : List ℕ) × IsNumberItem width (f ++ c ∷ d ∷ h)
number_deep width is f b c [] item (inl some) lt = absurd (omega arith)
number_deep width is f b c [] item (inr some) lt = absurd (omega arith)
number_deep width is f b c (d ∷ h) item deep lt = (d, h, number_turn width is f b c (d ∷ h) item lt)

pub number_turns : (width : ℕ) → IsWidth width → HasTurns (IsNumberItem width) 0
number_turns width is = record {
  turn = λ f b c g item lt. (g, number_turn width is f b c g item lt);
  deep = λ f b c g item deep some lt. number_deep width is f b c g item deep lt;
  last = λ f x y item other le.
      omega (arith, length-append f x, length-append f y, length_number_item width (f ++ x) item, length_number_item width (f ++ y) other);
  bytes = number_bytes width;
  apart = λ t u x y item other same. (same_front t x u y same (length_number_item width t item ∙ sym (length_number_item width u other))).0;
  filled = λ t item. let size : IsSized width = sized width is in omega (arith, size.some, length_number_item width t item);
}

-- texts
pub record HasTextParts (t : List ℕ) : Type 0 where
  pub low : ℕ
  pub high : ℕ
  pub body : List ℕ
  pub low_byte : low < 256
  pub high_byte : high < 256
  pub are : AreBytes body
  pub long : length body ≡ low + 256 * high
  pub is : t ≡ low ∷ high ∷ body

are_all : (bs : List ℕ) → AreBytes bs → All (λ byte. byte < 256) bs
are_all bs are = All-from_get_or (λ byte. byte < 256) bs 0 (λ i lt. are i)

all_are : (bs : List ℕ) → All (λ byte. byte < 256) bs → AreBytes bs
all_are bs all i = elim (cases_lt i (length bs)) [
  | inl lt ↦ All-get_or (λ byte. byte < 256) bs i 0 lt all
  | inr le ↦ let e : get_or bs i 0 ≡ 0 = get_or_past bs i 0 le in omega arith
]

pub text_item : (low high : ℕ) (body : List ℕ) → low < 256 → high < 256 → AreBytes body → length body ≡ low + 256 * high → IsTextItem (low ∷ high ∷ body)
text_item low high body lt lt' are long =
    let low_is : length body % 256 ≡ low = omega arith in
    let high_is : length body / 256 % 256 ≡ high = omega arith in
    record {
      text = body;
      fits = record { short = omega arith; bytes = are_all body are };
      spells = rw (low_is, high_is) refl;
    }

pub text_parts : (t : List ℕ) → IsTextItem t → HasTextParts t
text_parts t item =
    let n : ℕ = length item.text in
    let short : n ≤ 65535 = item.fits.short in
    record {
      low = n % 256;
      high = n / 256 % 256;
      body = item.text;
      low_byte = omega arith;
      high_byte = omega arith;
      are = all_are item.text item.fits.bytes;
      long = omega arith;
      is = item.spells;
    }

zeros_are_bytes : (n : ℕ) → AreBytes (replicate n 0)
zeros_are_bytes n i = filled_are_bytes [] n (λ j. omega arith) i

text_turn : (f : List ℕ) (b c : ℕ) (g : List ℕ) → HasTextParts (f ++ b ∷ g) → c < 256 → (h : List ℕ) × IsTextItem (f ++ c ∷ h)
text_turn [] b c g p lt = (0 ∷ replicate c 0, text_item c 0 (replicate c 0) lt (omega arith) (zeros_are_bytes c) (omega (arith, length-replicate {A = ℕ} c 0)))
text_turn (x ∷ []) b c g p lt =
    let e : x ∷ b ∷ g ≡ p.low ∷ p.high ∷ p.body = p.is in
    let head : x ≡ p.low = cc in
    let n : ℕ = x + 256 * c in
    (replicate n 0, text_item x c (replicate n 0) (let l : p.low < 256 = p.low_byte in omega arith) lt (zeros_are_bytes n) (length-replicate n 0))
text_turn (x ∷ y ∷ f) b c g p lt =
    let e : x ∷ y ∷ (f ++ b ∷ g) ≡ p.low ∷ p.high ∷ p.body = p.is in
    let low : x ≡ p.low = cc in
    let high : y ≡ p.high = cc in
    let body : f ++ b ∷ g ≡ p.body = cc in
    let are : AreBytes (f ++ c ∷ g) = replaced f b c g (subst AreBytes (sym body) p.are) lt in (
      g,
      text_item x y (f ++ c ∷ g) (let l : p.low < 256 = p.low_byte in omega arith) (let l : p.high < 256 = p.high_byte in omega arith) are
          (omega (arith, length-append f (c ∷ g), length-append f (b ∷ g), ap length body, p.long)),
    )

text_deep : (f : List ℕ) (b c : ℕ) (g : List ℕ) → HasTextParts (f ++ b ∷ g) → ((0 < length g) ⊎ (length f < 2)) → 0 < c → c < 256 → (d : ℕ) × (h : List ℕ) × IsTextItem (f ++ c ∷ d ∷ h)
text_deep [] b c g p deep some lt = (0, replicate c 0, text_item c 0 (replicate c 0) lt (omega arith) (zeros_are_bytes c) (omega (arith, length-replicate {A = ℕ} c 0)))
text_deep (x ∷ []) b c g p deep some lt =
    let e : x ∷ b ∷ g ≡ p.low ∷ p.high ∷ p.body = p.is in
    let head : x ≡ p.low = cc in
    let n : ℕ = x + 256 * c - 1 in
    (0, replicate n 0, text_item x c (0 ∷ replicate n 0) (let l : p.low < 256 = p.low_byte in omega arith) lt (zeros_are_bytes (suc n)) (omega (arith, length-replicate {A = ℕ} n 0)))
text_deep (x ∷ y ∷ f) b c [] p (inl more) some lt = absurd (omega arith)
text_deep (x ∷ y ∷ f) b c [] p (inr cut) some lt = absurd (omega arith)
text_deep (x ∷ y ∷ f) b c (d ∷ h) p deep some lt =
    let e : x ∷ y ∷ (f ++ b ∷ d ∷ h) ≡ p.low ∷ p.high ∷ p.body = p.is in
    let low : x ≡ p.low = cc in
    let high : y ≡ p.high = cc in
    let body : f ++ b ∷ d ∷ h ≡ p.body = cc in
    let are : AreBytes (f ++ c ∷ d ∷ h) = replaced f b c (d ∷ h) (subst AreBytes (sym body) p.are) lt in (
      d,
      h,
      text_item x y (f ++ c ∷ d ∷ h) (let l : p.low < 256 = p.low_byte in omega arith) (let l : p.high < 256 = p.high_byte in omega arith) are
          (omega (arith, length-append f (c ∷ d ∷ h), length-append f (b ∷ d ∷ h), ap length body, p.long)),
    )

text_last : (f x y : List ℕ) → HasTextParts (f ++ x) → HasTextParts (f ++ y) → 2 ≤ length f → length x ≡ length y
text_last [] x y p q le = absurd (omega arith)
text_last (l ∷ []) x y p q le = absurd (omega arith)
text_last (l ∷ h ∷ f) x y p q le =
    let e : l ∷ h ∷ (f ++ x) ≡ p.low ∷ p.high ∷ p.body = p.is in
    let e' : l ∷ h ∷ (f ++ y) ≡ q.low ∷ q.high ∷ q.body = q.is in
    let low : l ≡ p.low = cc in
    let high : h ≡ p.high = cc in
    let body : f ++ x ≡ p.body = cc in
    let low' : l ≡ q.low = cc in
    let high' : h ≡ q.high = cc in
    let body' : f ++ y ≡ q.body = cc in
    omega (arith, length-append f x, length-append f y, ap length body, ap length body', p.long, q.long)

text_bytes : (t : List ℕ) → HasTextParts t → AreBytes t
text_bytes t p = subst AreBytes (sym p.is) (both p.low p.high p.body p.low_byte p.high_byte p.are) where
  both : (l h : ℕ) (body : List ℕ) → l < 256 → h < 256 → AreBytes body → AreBytes (l ∷ h ∷ body)
  both l h body lt lt' are zero = lt
  both l h body lt lt' are (suc zero) = lt'
  both l h body lt lt' are (suc (suc i)) = are i

pub text_turns : HasTurns IsTextItem 2
text_turns = record {
  turn = λ f b c g item lt. text_turn f b c g (text_parts (f ++ b ∷ g) item) lt;
  deep = λ f b c g item deep some lt. text_deep f b c g (text_parts (f ++ b ∷ g) item) deep some lt;
  last = λ f x y item other le. text_last f x y (text_parts (f ++ x) item) (text_parts (f ++ y) other) le;
  bytes = λ t item. text_bytes t (text_parts t item);
  apart = λ t u x y item other same.
      let turned : raw_text item.text ++ x ≡ raw_text other.text ++ y = ap (λ (v : List ℕ). v ++ x) (sym item.spells) ∙ (same ∙ ap (λ (v : List ℕ). v ++ y) other.spells) in
      item.spells ∙ (ap raw_text (texts_apart item.text other.text x y item.fits other.fits turned) ∙ sym other.spells);
  filled = λ t item. omega (arith, ap length item.spells, length-raw_text item.text);
}

pub turns : (shape : Shape) → IsShape shape → HasTurns (IsItemOf shape) (head_of shape)
turns (Number width) is = number_turns width is
turns Text is = text_turns

-- an item of at least two bytes, where there are more than 256
pub some_item : (shape : Shape) → IsShape shape → (b : ℕ) × (g : List ℕ) × IsItemOf shape (b ∷ g)
some_item (Number width) is =
    let size : IsSized width = sized width is in
    let n : ℕ = width - 1 in
    (0, replicate n 0, number_item width is (0 ∷ replicate n 0) (zeros_are_bytes (suc n)) (omega (arith, size.some, length-replicate {A = ℕ} n 0)))
some_item Text is = (0, 0 ∷ [], text_item 0 0 [] (omega arith) (omega arith) (λ i. omega arith) refl)
