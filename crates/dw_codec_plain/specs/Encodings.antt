-- How each encoding of this crate spells values. The encodings are those of the Amazon Redshift guide
-- (compression encodings); the layout of their bytes is this project's own.
use Rattle.std.specs.Prelude.{◌≡◌, ℕ, ◌≤◌, ◌<◌, nat_lt, if◌then◌else◌, Bool, Option, None, ◌⊎◌, List, ◌++◌, length, All, ℤ, pos, neg_ℤ, ◌-ℤ◌, ◌≤ℤ◌, unsigned_abs, IsTrue}
use Rattle.dw_codec_plain.specs.Numbers.{half, number, low_bytes, FitsWidth}
use Rattle.dw_codec_plain.specs.Spelling.{spelled}

-- RAW: each value in full width
abbrev pub raw : ℕ → List ℤ → List ℕ
raw width = spelled (λ _ value. number width value) None

-- what may be a text: at most 65,535 bytes
pub record IsText (text : List ℕ) : Type 0 where
  pub short : length text ≤ 65535
  pub bytes : All (λ byte. byte < 256) text

-- RAW for texts: the length in two bytes, least first, and the bytes
abbrev pub raw_text : List ℕ → List ℕ
raw_text text = low_bytes 2 (length text) ++ text

abbrev pub raw_text_item : Option (List ℕ) → List ℕ → List ℕ
raw_text_item before text = raw_text text

abbrev pub raw_texts : List (List ℕ) → List ℕ
raw_texts = spelled raw_text_item None

-- A number is short where its size is less than half the range of `step` bytes: with one byte, from -127 to 127.
abbrev pub is_short : ℕ → ℤ → Bool
is_short step number = nat_lt (unsigned_abs number) (half step)

-- A short number in `step` bytes. In place of one that isn't short, the least number of `step` bytes, which no
-- short number is, and then the value in full width.
abbrev pub short_or_full : ℕ → ℕ → ℤ → ℤ → List ℕ
short_or_full width step small value =
    if is_short step small then number step small else number step (neg_ℤ (pos (half step))) ++ number width value

-- the same where the short number is the difference from a base
abbrev pub near_item : ℕ → ℕ → ℤ → Option ℤ → ℤ → List ℕ
near_item width step base before value = short_or_full width step (value -ℤ base) value

-- the text is the short form of a value near the base
pub record IsShortForm (width step : ℕ) (base : ℤ) (text : List ℕ) : Type 0 where
  pub value : ℤ
  pub fits : FitsWidth width value
  pub short : IsTrue (is_short step (value -ℤ base))
  pub spells : text ≡ number step (value -ℤ base)

-- the text is the mark and then, in full width, some value from low to high
pub record IsMarkedWithin (width step : ℕ) (low high : ℤ) (text : List ℕ) : Type 0 where
  pub value : ℤ
  pub least : low ≤ℤ value
  pub greatest : value ≤ℤ high
  pub spells : text ≡ number step (neg_ℤ (pos (half step))) ++ number width value

-- MOSTLY8, MOSTLY16 and MOSTLY32, with steps of 1, 2 and 4: a short value in `step` bytes, another behind the mark
-- in full width. So 1, 127, -128 in two bytes by MOSTLY8 is 01 7f 80 80 ff.
abbrev pub mostly : ℕ → ℕ → List ℤ → List ℕ
mostly width step = spelled (λ _ value. short_or_full width step value value) None

-- how many bytes a short number may take under MOSTLY
abbrev pub IsMostlyStep : ℕ → Type 0
IsMostlyStep step = (step ≡ 1) ⊎ (step ≡ 2) ⊎ (step ≡ 4)
