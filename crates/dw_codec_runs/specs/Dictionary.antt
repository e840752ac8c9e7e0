-- How BYTEDICT spells values. The encoding is that of the Amazon Redshift guide (compression encodings); the
-- layout of its bytes is this project's own.
use Rattle.std.specs.Prelude.{ℕ, ℤ, Bool, List, [], ◌∷◌, ◌++◌, length, map, fold, if◌then◌else◌, nat_lt}
use Rattle.std.specs.List.{list_any, position_or_len, concat}
use Rattle.std.specs.Str.{bytes_eq}
use Rattle.dw_codec_plain.specs.Numbers.{number, low_bytes}
use Rattle.dw_codec_plain.specs.Encodings.{raw_text}

-- Below, a value stands as an item, which is the bytes that RAW spells it in. Values that fit are equal exactly where
-- their items are.

-- whether an item is among those known
abbrev pub is_known : List (List ℕ) → List ℕ → Bool
is_known known item = list_any (bytes_eq item) known

-- those known once an item is met: one that wasn't known goes last
abbrev pub met : List (List ℕ) → List ℕ → List (List ℕ)
met known item = if is_known known item then known else known ++ item ∷ []

-- the different items, in the order of their first appearance
abbrev pub different : List (List ℕ) → List (List ℕ)
different = fold met []

-- the place of an item among those known, from 0
abbrev pub place_among : List (List ℕ) → List ℕ → ℕ
place_among known item = position_or_len (bytes_eq item) known

-- The number of different items in two bytes, least first, these items, and one byte for each item: its place among
-- them. With more than 256 different ones ff ff, and all items one after another.
unfoldable pub dictionary : List (List ℕ) → List ℕ
dictionary items =
    if nat_lt 256 (length (different items)) then 255 ∷ 255 ∷ concat items
    else low_bytes 2 (length (different items)) ++ (concat (different items) ++ map (place_among (different items)) items)

-- BYTEDICT for numbers. So 5, 6, 5 in two bytes is 02 00 05 00 06 00 00 01 00, and no value is 00 00.
abbrev pub bytedict : ℕ → List ℤ → List ℕ
bytedict width values = dictionary (map (number width) values)

-- BYTEDICT for texts. So the texts a, a is 01 00 01 00 61 00 00.
abbrev pub bytedict_texts : List (List ℕ) → List ℕ
bytedict_texts texts = dictionary (map raw_text texts)
