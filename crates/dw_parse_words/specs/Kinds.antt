-- The words of kinds and encodings, and their limits: this project's profile of the data types and the compression
-- encodings of the Amazon Redshift guide.
use Rattle.std.specs.Prelude.{ℕ, ◌&&◌, nat_le, if◌then◌else◌, Option, Some, None, List, [], ◌∷◌, codes}
use Rattle.std.specs.Option.{option_and_then}
use Rattle.dw_lex.specs.declared.token.Token.{Token}
use Rattle.dw_value.specs.declared.kinds.Encoding.{Encoding}
use Rattle.dw_value.specs.declared.kinds.Encoding.TheVariants as encodings
use Rattle.dw_value.specs.declared.kinds.Kind.TheVariants as kinds
use Rattle.dw_parse_words.specs.declared.parts.KindWord.{KindWord}
use Rattle.dw_parse_words.specs.declared.parts.KindWord.TheVariants.{Plain, Decimal, Char, Character, Varchar}
use Rattle.dw_parse_words.specs.Words.{word_at, number_at, meant_at}

-- the first words of kinds
abbrev pub kind_words : List (List ℕ × KindWord)
kind_words =
    (codes "smallint", Plain kinds.Small) ∷ (codes "int2", Plain kinds.Small)
    ∷ (codes "integer", Plain kinds.Int) ∷ (codes "int", Plain kinds.Int) ∷ (codes "int4", Plain kinds.Int)
    ∷ (codes "bigint", Plain kinds.Big) ∷ (codes "int8", Plain kinds.Big)
    ∷ (codes "text", Plain (kinds.Varchar 256)) ∷ (codes "date", Plain kinds.Date)
    ∷ (codes "boolean", Plain kinds.Bool) ∷ (codes "bool", Plain kinds.Bool)
    ∷ (codes "decimal", Decimal) ∷ (codes "numeric", Decimal)
    ∷ (codes "char", Char) ∷ (codes "character", Character) ∷ (codes "varchar", Varchar) ∷ []

abbrev pub kind_word : List Token → ℕ → Option KindWord
kind_word tokens i = meant_at kind_words tokens i

-- the encodings
abbrev pub encoding_words : List (List ℕ × Encoding)
encoding_words =
    (codes "raw", encodings.Raw) ∷ (codes "bytedict", encodings.Bytedict) ∷ (codes "delta", encodings.Delta)
    ∷ (codes "delta32k", encodings.Delta32k) ∷ (codes "mostly8", encodings.Mostly8)
    ∷ (codes "mostly16", encodings.Mostly16) ∷ (codes "mostly32", encodings.Mostly32)
    ∷ (codes "runlength", encodings.Runlength) ∷ []

abbrev pub encoding_at : List Token → ℕ → Option Encoding
encoding_at tokens i = meant_at encoding_words tokens i

-- a number from 1 to a limit
abbrev pub from_one_to : ℕ → ℕ → Option ℕ
from_one_to limit n = if nat_le 1 n && nat_le n limit then Some n else None

-- how many bytes a text may have: a number from 1 to the limit, or `max`, which is the limit
abbrev pub length_in : ℕ → List Token → ℕ → Option ℕ
length_in limit tokens i =
    if word_at (codes "max") tokens i then Some limit else option_and_then (from_one_to limit) (number_at tokens i)

-- how many digits a DECIMAL has: 1 to 38
abbrev pub precision_at : List Token → ℕ → Option ℕ
precision_at tokens i = option_and_then (from_one_to 38) (number_at tokens i)

-- how many of so many digits stand after the point: at most all of them, and at most 37
abbrev pub scale_of : ℕ → ℕ → Option ℕ
scale_of precision n = if nat_le n precision && nat_le n 37 then Some n else None

abbrev pub scale_at : ℕ → List Token → ℕ → Option ℕ
scale_at precision tokens i = option_and_then (scale_of precision) (number_at tokens i)
