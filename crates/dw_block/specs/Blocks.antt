-- The bytes of a block. The encodings are those of the Amazon Redshift guide (compression encodings); the layout of
-- their bytes is this project's own.
use Rattle.std.specs.Prelude.{◌≡◌, ℕ, ◌≤◌, ℤ, pos, true, false, not, Option, None, Some, Ok, List, ◌++◌, IsTrue, IsUtf8, if◌then◌else◌}
use Rattle.std.specs.List.{filter_map}
use Rattle.std.specs.Ordering.{int_eq}
use Rattle.dw_value.specs.declared.kinds.Kind.{Kind}
use Rattle.dw_value.specs.declared.kinds.Kind.TheVariants.{Decimal, Char, Varchar, Date, Bool as Boolean}
use Rattle.dw_value.specs.declared.kinds.Encoding.{Encoding}
use Rattle.dw_value.specs.declared.kinds.Encoding.TheVariants.{Raw, Bytedict, Delta, Delta32k, Mostly8, Mostly16, Mostly32, Runlength}
use Rattle.dw_value.specs.declared.values.Value.{Value}
use Rattle.dw_value.specs.declared.values.Value.TheVariants.{Number, Words, Day, Truth}
use Rattle.dw_value.specs.Values.{takes_texts, goes_with, held}
use Rattle.dw_value.specs.Encodings.{width}
use Rattle.dw_codec_plain.specs.Encodings.{raw, raw_texts, mostly, IsText}
use Rattle.dw_codec_delta.specs.Delta.{delta}
use Rattle.dw_codec_runs.specs.Runs.{runlength, runlength_texts}
use Rattle.dw_codec_runs.specs.Dictionary.{bytedict, bytedict_texts}
use Rattle.dw_block.specs.Nulls.{null_bits}

-- the kind is within its limits: 38 digits, 65,535 bytes
abbrev pub IsKind : Kind → Type 0
IsKind (Decimal precision scale) = precision ≤ 38
IsKind (Char limit) = limit ≤ 65535
IsKind (Varchar limit) = limit ≤ 65535
IsKind kind = Unit {0}

-- the value is NULL, or one that a column of the kind holds, as it holds it
pub record IsValueOf (kind : Kind) (value : Value) : Type 0 where
  pub goes : IsTrue (goes_with kind value)
  pub held : held kind value ≡ Ok value

-- a text that a block may hold
pub record IsBlockText (text : List ℕ) : Type 0 where
  pub is : IsText text
  pub utf8 : IsUtf8 text

-- a value as a number: itself, a day's number, 0 for false and 1 for true
abbrev pub number_in : Value → Option ℤ
number_in (Number n) = Some n
number_in (Day n) = Some n
number_in (Truth false) = Some (pos 0)
number_in (Truth true) = Some (pos 1)
number_in value = None

-- the value of a kind that a number stands for
abbrev pub value_of : Kind → ℤ → Value
value_of Date n = Day n
value_of Boolean n = Truth (not (int_eq n (pos 0)))
value_of kind n = Number n

-- a value as a text
abbrev pub text_in : Value → Option (List ℕ)
text_in (Words text) = Some text
text_in value = None

-- the numbers of the values that aren't NULL
abbrev pub numbers_of : List Value → List ℤ
numbers_of values = filter_map number_in values

-- the texts of the values that aren't NULL
abbrev pub texts_of : List Value → List (List ℕ)
texts_of values = filter_map text_in values

-- the encoding of numbers
abbrev pub encoded_numbers : Encoding → ℕ → List ℤ → List ℕ
encoded_numbers Raw width = raw width
encoded_numbers Bytedict width = bytedict width
encoded_numbers Delta width = delta width 1
encoded_numbers Delta32k width = delta width 2
encoded_numbers Mostly8 width = mostly width 1
encoded_numbers Mostly16 width = mostly width 2
encoded_numbers Mostly32 width = mostly width 4
encoded_numbers Runlength width = runlength width

-- the encoding of texts, which have no short forms of numbers
abbrev pub encoded_texts : Encoding → List (List ℕ) → List ℕ
encoded_texts Bytedict = bytedict_texts
encoded_texts Runlength = runlength_texts
encoded_texts encoding = raw_texts

-- the encoding of the values that aren't NULL
abbrev pub items_bytes : Encoding → Kind → List Value → List ℕ
items_bytes encoding kind values =
    if takes_texts kind then encoded_texts encoding (texts_of values)
    else encoded_numbers encoding (width kind) (numbers_of values)

-- the bytes of a block: the null bits, and then these
abbrev pub block_bytes : Encoding → Kind → List Value → List ℕ
block_bytes encoding kind values = null_bits values ++ items_bytes encoding kind values

-- what a block shows: how its values are spelled, of which kind they are, and they themselves
pub record BlockView : Type 0 where
  pub encoding : Encoding
  pub kind : Kind
  pub values : List Value
