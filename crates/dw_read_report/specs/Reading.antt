-- How the parts of a line are read: from left to right, each with the bytes after it. What is read so is what the
-- definitions of the lines print, which the laws of reading say.
use Rattle.std.specs.Prelude.{◌≡◌, ℕ, zero, suc, ◌^◌, Bool, true, false, not, ◌&&◌, ◌||◌, ◌==◌, nat_lt, if◌then◌else◌, Option, Some, None, Result, Ok, Err, List, [], ◌∷◌, ◌++◌, length, codes}
use Rattle.std.specs.Option.{option_map_or}
use Rattle.std.specs.Char.{is_ascii_digit}
use Rattle.std.specs.Str.{is_utf8}
use Rattle.std.specs.Str.Parse.{digits_value}
use Rattle.dw_value.specs.declared.values.Field.{Field}
use Rattle.dw_value.specs.declared.values.Field.TheVariants.{Null, Shown}
use Rattle.dw_read_report.specs.declared.faults.LineFault.{LineFault}
use Rattle.dw_read_report.specs.declared.faults.LineFault.TheVariants as faults

-- what is read at the front of bytes, with the bytes after it; nothing where the bytes don't begin so
abbrev pub Reading : Type 0 → Type 0
Reading A = List ℕ → Option (A × List ℕ)

-- what comes after a part that was read
infixl 10 ◌>>=◌
abbrev pub ◌>>=◌ : {A B : Type 0} → Option A → (A → Option B) → Option B
None >>= next = None
(Some value) >>= next = next value

-- what a function fails with, where reading gives this
abbrev pub Fails : {Y : Type 0} → LineFault → Option Y → Type 0
Fails faults.Bad read = read ≡ None
Fails faults.Memory read = Unit {0}

-- what a function returns, seen by `view`, is what reading gives, unless memory ran out
abbrev pub Gives : {X Y : Type 0} → (X → Y) → Result X LineFault → Option Y → Type 0
Gives view (Ok value) read = read ≡ Some (view value)
Gives view (Err fault) read = Fails fault read

-- the bytes after a label that they begin with
abbrev pub after_label : List ℕ → List ℕ → Option (List ℕ)
after_label [] bytes = Some bytes
after_label (letter ∷ label) [] = None
after_label (letter ∷ label) (byte ∷ bytes) = if byte == letter then after_label label bytes else None

-- a label that stands for this value
abbrev pub word_at : {A : Type 0} → List ℕ → A → Reading A
word_at label value bytes = after_label label bytes >>= λ rest. Some (value, rest)

-- what is read first, or else what is read otherwise
abbrev pub otherwise : {A : Type 0} → Reading A → Reading A → Reading A
otherwise first second bytes = option_map_or Some (first bytes) (second bytes)

-- two parts, one after the other
abbrev pub both : {A B : Type 0} → Reading A → Reading B → Reading (A × B)
both first second bytes = first bytes >>= λ a. second a.1 >>= λ b. Some ((a.0, b.0), b.1)

-- a part after a label, and one before a label
abbrev pub after : {A : Type 0} → List ℕ → Reading A → Reading A
after label part bytes = after_label label bytes >>= part

abbrev pub before : {A : Type 0} → Reading A → List ℕ → Reading A
before part label bytes = part bytes >>= λ a. after_label label a.1 >>= λ rest. Some (a.0, rest)

-- what a part stands for
abbrev pub meaning : {A B : Type 0} → (A → B) → Reading A → Reading B
meaning meant part bytes = part bytes >>= λ a. Some (meant a.0, a.1)

-- what the parts of a line stand for, up to its line feed
abbrev pub line : {A B : Type 0} → (A → B) → Reading A → Reading B
line meant part = meaning meant (before part (codes "\n"))

-- the digits that bytes begin with, and the bytes after them
abbrev pub digits_at : List ℕ → List ℕ
digits_at [] = []
digits_at (byte ∷ bytes) = if is_ascii_digit byte then byte ∷ digits_at bytes else []

abbrev pub after_digits : List ℕ → List ℕ
after_digits [] = []
after_digits (byte ∷ bytes) = if is_ascii_digit byte then after_digits bytes else byte ∷ bytes

-- the number that digits write as it is printed: there is a digit, none that is a zero stands before another one, and it
-- is below 2^64
abbrev pub has_zero_first : List ℕ → Bool
has_zero_first [] = false
has_zero_first (digit ∷ []) = false
has_zero_first (digit ∷ next ∷ digits) = digit == 48

abbrev pub number_of : List ℕ → Option ℕ
number_of [] = None
number_of (digit ∷ digits) =
    if has_zero_first (digit ∷ digits) then None
    else if nat_lt (digits_value 10 (digit ∷ digits)) (2 ^ 64) then Some (digits_value 10 (digit ∷ digits)) else None

-- a number from `least` to `most`
unfoldable pub number_at : ℕ → ℕ → Reading ℕ
number_at least most bytes = number_of (digits_at bytes) >>= λ value.
    if nat_lt value least then None else if nat_lt most value then None else Some (value, after_digits bytes)

-- a number that fits 32 bits, and one that fits 64 bits
abbrev pub short_number : Reading ℕ
short_number = number_at 0 4294967295

abbrev pub long_number : Reading ℕ
long_number = number_at 0 18446744073709551615

-- a session and a statement
unfoldable pub statement_at : Reading (ℕ × ℕ)
statement_at = both short_number (after (codes " ") short_number)

-- the byte that a backslash and this letter stand for
abbrev pub unescaped : ℕ → Option ℕ
unescaped letter =
    if letter == 92 then Some 92
    else if letter == 124 then Some 124
    else if letter == 110 then Some 10
    else if letter == 114 then Some 13
    else None

-- whether a byte ends a field: a bar, a line feed or a carriage return
abbrev pub ends_field : ℕ → Bool
ends_field byte = (byte == 124) || ((byte == 10) || (byte == 13))

-- these bytes before what is read
abbrev pub with_front : {A : Type 0} → List A → Option (List A × List ℕ) → Option (List A × List ℕ)
with_front front read = read >>= λ x. Some (front ++ x.0, x.1)

-- a byte of a field before the rest of it
abbrev pub with_byte : Option ℕ → Option (List ℕ × List ℕ) → Option (List ℕ × List ℕ)
with_byte byte read = byte >>= λ b. with_front (b ∷ []) read

-- the byte that a byte of a field stands for, where a backslash stands just before it or doesn't
abbrev pub meant_by : Bool → ℕ → Option ℕ
meant_by backslash byte = if backslash then unescaped byte else Some byte

-- the text of a field, where a backslash stands just before the bytes or doesn't
abbrev pub field_after : Bool → Reading (List ℕ)
field_after backslash [] = if backslash then None else Some ([], [])
field_after backslash (byte ∷ bytes) =
    if not backslash && ends_field byte then Some ([], byte ∷ bytes)
    else if not backslash && byte == 92 then field_after true bytes
    else with_byte (meant_by backslash byte) (field_after false bytes)

unfoldable pub field_at : Reading (List ℕ)
field_at bytes = field_after false bytes

-- a text, which is in UTF-8, as a field
unfoldable pub text_at : Reading (List ℕ)
text_at bytes = field_at bytes >>= λ text. if is_utf8 text.0 then Some text else None

-- a field of an answer
unfoldable pub shown_at : Reading Field
shown_at = otherwise (word_at (codes "\\N") Null) (meaning Shown text_at)

-- up to so many items, as many as stand there each after a label
abbrev pub items_at : {A : Type 0} → ℕ → List ℕ → Reading A → Reading (List A)
items_at zero label item bytes = Some ([], bytes)
items_at (suc most) label item bytes =
    option_map_or (λ rest. item rest >>= λ first. with_front (first.0 ∷ []) (items_at most label item first.1))
    (after_label label bytes) (Some ([], bytes))

-- all items that stand there each after a label, which are no more than the bytes
abbrev pub all_items : {A : Type 0} → List ℕ → Reading A → Reading (List A)
all_items label item bytes = items_at (length bytes) label item bytes

-- the numbers of sessions, each after a space
unfoldable pub sessions_at : Reading (List ℕ)
sessions_at = all_items (codes " ") short_number

-- items with a bar between each two, at least one
abbrev pub barred_at : {A : Type 0} → Reading A → Reading (List A)
barred_at item bytes = item bytes >>= λ first. with_front (first.0 ∷ []) (all_items (codes "|") item first.1)

-- the line of the names of an answer's columns, and the line of one of its rows
unfoldable pub names_at : Reading (List (List ℕ))
names_at = line (λ names. names) (after (codes "= ") (barred_at text_at))

unfoldable pub row_at : Reading (List Field)
row_at = line (λ fields. fields) (after (codes "- ") (barred_at shown_at))
