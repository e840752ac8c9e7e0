-- How names, fields and refusals are printed. The forms are this project's own.
use Rattle.std.specs.Prelude.{ℕ, Bool, false, true, ◌==◌, if◌then◌else◌, List, [], ◌∷◌, ◌++◌, flat_map, codes, decimal}
use Rattle.dw_value.specs.declared.values.Field.{Field}
use Rattle.dw_value.specs.declared.values.Field.TheVariants.{Null, Shown}
use Rattle.dw_model.specs.declared.refusals.Refusal.{Refusal}
use Rattle.dw_model.specs.declared.refusals.Refusal.TheVariants.{Syntax, Unknown, Exists, Clash, Range, NullIn, Deadlock, Aborted, InBlock, Vacuuming, Limit, Memory}

-- A byte of a field. Four are printed as two: a backslash (92), a bar (124), a line feed (10), a carriage return (13).
abbrev pub escape : ℕ → List ℕ
escape byte =
    if byte == 92 then codes "\\\\"
    else if byte == 124 then codes "\\|"
    else if byte == 10 then codes "\\n"
    else if byte == 13 then codes "\\r"
    else byte ∷ []

-- a text as it stands in a report, so that it neither ends a line nor parts two fields
abbrev pub field : List ℕ → List ℕ
field bytes = flat_map escape bytes

-- the byte that a backslash and this letter stand for
abbrev pub escaped_byte : ℕ → ℕ
escaped_byte letter = if letter == 110 then 10 else if letter == 114 then 13 else letter

-- the text of these bytes of a field, where a backslash stands just before them or doesn't
abbrev pub text_after : Bool → List ℕ → List ℕ
text_after backslash [] = []
text_after true (letter ∷ rest) = escaped_byte letter ∷ text_after false rest
text_after false (byte ∷ rest) = if byte == 92 then text_after true rest else byte ∷ text_after false rest

-- the text that a field stands for
abbrev pub text_of_field : List ℕ → List ℕ
text_of_field bytes = text_after false bytes

-- a space and a number, and that for each of these numbers
abbrev pub after_space : ℕ → List ℕ
after_space number = codes " " ++ decimal number

abbrev pub numbers_text : List ℕ → List ℕ
numbers_text numbers = flat_map after_space numbers

-- what a report says of a refusal, after its number
abbrev pub refusal_text : Refusal → List ℕ
refusal_text (Syntax place) = codes "syntax " ++ decimal place
refusal_text (Unknown name) = codes "unknown " ++ field name
refusal_text (Exists name) = codes "exists " ++ field name
refusal_text Clash = codes "clash"
refusal_text Range = codes "range"
refusal_text (NullIn column) = codes "null " ++ field column
refusal_text (Deadlock cycle) = codes "deadlock" ++ numbers_text cycle
refusal_text Aborted = codes "aborted"
refusal_text InBlock = codes "block"
refusal_text (Vacuuming session) = codes "vacuum " ++ decimal session
refusal_text (Limit count) = codes "limit rows " ++ decimal count
refusal_text Memory = codes "memory"

-- a field of a row: `\N` where there is no value, which no text is printed as
abbrev pub shown_field : Field → List ℕ
shown_field Null = codes "\\N"
shown_field (Shown text) = field text

-- a bar, and what is printed of an item
abbrev pub after_bar : {A : Type 0} → (A → List ℕ) → A → List ℕ
after_bar text item = codes "|" ++ text item

-- what is printed of the items, with a bar between each two
abbrev pub barred : {A : Type 0} → (A → List ℕ) → List A → List ℕ
barred text [] = []
barred text (first ∷ rest) = text first ++ flat_map (after_bar text) rest
