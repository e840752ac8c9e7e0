-- The statements of a script, and why a script cannot be read. That a `;` ends a statement is SQL's rule. What is
-- blank, the order of the causes and the limit on statements are this project's own.
use Rattle.std.specs.Prelude.{ℕ, ◌+◌, Bool, false, not, ◌&&◌, ◌||◌, List, [], ◌∷◌, ◌++◌, length, map, ◌==◌, nat_lt, if◌then◌else◌, Option, Some, None}
use Rattle.std.specs.List.{slice_split}
use Rattle.std.specs.Str.{is_utf8}
use Rattle.std.specs.Str.Lossy.{utf8_valid_len}
use Rattle.dw_script.specs.Characters.{semicolon, dash, slash, star}
use Rattle.dw_script.specs.declared.place.Place.{Place}
use Rattle.dw_script.specs.declared.place.Place.TheVariants.{Outside, AfterDash, AfterSlash}
use Rattle.dw_script.specs.declared.script.ScriptCause.{ScriptCause}
use Rattle.dw_script.specs.declared.script.ScriptCause.TheVariants.{NotUtf8, TooMany}
use Rattle.dw_script.specs.declared.script.ScriptFault.{ScriptFault}
use Rattle.dw_script.specs.declared.script.ScriptFault.TheVariants.{Bad, Memory}
use Rattle.dw_script.specs.Place.{after, is_outside, left_open}

-- each byte beside where one stands before it
abbrev pub placed_from : Place → ℕ → List ℕ → List (Place × ℕ)
placed_from place at [] = []
placed_from place at (byte ∷ bytes) = (place, byte) ∷ placed_from (after place at byte) (at + 1) bytes

-- a `;` outside of texts, quoted names and comments ends a statement
abbrev pub ends_statement : Place × ℕ → Bool
ends_statement placed = is_outside placed.0 && (placed.1 == semicolon)

-- what stands before the first such `;`, between two of them, and after the last
abbrev pub parts_from : Place → ℕ → List ℕ → List (List ℕ)
parts_from place at bytes = map (map (λ placed. placed.1)) (slice_split ends_statement (placed_from place at bytes))

-- the parts of a script
abbrev pub parts : List ℕ → List (List ℕ)
parts bytes = parts_from Outside 0 bytes

-- a space, a tab, an LF or a CR
abbrev pub is_blank : ℕ → Bool
is_blank byte = (byte == 32) || (byte == 9) || (byte == 10) || (byte == 13)

-- the dash or the slash just passed, which belongs to a comment only if the next byte makes it one
abbrev pub pending_mark : Place → List ℕ
pending_mark AfterDash = dash ∷ []
pending_mark (AfterSlash begins) = slash ∷ []
pending_mark _ = []

-- whether the byte is no blank and in no comment, or shows that the dash or slash before it isn't
abbrev pub begins_statement : Place → ℕ → Bool
begins_statement Outside byte = not (is_blank byte || (byte == dash) || (byte == slash))
begins_statement AfterDash byte = not (byte == dash)
begins_statement (AfterSlash begins) byte = not (byte == star)
begins_statement _ byte = false

-- from the first byte on that is no blank and in no comment, where none was before
abbrev pub content_from : Place → ℕ → List ℕ → List ℕ
content_from place at [] = pending_mark place
content_from place at (byte ∷ bytes) =
    if begins_statement place byte then pending_mark place ++ byte ∷ bytes
    else content_from (after place at byte) (at + 1) bytes

-- a part from its first byte on that is no blank and in no comment
abbrev pub content : List ℕ → List ℕ
content part = content_from Outside 0 part

-- a statement, unless there is nothing of it
abbrev pub one_if_any : List ℕ → List (List ℕ)
one_if_any [] = []
one_if_any (byte ∷ bytes) = (byte ∷ bytes) ∷ []

-- each part that is more than blanks and comments, from its first byte on that is neither
abbrev pub statements_of : List (List ℕ) → List (List ℕ)
statements_of [] = []
statements_of (part ∷ parts) = one_if_any (content part) ++ statements_of parts

-- the statements of a script: `SELECT 1` and `x` of `SELECT 1; ;x`, `'a;b'` and `c` of `'a;b';c`, and `a /* ; */` of
-- `-- b;`, LF, `a /* ; */`
unfoldable pub statements : List ℕ → List (List ℕ)
statements bytes = statements_of (parts bytes)

-- how many statements a script may have
abbrev pub most_statements : ℕ
most_statements = 100000

-- what is open, and else too many statements
abbrev pub cause_of : Option ScriptCause → ℕ → Option ScriptCause
cause_of (Some cause) count = Some cause
cause_of None count = if nat_lt most_statements count then Some TooMany else None

-- why a script cannot be read: the first cause, and none where it is read
unfoldable pub script_cause : List ℕ → Option ScriptCause
script_cause bytes =
    if is_utf8 bytes then cause_of (left_open bytes) (length (statements bytes))
    else Some (NotUtf8 (utf8_valid_len bytes))

-- a fact on the cause, where the script is at fault. Nothing where memory ran out
abbrev pub IfBad : ScriptFault → (ScriptCause → Type 0) → Type 0
IfBad (Bad cause) P = P cause
IfBad Memory P = Unit {0}
