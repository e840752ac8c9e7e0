-- Where one stands in a script: outside, or in a text, a quoted name or a comment. Texts and the comments from `--` to
-- the end of the line are those of the SQL standard. Block comments from `/*` to `*/` nest, as in the Amazon Redshift
-- guide and in the standard. That a quoted name ends at the next double quote is this project's own: the standard takes
-- two of them for one.
use Rattle.std.specs.Prelude.{ℕ, zero, suc, ◌+◌, Bool, true, false, List, [], ◌∷◌, ◌==◌, if◌then◌else◌, Option, Some, None}
use Rattle.dw_script.specs.Characters.{quote, name_quote, dash, line_feed, slash, star}
use Rattle.dw_script.specs.declared.place.Place.{Place}
use Rattle.dw_script.specs.declared.place.Place.TheVariants.{Outside, InText, AfterQuote, InName, AfterDash, InLine, AfterSlash, InBlock, AfterStar, AfterInnerSlash}
use Rattle.dw_script.specs.declared.script.ScriptCause.{ScriptCause}
use Rattle.dw_script.specs.declared.script.ScriptCause.TheVariants.{OpenText, OpenComment}

-- after a byte outside: it may begin a text or a quoted name, and with the next one a comment
abbrev pub begun : ℕ → ℕ → Place
begun at byte =
    if byte == quote then InText at else
    if byte == name_quote then InName at else
    if byte == dash then AfterDash else
    if byte == slash then AfterSlash at else Outside

-- after a byte in a block comment: with the next one it may end the comment, or begin another inside of it
abbrev pub commented : ℕ → ℕ → ℕ → Place
commented begins nested byte =
    if byte == star then AfterStar begins nested else
    if byte == slash then AfterInnerSlash begins nested else InBlock begins nested

-- after the end of a comment: in the one round it, and outside where there is none
abbrev pub closed : ℕ → ℕ → Place
closed begins zero = Outside
closed begins (suc nested) = InBlock begins nested

-- where one stands after the byte that is at `at`
abbrev pub after : Place → ℕ → ℕ → Place
after Outside at byte = begun at byte
after (InText begins) at byte = if byte == quote then AfterQuote begins else InText begins
after (AfterQuote begins) at byte = if byte == quote then InText begins else begun at byte
after (InName begins) at byte = if byte == name_quote then Outside else InName begins
after AfterDash at byte = if byte == dash then InLine else begun at byte
after InLine at byte = if byte == line_feed then Outside else InLine
after (AfterSlash begins) at byte = if byte == star then InBlock begins 0 else begun at byte
after (InBlock begins nested) at byte = commented begins nested byte
after (AfterStar begins nested) at byte = if byte == slash then closed begins nested else commented begins nested byte
after (AfterInnerSlash begins nested) at byte =
    if byte == star then InBlock begins (nested + 1) else commented begins nested byte

-- where one stands after the bytes, of which the first is at `at`
abbrev pub place_from : Place → ℕ → List ℕ → Place
place_from place at [] = place
place_from place at (byte ∷ bytes) = place_from (after place at byte) (at + 1) bytes

-- where one stands after the bytes of a script
abbrev pub place_after : List ℕ → Place
place_after bytes = place_from Outside 0 bytes

-- in how many comments inside of a block comment one stands
abbrev pub nested_in : Place → ℕ
nested_in (InBlock begins nested) = nested
nested_in (AfterStar begins nested) = nested
nested_in (AfterInnerSlash begins nested) = nested
nested_in _ = 0

-- whether one stands outside of texts, quoted names and comments: after a quote one does, if the next byte is no quote,
-- and after a dash or a slash, if no comment begins with it
abbrev pub is_outside : Place → Bool
is_outside Outside = true
is_outside (AfterQuote begins) = true
is_outside AfterDash = true
is_outside (AfterSlash begins) = true
is_outside _ = false

-- the text, the quoted name or the block comment in which one stands, by where it begins
abbrev pub open_part : Place → Option ScriptCause
open_part (InText begins) = Some (OpenText begins)
open_part (InName begins) = Some (OpenText begins)
open_part (InBlock begins nested) = Some (OpenComment begins)
open_part (AfterStar begins nested) = Some (OpenComment begins)
open_part (AfterInnerSlash begins nested) = Some (OpenComment begins)
open_part _ = None

-- whether a script ends outside of texts, quoted names and comments, those to the end of the line too
unfoldable pub ends_outside : List ℕ → Bool
ends_outside bytes = is_outside (place_after bytes)

-- what a script leaves open: in `SELECT 'abc` the text at 7, in `'a''b` that at 0, since its middle quotes stand for
-- one, and in `/* 'a /* b */` the comment at 0, which has another one inside
unfoldable pub left_open : List ℕ → Option ScriptCause
left_open bytes = open_part (place_after bytes)
