-- Which characters tokens are made of. All of them are ASCII; a byte is given by its number.
use Rattle.std.specs.Prelude.{ℕ, Bool, ◌==◌, ◌&&◌, ◌||◌}
use Rattle.std.specs.Char.{is_ascii_alphabetic, is_ascii_digit}

-- a space, a tab, LF or CR: what may stand between tokens, as comments may
abbrev pub is_blank : ℕ → Bool
is_blank b = (b == 32) || (b == 9) || (b == 10) || (b == 13)

-- a letter or `_`
abbrev pub begins_name : ℕ → Bool
begins_name b = is_ascii_alphabetic b || (b == 95)

-- a letter, `_`, a digit or `$`
abbrev pub is_in_name : ℕ → Bool
is_in_name b = begins_name b || is_ascii_digit b || (b == 36)

-- the single quote
abbrev pub quote : ℕ
quote = 39

-- the double quote
abbrev pub double_quote : ℕ
double_quote = 34

abbrev pub is_double_quote : ℕ → Bool
is_double_quote b = b == double_quote

-- the point of a number
abbrev pub point : ℕ
point = 46

-- two of them begin a comment to the end of the line
abbrev pub dash : ℕ
dash = 45

-- what ends a line
abbrev pub line_feed : ℕ
line_feed = 10

-- begins a block comment with a star after it, and ends one with a star before it
abbrev pub slash : ℕ
slash = 47

abbrev pub star : ℕ
star = 42

-- `--` and `/*`
abbrev pub begins_comment : ℕ → ℕ → Bool
begins_comment b c = ((b == dash) && (c == dash)) || ((b == slash) && (c == star))
