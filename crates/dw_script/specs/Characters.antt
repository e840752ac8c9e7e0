-- The characters of scripts and schedules, as their bytes.
use Rattle.std.specs.Prelude.{ℕ}

-- `;`, which ends a statement
abbrev pub semicolon : ℕ
semicolon = 59

-- `'`, which begins a text and ends it
abbrev pub quote : ℕ
quote = 39

-- `"`, which begins a quoted name and ends it
abbrev pub name_quote : ℕ
name_quote = 34

-- `-`, of which two begin a comment to the end of the line
abbrev pub dash : ℕ
dash = 45

-- LF, which ends a line
abbrev pub line_feed : ℕ
line_feed = 10

-- `/`, which begins a block comment with a star after it, and ends one with a star before it
abbrev pub slash : ℕ
slash = 47

-- `*`, beside the slash of a block comment
abbrev pub star : ℕ
star = 42

-- `#`, which begins a line of a schedule that is a comment
abbrev pub number_sign : ℕ
number_sign = 35

-- the space, which parts the words of a line
abbrev pub space : ℕ
space = 32

-- `*`, between a session and a count of steps
abbrev pub times_sign : ℕ
times_sign = 42

-- `0`, with which no number begins
abbrev pub digit_zero : ℕ
digit_zero = 48
