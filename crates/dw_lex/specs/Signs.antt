-- The signs and their spelling.
use Rattle.std.specs.Prelude.{ℕ, ◌==◌, ◌&&◌, if◌then◌else◌, Option, Some, None}
use Rattle.dw_lex.specs.declared.signs.Sign.{Sign}
use Rattle.dw_lex.specs.declared.signs.Sign.TheVariants.{Open, Close, Comma, Dot, Plus, Minus, Star, Slash, Percent, Equal, Unequal, Less, AtMost, Greater, AtLeast, Join, Cast}

-- the sign of two characters: `<>` and `!=`, `<=`, `>=`, `||`, `::`
abbrev pub sign_of_two : ℕ → ℕ → Option Sign
sign_of_two b c =
    if (b == 60) && (c == 62) then Some Unequal else
    if (b == 33) && (c == 61) then Some Unequal else
    if (b == 60) && (c == 61) then Some AtMost else
    if (b == 62) && (c == 61) then Some AtLeast else
    if (b == 124) && (c == 124) then Some Join else
    if (b == 58) && (c == 58) then Some Cast else None

-- the sign of one character: `( ) , . + - * / % = < >`
abbrev pub sign_of_one : ℕ → Option Sign
sign_of_one b =
    if b == 40 then Some Open else
    if b == 41 then Some Close else
    if b == 44 then Some Comma else
    if b == 46 then Some Dot else
    if b == 43 then Some Plus else
    if b == 45 then Some Minus else
    if b == 42 then Some Star else
    if b == 47 then Some Slash else
    if b == 37 then Some Percent else
    if b == 61 then Some Equal else
    if b == 60 then Some Less else
    if b == 62 then Some Greater else None
