-- How tokens are spelled: what the bytes of a token are, and what doesn't come after it, since it is the longest at its
-- place. This says the lexical rules without reading; `token_at` reads by them.
use Rattle.std.specs.Prelude.{◌≡◌, ℕ, ◌+◌, ◌<◌, ◌≤◌, Bool, true, false, ◌==◌, Some, None, List, [], ◌∷◌, ◌++◌, length}
use Rattle.std.specs.List.{list_all}
use Rattle.std.specs.Char.{is_ascii_digit}
use Rattle.dw_lex.specs.Characters.{begins_name, is_in_name, quote, double_quote, point, begins_comment}
use Rattle.dw_lex.specs.Forms.{fraction_at}
use Rattle.dw_lex.specs.Signs.{sign_of_one, sign_of_two}
use Rattle.dw_lex.specs.declared.signs.Sign.{Sign as Mark}
use Rattle.dw_lex.specs.declared.token.Form.{Form}
use Rattle.dw_lex.specs.declared.token.Form.TheVariants.{Name, Quoted, Number, Words, Sign}

-- the bytes don't begin with one that passes the test
abbrev pub EndsAt : (ℕ → Bool) → List ℕ → Type 0
EndsAt test [] = Unit {0}
EndsAt test (b ∷ bs) = test b ≡ false

-- A name: a letter or `_`, then letters, `_`, digits or `$`; at most 127 bytes, and no such character after it.
abbrev pub IsName : List ℕ → List ℕ → Type 0
IsName [] rest = ⊥
IsName (b ∷ bs) rest =
    (begins_name b ≡ true) × (list_all is_in_name bs ≡ true) × (length bs < 127) × EndsAt is_in_name rest

-- A quoted name: a double quote, a name and a double quote. It ends there, whatever comes after it.
pub data IsQuoted : List ℕ → Type 0 where
  quoted : (name : List ℕ) → IsName name [] → IsQuoted (double_quote ∷ name ++ double_quote ∷ [])

-- at least one digit, and no other character
abbrev pub IsDigits : List ℕ → Type 0
IsDigits [] = ⊥
IsDigits (b ∷ bs) = (is_ascii_digit b ≡ true) × (list_all is_ascii_digit bs ≡ true)

-- A number: digits, or digits, a point and digits; at most 38 digits, no digit after it, and after digits alone no
-- point with a digit.
pub data IsNumber : List ℕ → List ℕ → Type 0 where
  whole : (digits rest : List ℕ) → IsDigits digits → length digits ≤ 38
      → EndsAt is_ascii_digit rest → fraction_at rest ≡ 0 → IsNumber digits rest
  decimal : (digits fraction rest : List ℕ) → IsDigits digits → IsDigits fraction → length digits + length fraction ≤ 38
      → EndsAt is_ascii_digit rest → IsNumber (digits ++ point ∷ fraction) rest

-- what may stand between the quotes of a text: anything but a quote, and two quotes
pub data IsInside : List ℕ → Type 0 where
  nothing : IsInside []
  other : (b : ℕ) (bs : List ℕ) → (b == quote) ≡ false → IsInside bs → IsInside (b ∷ bs)
  quotes : (bs : List ℕ) → IsInside bs → IsInside (quote ∷ quote ∷ bs)

-- A text: a quote, what may stand inside, and a quote, with no quote after it.
pub data IsWords : List ℕ → List ℕ → Type 0 where
  text : (inside rest : List ℕ) → IsInside inside → EndsAt (λ b. b == quote) rest
      → IsWords (quote ∷ inside ++ quote ∷ []) rest

-- A sign: of two characters, or of one that with the character after it makes no sign of two and begins no comment.
abbrev pub IsSign : Mark → List ℕ → List ℕ → Type 0
IsSign sign [] rest = ⊥
IsSign sign (b ∷ []) [] = sign_of_one b ≡ Some sign
IsSign sign (b ∷ []) (c ∷ rest) = (sign_of_one b ≡ Some sign) × (sign_of_two b c ≡ None) × (begins_comment b c ≡ false)
IsSign sign (b ∷ c ∷ []) rest = sign_of_two b c ≡ Some sign
IsSign sign (b ∷ c ∷ d ∷ bs) rest = ⊥

-- the bytes are a token of this form where this rest comes after them
abbrev pub IsToken : Form → List ℕ → List ℕ → Type 0
IsToken Name word rest = IsName word rest
IsToken Quoted word rest = IsQuoted word
IsToken Number word rest = IsNumber word rest
IsToken Words word rest = IsWords word rest
IsToken (Sign sign) word rest = IsSign sign word rest
