-- What a token says.
use Rattle.std.specs.Prelude.{◌≡◌, ℕ, ◌^◌, Bool, true, false, ◌==◌, ◌&&◌, nat_lt, if◌then◌else◌, Option, Some, None, option_map, List, [], ◌∷◌, ◌++◌, map, length}
use Rattle.std.specs.Char.{to_ascii_lowercase, is_ascii_digit}
use Rattle.std.specs.List.{list_all, before_first, after_first}
use Rattle.std.specs.Str.Parse.{digits_value}
use Rattle.dw_lex.specs.Characters.{quote, is_double_quote, point}
use Rattle.dw_lex.specs.declared.token.Form.{Form}
use Rattle.dw_lex.specs.declared.token.Form.TheVariants.{Name, Quoted, Number, Words, Sign}
use Rattle.dw_lex.specs.declared.token.Token.{Token}

-- a name with its ASCII letters in lower case
abbrev pub folded : List ℕ → List ℕ
folded name = map to_ascii_lowercase name

-- what stands between the quotes of a quoted name: between the first double quote and the next one
abbrev pub between_quotes : List ℕ → List ℕ
between_quotes text = before_first is_double_quote (after_first is_double_quote text)

-- The name that a token writes, in lower case: a name writes itself, and a quoted name what stands between its quotes.
-- After the Amazon Redshift guide (names and identifiers), where the letters between the quotes are folded too.
abbrev pub name_in : Form → List ℕ → Option (List ℕ)
name_in Name text = Some (folded text)
name_in Quoted text = Some (folded (between_quotes text))
name_in Number text = None
name_in Words text = None
name_in (Sign sign) text = None

abbrev pub written_name : Token → Option (List ℕ)
written_name token = name_in token.form token.text

-- the token is this word, whatever the case of its letters; a quoted name is no word
abbrev pub IsWord : List ℕ → Token → Type 0
IsWord word token = (token.form ≡ Name) × (folded token.text ≡ folded word)

-- The text after an opening quote: a quote is left out unless it comes after one that is left out, as the second of two
-- does. `pending` says whether the byte before is a quote that is left out.
abbrev pub said_after : List ℕ → Bool → List ℕ
said_after [] pending = []
said_after (b ∷ bs) pending =
    if b == quote
    then (if pending then b ∷ said_after bs false else said_after bs true)
    else b ∷ said_after bs false

-- what a text in single quotes says: its bytes without the quotes round it, and one quote for two
abbrev pub said_by : List ℕ → List ℕ
said_by [] = []
said_by (b ∷ bs) = if b == quote then said_after bs false else said_after (b ∷ bs) false

-- the number that digits write, where it is below 2 ^ 128, as each of at most 38 digits is
abbrev pub number_of_digits : List ℕ → Option ℕ
number_of_digits text =
    if list_all is_ascii_digit text && nat_lt 0 (length text) && nat_lt (digits_value 10 text) (2 ^ 128)
    then Some (digits_value 10 text) else None

-- the number that a token of digits alone writes
abbrev pub number_in : Form → List ℕ → Option ℕ
number_in Number text = number_of_digits text
number_in Name text = None
number_in Quoted text = None
number_in Words text = None
number_in (Sign sign) text = None

abbrev pub whole_number : Token → Option ℕ
whole_number token = number_in token.form token.text

abbrev pub is_point : ℕ → Bool
is_point b = b == point

-- what digits with a point among them or without write: the number of all the digits, and how many of them stand after
-- the point, which gives 150 and 2 for 1.50
abbrev pub number_with_places : List ℕ → Option (ℕ × ℕ)
number_with_places text =
    option_map (λ number. (number, length (after_first is_point text)))
    (number_of_digits (before_first is_point text ++ after_first is_point text))

abbrev pub decimal_in : Form → List ℕ → Option (ℕ × ℕ)
decimal_in Number text = number_with_places text
decimal_in Name text = None
decimal_in Quoted text = None
decimal_in Words text = None
decimal_in (Sign sign) text = None

-- the number that a token of digits writes, with a point or without, and how many digits stand after the point
abbrev pub decimal_number : Token → Option (ℕ × ℕ)
decimal_number token = decimal_in token.form token.text
