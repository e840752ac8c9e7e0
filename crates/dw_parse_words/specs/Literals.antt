-- Literals: the words that are one, and what a token of digits or a text is. After the literals of the SQL standard.
use Rattle.std.specs.Prelude.{ℕ, ◌^◌, pos, neg_ℤ, ◌&&◌, nat_le, nat_lt, if◌then◌else◌, Option, Some, None, List, [], ◌∷◌, slice_get, codes}
use Rattle.std.specs.Option.{option_and_then}
use Rattle.dw_lex.specs.Meaning.{said_by, decimal_number}
use Rattle.dw_lex.specs.declared.token.Form.{Form}
use Rattle.dw_lex.specs.declared.token.Form.TheVariants as form
use Rattle.dw_lex.specs.declared.token.Token.{Token}
use Rattle.dw_model.specs.declared.statements.Literal.{Literal}
use Rattle.dw_model.specs.declared.statements.Literal.TheVariants as literals
use Rattle.dw_parse_words.specs.declared.parts.LiteralWord.{LiteralWord}
use Rattle.dw_parse_words.specs.declared.parts.LiteralWord.TheVariants.{Null, True, False, Date}
use Rattle.dw_parse_words.specs.Words.{meant_at}

abbrev pub literal_words : List (List ℕ × LiteralWord)
literal_words = (codes "null", Null) ∷ (codes "true", True) ∷ (codes "false", False) ∷ (codes "date", Date) ∷ []

-- the word that a literal is or begins with
abbrev pub literal_word : List Token → ℕ → Option LiteralWord
literal_word tokens i = meant_at literal_words tokens i

-- a number of at most 38 digits, of which at most 37 stand after the point
abbrev pub within_digits : Option (ℕ × ℕ) → Option (ℕ × ℕ)
within_digits None = None
within_digits (Some n) = if nat_lt n.0 (10 ^ 38) && nat_le n.1 37 then Some n else None

-- the number of a token's digits without its point, and how many of them stand after the point
abbrev pub digits_at : List Token → ℕ → Option (ℕ × ℕ)
digits_at tokens i = within_digits (option_and_then decimal_number (slice_get tokens i))

-- the number literal of digits: 1.50 has the coefficient 150 and the scale 2
abbrev pub number_of_digits : ℕ × ℕ → Literal
number_of_digits n = literals.Number (pos n.0) n.1

-- the same below zero
abbrev pub negative_of_digits : ℕ × ℕ → Literal
negative_of_digits n = literals.Number (neg_ℤ (pos n.0)) n.1

abbrev pub text_in : Form → List ℕ → Option (List ℕ)
text_in form.Words text = Some (said_by text)
text_in form.Name text = None
text_in form.Quoted text = None
text_in form.Number text = None
text_in (form.Sign sign) text = None

abbrev pub text_of : Token → Option (List ℕ)
text_of token = text_in token.form token.text

-- what a text in single quotes says
abbrev pub text_at : List Token → ℕ → Option (List ℕ)
text_at tokens i = option_and_then text_of (slice_get tokens i)
