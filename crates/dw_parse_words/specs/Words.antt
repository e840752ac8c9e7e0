-- What the token at a place of a statement is, as the grammar takes it. Places are counted in tokens, from 0. After the
-- last token nothing is found. The reserved words are this project's profile of the Amazon Redshift guide.
use Rattle.std.specs.Prelude.{ℕ, ◌^◌, Bool, true, false, ◌&&◌, nat_eq, nat_lt, if◌then◌else◌, Option, Some, None, List, [], ◌∷◌, slice_get, codes}
use Rattle.std.specs.Option.{option_and_then}
use Rattle.std.specs.List.{list_any}
use Rattle.std.specs.Cmp.Lexicographic.{pointwise}
use Rattle.dw_lex.specs.Meaning.{folded, written_name, whole_number}
use Rattle.dw_lex.specs.declared.signs.Sign.{Sign as Mark}
use Rattle.dw_lex.specs.declared.signs.Sign.TheVariants as mark
use Rattle.dw_lex.specs.declared.token.Form.{Form}
use Rattle.dw_lex.specs.declared.token.Form.TheVariants as form
use Rattle.dw_lex.specs.declared.token.Token.{Token}
use Rattle.dw_value.specs.declared.kinds.Comparison.{Comparison}
use Rattle.dw_value.specs.declared.kinds.Comparison.TheVariants as test

-- the form of a name without quotes, as a word is
abbrev pub is_name : Form → Bool
is_name form.Name = true
is_name form.Quoted = false
is_name form.Number = false
is_name form.Words = false
is_name (form.Sign sign) = false

abbrev pub sign_of : Form → Option Mark
sign_of form.Name = None
sign_of form.Quoted = None
sign_of form.Number = None
sign_of form.Words = None
sign_of (form.Sign sign) = Some sign

-- the token is this word, whatever the case of its letters; a quoted name is no word
abbrev pub says : List ℕ → Token → Bool
says word token = is_name token.form && pointwise nat_eq (folded token.text) (folded word)

-- the words that are no names without quotes
abbrev pub reserved_words : List (List ℕ)
reserved_words =
    codes "all" ∷ codes "and" ∷ codes "as" ∷ codes "asc" ∷ codes "between" ∷ codes "by" ∷ codes "case" ∷ codes "create"
    ∷ codes "cross" ∷ codes "default" ∷ codes "delete" ∷ codes "desc" ∷ codes "distinct" ∷ codes "else" ∷ codes "end"
    ∷ codes "except" ∷ codes "false" ∷ codes "foreign" ∷ codes "from" ∷ codes "full" ∷ codes "group" ∷ codes "having"
    ∷ codes "in" ∷ codes "inner" ∷ codes "insert" ∷ codes "intersect" ∷ codes "into" ∷ codes "is" ∷ codes "join"
    ∷ codes "left" ∷ codes "like" ∷ codes "limit" ∷ codes "minus" ∷ codes "natural" ∷ codes "not" ∷ codes "null"
    ∷ codes "offset" ∷ codes "on" ∷ codes "or" ∷ codes "order" ∷ codes "over" ∷ codes "primary" ∷ codes "references"
    ∷ codes "right" ∷ codes "select" ∷ codes "set" ∷ codes "table" ∷ codes "then" ∷ codes "true" ∷ codes "union"
    ∷ codes "unique" ∷ codes "update" ∷ codes "using" ∷ codes "values" ∷ codes "when" ∷ codes "where" ∷ codes "with"
    ∷ []

unfoldable pub is_reserved : List ℕ → Bool
is_reserved name = list_any (λ word. pointwise nat_eq word name) reserved_words

-- a name in lower case; a reserved word is one in quotes alone
abbrev pub name_of : Token → Option (List ℕ)
name_of token = if is_name token.form && is_reserved (folded token.text) then None else written_name token

-- a number of at most 38 digits
abbrev pub below_limit : Option ℕ → Option ℕ
below_limit None = None
below_limit (Some n) = if nat_lt n (10 ^ 38) then Some n else None

abbrev pub number_of : Token → Option ℕ
number_of token = below_limit (whole_number token)

-- what this token says of the words of a table, if it is one of them, whatever the case of its letters
abbrev pub meant : {A : Type 0} → List (List ℕ × A) → Token → Option A
meant [] token = None
meant (entry ∷ entries) token = if says entry.0 token then Some entry.1 else meant entries token

abbrev pub meant_in : {A : Type 0} → List (List ℕ × A) → Option Token → Option A
meant_in entries None = None
meant_in entries (Some token) = meant entries token

-- the comparison that a sign says
abbrev pub comparison_of : Option Mark → Option Comparison
comparison_of (Some mark.Equal) = Some test.Equal
comparison_of (Some mark.Unequal) = Some test.Unequal
comparison_of (Some mark.Less) = Some test.Less
comparison_of (Some mark.AtMost) = Some test.AtMost
comparison_of (Some mark.Greater) = Some test.Greater
comparison_of (Some mark.AtLeast) = Some test.AtLeast
comparison_of _ = None

-- whether a sign, where there is one, is this one
abbrev pub is_sign : Mark → Option Mark → Bool
is_sign mark.Open (Some mark.Open) = true
is_sign mark.Close (Some mark.Close) = true
is_sign mark.Comma (Some mark.Comma) = true
is_sign mark.Dot (Some mark.Dot) = true
is_sign mark.Plus (Some mark.Plus) = true
is_sign mark.Minus (Some mark.Minus) = true
is_sign mark.Star (Some mark.Star) = true
is_sign mark.Slash (Some mark.Slash) = true
is_sign mark.Percent (Some mark.Percent) = true
is_sign mark.Equal (Some mark.Equal) = true
is_sign mark.Unequal (Some mark.Unequal) = true
is_sign mark.Less (Some mark.Less) = true
is_sign mark.AtMost (Some mark.AtMost) = true
is_sign mark.Greater (Some mark.Greater) = true
is_sign mark.AtLeast (Some mark.AtLeast) = true
is_sign mark.Join (Some mark.Join) = true
is_sign mark.Cast (Some mark.Cast) = true
is_sign sign other = false

abbrev pub says_in : List ℕ → Option Token → Bool
says_in word None = false
says_in word (Some token) = says word token

abbrev pub word_at : List ℕ → List Token → ℕ → Bool
word_at word tokens i = says_in word (slice_get tokens i)

abbrev pub sign_at : List Token → ℕ → Option Mark
sign_at tokens i = option_and_then (λ token. sign_of token.form) (slice_get tokens i)

abbrev pub is_sign_at : Mark → List Token → ℕ → Bool
is_sign_at sign tokens i = is_sign sign (sign_at tokens i)

abbrev pub name_at : List Token → ℕ → Option (List ℕ)
name_at tokens i = option_and_then name_of (slice_get tokens i)

abbrev pub number_at : List Token → ℕ → Option ℕ
number_at tokens i = option_and_then number_of (slice_get tokens i)

abbrev pub meant_at : {A : Type 0} → List (List ℕ × A) → List Token → ℕ → Option A
meant_at entries tokens i = meant_in entries (slice_get tokens i)
