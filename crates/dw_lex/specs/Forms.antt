-- The forms of tokens: how many bytes a token of each form takes at the front of these bytes. It is always the longest
-- one. `None` is said where no token begins, and where the longest one is too long.
use Rattle.std.specs.Prelude.{ℕ, ◌+◌, Bool, false, ◌==◌, ◌&&◌, not, nat_le, if◌then◌else◌, Option, Some, None, option_map, List, [], ◌∷◌, take, drop}
use Rattle.std.specs.List.{prefix_len}
use Rattle.std.specs.Char.{is_ascii_digit}
use Rattle.std.specs.Str.{is_utf8}
use Rattle.dw_lex.specs.Characters.{begins_name, is_in_name, quote, is_double_quote, point, begins_comment}
use Rattle.dw_lex.specs.Signs.{sign_of_one, sign_of_two}
use Rattle.dw_lex.specs.declared.signs.Sign.{Sign as Mark}
use Rattle.dw_lex.specs.declared.token.Form.{Form}
use Rattle.dw_lex.specs.declared.token.Form.TheVariants.{Name, Quoted, Number, Words, Sign}

-- a token's form and how many bytes it takes
abbrev pub SizedForm : Type 0
SizedForm = Form × ℕ

-- a name: all the characters of names, at most 127
abbrev pub name_at : List ℕ → Option SizedForm
name_at bytes = let long = prefix_len is_in_name bytes in if nat_le long 127 then Some (Name, long) else None

-- whether the first byte passes the test
abbrev pub begins_with : (ℕ → Bool) → List ℕ → Bool
begins_with test [] = false
begins_with test (b ∷ bs) = test b

-- a name in double quotes; this is said of the bytes after its opening quote, which are a name up to the next one
abbrev pub quoted_at : List ℕ → Option SizedForm
quoted_at inside =
    let long = prefix_len is_in_name inside in
    if begins_with begins_name inside && nat_le long 127 && begins_with is_double_quote (drop long inside)
    then Some (Quoted, long + 2) else None

-- how many digits are at the front
abbrev pub digits_at : List ℕ → ℕ
digits_at bytes = prefix_len is_ascii_digit bytes

-- how many digits come after a point at the front
abbrev pub fraction_at : List ℕ → ℕ
fraction_at [] = 0
fraction_at (b ∷ bs) = if b == point then digits_at bs else 0

-- a number of so many digits before the point and after it, at most 38 together; the point is its own only where a
-- digit comes after it
abbrev pub number_of : ℕ → ℕ → Option SizedForm
number_of whole fraction =
    if nat_le (whole + fraction) 38 then Some (Number, if fraction == 0 then whole else whole + 1 + fraction) else None

abbrev pub number_at : List ℕ → Option SizedForm
number_at bytes = number_of (digits_at bytes) (fraction_at (drop (digits_at bytes) bytes))

-- Where a text ends, of which `passed` bytes are passed: with the first quote that no second quote follows. `pending`
-- says whether the byte before is a quote that ends the text unless another follows, so that the two stand for one.
abbrev pub text_end : List ℕ → Bool → ℕ → Option ℕ
text_end [] pending passed = if pending then Some passed else None
text_end (b ∷ bs) pending passed =
    if pending && not (b == quote) then Some passed
    else text_end bs (not pending && (b == quote)) (passed + 1)

-- a text in single quotes; this is said of the bytes after its opening quote
abbrev pub words_at : List ℕ → Option SizedForm
words_at inside = option_map (λ long. (Words, long)) (text_end inside false 1)

-- a sign, of two characters where there is such a one, and none where a comment begins
abbrev pub longer_sign : Option Mark → Option Mark → Option SizedForm
longer_sign (Some sign) one = Some (Sign sign, 2)
longer_sign None one = option_map (λ sign. (Sign sign, 1)) one

abbrev pub sign_at : List ℕ → Option SizedForm
sign_at [] = None
sign_at (b ∷ []) = longer_sign None (sign_of_one b)
sign_at (b ∷ c ∷ bs) = if begins_comment b c then None else longer_sign (sign_of_two b c) (sign_of_one b)

-- the token at the front, told by its first character
abbrev pub form_at : List ℕ → Option SizedForm
form_at [] = None
form_at (b ∷ bs) =
    if begins_name b then name_at (b ∷ bs) else
    if is_ascii_digit b then number_at (b ∷ bs) else
    if b == quote then words_at bs else
    if is_double_quote b then quoted_at bs else sign_at (b ∷ bs)

-- A token's bytes are UTF-8. In a statement that is UTF-8 they always are, by the law `spelled_tokens_are_read`.
abbrev pub in_utf8 : List ℕ → Option SizedForm → Option (Form × List ℕ)
in_utf8 bytes None = None
in_utf8 bytes (Some found) =
    if is_utf8 (take found.1 bytes) then Some (found.0, take found.1 bytes) else None

-- the token at the front: its form and its bytes
unfoldable pub token_at : List ℕ → Option (Form × List ℕ)
token_at bytes = in_utf8 bytes (form_at bytes)
