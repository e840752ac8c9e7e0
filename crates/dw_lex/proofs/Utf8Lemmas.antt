-- Tokens of UTF-8 are UTF-8.
use Rattle.std.proofs.Common.{◌≡◌, ℕ, ◌+◌, ◌<◌, ◌≤◌, Bool, true, Some, List, [], ◌∷◌, ◌++◌, length, take, drop, get_or, refl, sym, subst, append_assoc, arith}
use Rattle.std.specs.List.{list_all}
use Rattle.std.specs.Char.{is_ascii_digit}
use Rattle.std.specs.Str.{IsUtf8, IsAscii}
use Rattle.std.proofs.lemmas.Bool.{and_parts}
use Rattle.std.proofs.lemmas.Bool.Decides.{nat_tests}
use Rattle.std.proofs.lemmas.Str.{IsUtf8-take, IsUtf8-drop, IsUtf8-from_ascii, IsAscii-append, IsCharBoundary-after_ascii, IsCharBoundary-from_take}
use Rattle.std.proofs.lemmas.Str.Ascii.{IsAscii-nil, IsAscii-cons}
use Rattle.std.proofs.lemmas.List.{take_at, drop_at, length-append}
use Rattle.std.proofs.Math.Seq.{get_or-append_seam}
use Rattle.dw_lex.specs.Characters.{is_blank, begins_name, is_in_name, quote, double_quote, point}
use Rattle.dw_lex.specs.Signs.{sign_of_one, sign_of_two}
use Rattle.dw_lex.specs.Spelling.{IsName, IsQuoted, quoted, IsDigits, IsNumber, whole, decimal, IsWords, text, IsSign, IsToken}
use Rattle.dw_lex.specs.declared.signs.Sign.{Sign as Mark}
use Rattle.dw_lex.specs.declared.token.Form.{Form}
use Rattle.dw_lex.specs.declared.token.Form.TheVariants.{Name, Quoted, Number, Words, Sign}

-- a front that ends in an ASCII character
pub IsUtf8-front : (xs rest : List ℕ) (b : ℕ) → b < 128 → IsUtf8 (xs ++ b ∷ rest) → IsUtf8 (xs ++ b ∷ [])
IsUtf8-front xs rest b small u =
    let bytes : List ℕ = xs ++ b ∷ rest in
    let at : get_or bytes (length xs) 0 ≡ b = get_or-append_seam xs b rest 0 in
    let long : length xs < length bytes = omega (arith, length-append xs (b ∷ rest)) in
    let ascii : get_or bytes (length xs) 0 < 128 = omega arith in
    let cut = IsUtf8-take bytes (length xs + 1) u (IsCharBoundary-after_ascii bytes (length xs) u long ascii) in
    let joined : (xs ++ b ∷ []) ++ rest ≡ bytes = append_assoc xs (b ∷ []) rest in
    let taken : take (length xs + 1) bytes ≡ xs ++ b ∷ [] = rw (← joined) (take_at (xs ++ b ∷ []) rest (length xs + 1) (length-append xs (b ∷ []))) in
    subst IsUtf8 taken cut

pub IsUtf8-rest : (front rest : List ℕ) → IsUtf8 front → IsUtf8 (front ++ rest) → IsUtf8 rest
IsUtf8-rest front rest f u =
    let bytes : List ℕ = front ++ rest in
    let taken : take (length front) bytes ≡ front = take_at front rest (length front) refl in
    let dropped : drop (length front) bytes ≡ rest = drop_at front rest (length front) refl in
    let long : length front ≤ length bytes = omega (arith, length-append front rest) in
    subst IsUtf8 dropped (IsUtf8-drop bytes (length front) u (IsCharBoundary-from_take bytes (length front) u long (subst IsUtf8 (sym taken) f)))

ascii_all : (test : ℕ → Bool) → ((b : ℕ) → test b ≡ true → b < 128) → (xs : List ℕ) → list_all test xs ≡ true → IsAscii xs
ascii_all test small [] all = IsAscii-nil
ascii_all test small (x ∷ xs) all =
    let parts = and_parts (test x) (list_all test xs) all in IsAscii-cons x xs (small x parts.0) (ascii_all test small xs parts.1)

begins_small : (b : ℕ) → begins_name b ≡ true → b < 128
begins_small b h = grind (arith, nat_tests)

name_small : (b : ℕ) → is_in_name b ≡ true → b < 128
name_small b h = grind (arith, nat_tests)

digit_small : (b : ℕ) → is_ascii_digit b ≡ true → b < 128
digit_small b h = grind (arith, nat_tests)

one_small : (b : ℕ) (sign : Mark) → sign_of_one b ≡ Some sign → b < 128
one_small b sign h = grind (arith, nat_tests)

two_small : (b c : ℕ) (sign : Mark) → sign_of_two b c ≡ Some sign → (b < 128) × (c < 128)
two_small b c sign h = (grind (arith, nat_tests), grind (arith, nat_tests))

blank_small : (b : ℕ) → is_blank b ≡ true → b < 128
blank_small b h = grind (arith, nat_tests)

digits_ascii : (digits : List ℕ) → IsDigits digits → IsAscii digits
digits_ascii [] h = absurd h
digits_ascii (b ∷ bs) h = IsAscii-cons b bs (digit_small b h.0) (ascii_all is_ascii_digit digit_small bs h.1)

append_ascii : (xs ys : List ℕ) → IsAscii xs → IsAscii ys → IsAscii (xs ++ ys)
append_ascii xs ys h k = IsAscii-append xs ys h k

name_ascii : (word rest : List ℕ) → IsName word rest → IsAscii word
name_ascii [] rest h = absurd h
name_ascii (b ∷ bs) rest h = IsAscii-cons b bs (begins_small b h.0) (ascii_all is_in_name name_small bs h.1)

quoted_ascii : (word : List ℕ) → IsQuoted word → IsAscii word
quoted_ascii word (quoted name h) =
    IsAscii-cons double_quote (name ++ double_quote ∷ []) (omega arith) (append_ascii name (double_quote ∷ []) (name_ascii name [] h) (IsAscii-cons double_quote [] (omega arith) IsAscii-nil))

number_ascii : (word rest : List ℕ) → IsNumber word rest → IsAscii word
number_ascii word rest (whole digits rest₂ h long e none) = digits_ascii digits h
number_ascii word rest (decimal digits fraction rest₂ h f long e) =
    append_ascii digits (point ∷ fraction) (digits_ascii digits h) (IsAscii-cons point fraction (omega arith) (digits_ascii fraction f))

sign_ascii : (sign : Mark) (word rest : List ℕ) → IsSign sign word rest → IsAscii word
sign_ascii sign [] rest h = absurd h
sign_ascii sign (b ∷ []) [] h = IsAscii-cons b [] (one_small b sign h) IsAscii-nil
sign_ascii sign (b ∷ []) (c ∷ rest) h = IsAscii-cons b [] (one_small b sign h.0) IsAscii-nil
sign_ascii sign (b ∷ c ∷ []) rest h = let small = two_small b c sign h in IsAscii-cons b (c ∷ []) small.0 (IsAscii-cons c [] small.1 IsAscii-nil)
sign_ascii sign (b ∷ c ∷ d ∷ bs) rest h = absurd h

words_utf8 : (word rest : List ℕ) → IsWords word rest → IsUtf8 (word ++ rest) → IsUtf8 word
words_utf8 word rest (text inside rest₂ i e) u =
    let joined : (quote ∷ inside ++ quote ∷ []) ++ rest ≡ (quote ∷ inside) ++ quote ∷ rest = append_assoc (quote ∷ inside) (quote ∷ []) rest in
    IsUtf8-front (quote ∷ inside) rest quote (omega arith) (subst IsUtf8 joined u)

word_utf8 : (form : Form) (word rest : List ℕ) → IsToken form word rest → IsUtf8 (word ++ rest) → IsUtf8 word
word_utf8 Name word rest h u = IsUtf8-from_ascii word (name_ascii word rest h)
word_utf8 Quoted word rest h u = IsUtf8-from_ascii word (quoted_ascii word h)
word_utf8 Number word rest h u = IsUtf8-from_ascii word (number_ascii word rest h)
word_utf8 Words word rest h u = words_utf8 word rest h u
word_utf8 (Sign sign) word rest h u = IsUtf8-from_ascii word (sign_ascii sign word rest h)

pub token_utf8 : (form : Form) (word rest : List ℕ) → IsToken form word rest → IsUtf8 (word ++ rest) → IsUtf8 word × IsUtf8 rest
token_utf8 form word rest h u = let own = word_utf8 form word rest h u in (own, IsUtf8-rest word rest own u)

pub blank_utf8 : (b : ℕ) (rest : List ℕ) → is_blank b ≡ true → IsUtf8 (b ∷ rest) → IsUtf8 rest
blank_utf8 b rest h u = IsUtf8-rest (b ∷ []) rest (IsUtf8-from_ascii (b ∷ []) (IsAscii-cons b [] (blank_small b h) IsAscii-nil)) u
