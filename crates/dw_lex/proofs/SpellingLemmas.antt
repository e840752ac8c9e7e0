-- What is spelled as a token is read as it.
use Rattle.std.proofs.Common.{◌≡◌, ℕ, suc, ◌+◌, ◌<◌, ◌≤◌, Bool, true, false, eqb, leb, Option, Some, None, List, [], ◌∷◌, ◌++◌, length, take, drop, refl, sym, ◌∙◌, ap, subst, append_assoc, arith}
use Rattle.std.specs.List.{list_all, prefix_len}
use Rattle.std.specs.Char.{is_ascii_digit}
use Rattle.std.specs.Str.{IsUtf8}
use Rattle.std.proofs.lemmas.Bool.{and_parts, le-leb, ne_eqb, eqb-true}
use Rattle.std.proofs.lemmas.Bool.Decides.{nat_tests}
use Rattle.std.proofs.lemmas.List.{take_at, drop_at, length-append}
use Rattle.dw_lex.specs.Characters.{begins_name, is_in_name, quote, double_quote, is_double_quote, point, begins_comment}
use Rattle.dw_lex.specs.Signs.{sign_of_one, sign_of_two}
use Rattle.dw_lex.specs.Forms.{begins_with, quoted_at, digits_at, number_at, text_end, sign_at, form_at, token_at}
use Rattle.dw_lex.specs.Spelling.{EndsAt, IsName, IsQuoted, quoted, IsDigits, IsNumber, whole, decimal, IsInside, nothing, other, quotes, IsWords, text, IsSign, IsToken}
use Rattle.dw_lex.specs.declared.signs.Sign.{Sign as Mark}
use Rattle.dw_lex.specs.declared.token.Form.{Form}
use Rattle.dw_lex.specs.declared.token.Form.TheVariants.{Name, Quoted, Number, Words, Sign}
use Rattle.dw_lex.proofs.FormLemmas.{token_at-some}

prefix_len-end : (test : ℕ → Bool) (rest : List ℕ) → EndsAt test rest → prefix_len test rest ≡ 0
prefix_len-end test [] e = refl
prefix_len-end test (b ∷ bs) e = rw e refl

pub prefix_len-whole : (test : ℕ → Bool) (xs rest : List ℕ) → list_all test xs ≡ true → EndsAt test rest → prefix_len test (xs ++ rest) ≡ length xs
prefix_len-whole test [] rest all e = prefix_len-end test rest e
prefix_len-whole test (x ∷ xs) rest all e =
    let parts = and_parts (test x) (list_all test xs) all in
    let more = prefix_len-whole test xs rest parts.1 e in
    let first = parts.0 in
    rw (first, more) (omega arith)

name_found : (b : ℕ) (bs rest : List ℕ) → IsName (b ∷ bs) rest → form_at ((b ∷ bs) ++ rest) ≡ Some (Name, length (b ∷ bs))
name_found b bs rest h =
    let begins = h.0 in
    let more = prefix_len-whole is_in_name bs rest h.1 h.3 in
    let small : leb (1 + length bs) 127 ≡ true = le-leb (1 + length bs) 127 (omega arith) in
    let long : 1 + length bs ≡ suc (length bs) = omega arith in
    rw (begins, more, small) (ap (λ n. Some (Name, n)) long)

quoted_from : (name rest : List ℕ) → begins_with begins_name (name ++ double_quote ∷ rest) ≡ true → prefix_len is_in_name (name ++ double_quote ∷ rest) ≡ length name
    → length name ≤ 127 → quoted_at (name ++ double_quote ∷ rest) ≡ Some (Quoted, length name + 2)
quoted_from name rest begins long le =
    let small : leb (length name) 127 ≡ true = le-leb (length name) 127 le in
    let tail : drop (length name) (name ++ double_quote ∷ rest) ≡ double_quote ∷ rest = drop_at name (double_quote ∷ rest) (length name) refl in
    rw (begins, long, small, tail) refl

quoted_inside : (name rest : List ℕ) → IsName name [] → quoted_at (name ++ double_quote ∷ rest) ≡ Some (Quoted, length name + 2)
quoted_inside [] rest h = absurd h
quoted_inside (b ∷ bs) rest h =
    let begins = h.0 in
    let all : list_all is_in_name (b ∷ bs) ≡ true = rw begins h.1 in
    quoted_from (b ∷ bs) rest begins (prefix_len-whole is_in_name (b ∷ bs) (double_quote ∷ rest) all refl) (omega (arith, h.2))

quoted_found : (word rest : List ℕ) → IsQuoted word → form_at (word ++ rest) ≡ Some (Quoted, length word)
quoted_found word rest (quoted name h) =
    let joined : (double_quote ∷ name ++ double_quote ∷ []) ++ rest ≡ double_quote ∷ (name ++ double_quote ∷ rest) = ap (λ (xs : List ℕ). double_quote ∷ xs) (append_assoc name (double_quote ∷ []) rest) in
    let total : length name + 2 ≡ length (double_quote ∷ name ++ double_quote ∷ []) = omega (arith, length-append name (double_quote ∷ [])) in
    ap form_at joined ∙ quoted_inside name rest h ∙ ap (λ n. Some (Quoted, n)) total

digit_begins_none : (b : ℕ) → is_ascii_digit b ≡ true → begins_name b ≡ false
digit_begins_none b h = grind (arith, nat_tests)

digits_whole : (digits rest : List ℕ) → IsDigits digits → EndsAt is_ascii_digit rest → digits_at (digits ++ rest) ≡ length digits
digits_whole [] rest h e = absurd h
digits_whole (b ∷ bs) rest h e =
    let first = h.0 in
    let more = prefix_len-whole is_ascii_digit bs rest h.1 e in
    rw (first, more) (omega arith)

number_first : (digits rest : List ℕ) → IsDigits digits → form_at (digits ++ rest) ≡ number_at (digits ++ rest)
number_first [] rest h = absurd h
number_first (b ∷ bs) rest h = let first = h.0 in let none = digit_begins_none b h.0 in rw (none, first) refl

some_digits : (digits : List ℕ) → IsDigits digits → 0 < length digits
some_digits [] h = absurd h
some_digits (b ∷ bs) h = omega arith

number_found : (word rest : List ℕ) → IsNumber word rest → form_at (word ++ rest) ≡ Some (Number, length word)
number_found word rest (whole digits rest₂ h long e none) =
    let w = digits_whole digits rest h e in
    let d : drop (length digits) (digits ++ rest) ≡ rest = drop_at digits rest (length digits) refl in
    let small : leb (length digits + 0) 38 ≡ true = le-leb (length digits + 0) 38 (omega arith) in
    number_first digits rest h ∙ rw (w, d, none, small) refl
number_found word rest (decimal digits fraction rest₂ h f long e) =
    let tail : List ℕ = point ∷ (fraction ++ rest) in
    let w : digits_at (digits ++ tail) ≡ length digits = digits_whole digits tail h refl in
    let d : drop (length digits) (digits ++ tail) ≡ tail = drop_at digits tail (length digits) refl in
    let n = digits_whole fraction rest f e in
    let small : leb (length digits + length fraction) 38 ≡ true = le-leb (length digits + length fraction) 38 long in
    let some : eqb (length fraction) 0 ≡ false = ne_eqb (length fraction) 0 (λ z. omega (arith, some_digits fraction f)) in
    let total : length digits + 1 + length fraction ≡ length (digits ++ point ∷ fraction) = omega (arith, length-append digits (point ∷ fraction)) in
    let found : form_at (digits ++ tail) ≡ Some (Number, length (digits ++ point ∷ fraction)) =
    number_first digits tail h ∙ rw (w, d, n, small, some, total) refl in
    rw append_assoc found

text_end-close : (rest : List ℕ) (n : ℕ) → EndsAt (λ b. eqb b quote) rest → text_end rest true n ≡ Some n
text_end-close [] n e = refl
text_end-close (b ∷ bs) n e = rw e refl

text_end-inside : (inside rest : List ℕ) (n : ℕ) → IsInside inside → EndsAt (λ b. eqb b quote) rest → text_end (inside ++ quote ∷ rest) false n ≡ Some (n + length inside + 1)
text_end-inside inside rest n nothing e = text_end-close rest (n + 1) e ∙ ap Some (omega arith)
text_end-inside inside rest n (other b bs h i) e = rw h (text_end-inside bs rest (n + 1) i e ∙ ap Some (omega arith))
text_end-inside inside rest n (quotes bs i) e = text_end-inside bs rest (n + 1 + 1) i e ∙ ap Some (omega arith)

words_found : (word rest : List ℕ) → IsWords word rest → form_at (word ++ rest) ≡ Some (Words, length word)
words_found word rest (text inside rest₂ i e) =
    let end = text_end-inside inside rest 1 i e in
    let total : 1 + length inside + 1 ≡ suc (length (inside ++ quote ∷ [])) = omega (arith, length-append inside (quote ∷ [])) in
    let joined : (quote ∷ inside ++ quote ∷ []) ++ rest ≡ quote ∷ (inside ++ quote ∷ rest) = ap (λ (xs : List ℕ). quote ∷ xs) (append_assoc inside (quote ∷ []) rest) in
    let found : form_at (quote ∷ (inside ++ quote ∷ rest)) ≡ Some (Words, suc (length (inside ++ quote ∷ []))) = rw (end, total) refl in
    ap form_at joined ∙ found

-- what begins another token is no sign's first character
name_no_sign : (b : ℕ) → begins_name b ≡ true → sign_of_one b ≡ None
name_no_sign b h = grind (arith, nat_tests)

digit_no_sign : (b : ℕ) → is_ascii_digit b ≡ true → sign_of_one b ≡ None
digit_no_sign b h = grind (arith, nat_tests)

name_no_longer : (b c : ℕ) → begins_name b ≡ true → sign_of_two b c ≡ None
name_no_longer b c h = grind (arith, nat_tests)

digit_no_longer : (b c : ℕ) → is_ascii_digit b ≡ true → sign_of_two b c ≡ None
digit_no_longer b c h = grind (arith, nat_tests)

quote_no_sign : (b : ℕ) → eqb b quote ≡ true → sign_of_one b ≡ None
quote_no_sign b h = let e = eqb-true b quote h in rw e refl

quote_no_longer : (b c : ℕ) → eqb b quote ≡ true → sign_of_two b c ≡ None
quote_no_longer b c h = let e = eqb-true b quote h in rw e refl

double_no_sign : (b : ℕ) → eqb b double_quote ≡ true → sign_of_one b ≡ None
double_no_sign b h = let e = eqb-true b double_quote h in rw e refl

double_no_longer : (b c : ℕ) → eqb b double_quote ≡ true → sign_of_two b c ≡ None
double_no_longer b c h = let e = eqb-true b double_quote h in rw e refl

comment_no_longer : (b c : ℕ) → begins_comment b c ≡ true → sign_of_two b c ≡ None
comment_no_longer b c h = grind (arith, nat_tests)

pub fails : {A : Type 0} (t : Bool) (found : Option A) (a : A) → (t ≡ true → found ≡ None) → found ≡ Some a → t ≡ false
fails true found a none some = let e = none refl in cc
fails false found a none some = refl

-- the byte begins no name, number, text or quoted name
abbrev BeginsNoOther : ℕ → Type 0
BeginsNoOther b = (begins_name b ≡ false) × (is_ascii_digit b ≡ false) × (eqb b quote ≡ false) × (eqb b double_quote ≡ false)

one_other : (b : ℕ) (sign : Mark) → sign_of_one b ≡ Some sign → BeginsNoOther b
one_other b sign h = (
  fails (begins_name b) (sign_of_one b) sign (name_no_sign b) h,
  fails (is_ascii_digit b) (sign_of_one b) sign (digit_no_sign b) h,
  fails (eqb b quote) (sign_of_one b) sign (quote_no_sign b) h,
  fails (eqb b double_quote) (sign_of_one b) sign (double_no_sign b) h,
)

two_other : (b c : ℕ) (sign : Mark) → sign_of_two b c ≡ Some sign → BeginsNoOther b
two_other b c sign h = (
  fails (begins_name b) (sign_of_two b c) sign (name_no_longer b c) h,
  fails (is_ascii_digit b) (sign_of_two b c) sign (digit_no_longer b c) h,
  fails (eqb b quote) (sign_of_two b c) sign (quote_no_longer b c) h,
  fails (eqb b double_quote) (sign_of_two b c) sign (double_no_longer b c) h,
)

sign_first : (b : ℕ) (bs : List ℕ) → BeginsNoOther b → form_at (b ∷ bs) ≡ sign_at (b ∷ bs)
sign_first b bs h = let x = h.0 in let y = h.1 in let z = h.2 in let w = h.3 in rw (x, y, z, w) refl

sign_found : (sign : Mark) (word rest : List ℕ) → IsSign sign word rest → form_at (word ++ rest) ≡ Some (Sign sign, length word)
sign_found sign [] rest h = absurd h
sign_found sign (b ∷ []) [] h = sign_first b [] (one_other b sign h) ∙ rw h refl
sign_found sign (b ∷ []) (c ∷ rest) h = let one = h.0 in let two = h.1 in let plain = h.2 in sign_first b (c ∷ rest) (one_other b sign one) ∙ rw (plain, two, one) refl
sign_found sign (b ∷ c ∷ []) rest h =
    let plain = fails (begins_comment b c) (sign_of_two b c) sign (comment_no_longer b c) h in
    sign_first b (c ∷ rest) (two_other b c sign h) ∙ rw (plain, h) refl
sign_found sign (b ∷ c ∷ d ∷ bs) rest h = absurd h

form_found : (form : Form) (word rest : List ℕ) → IsToken form word rest → form_at (word ++ rest) ≡ Some (form, length word)
form_found Name [] rest h = absurd h
form_found Name (b ∷ bs) rest h = name_found b bs rest h
form_found Quoted word rest h = quoted_found word rest h
form_found Number word rest h = number_found word rest h
form_found Words word rest h = words_found word rest h
form_found (Sign sign) word rest h = sign_found sign word rest h

pub token_found : (form : Form) (word rest : List ℕ) → IsToken form word rest → IsUtf8 word → token_at (word ++ rest) ≡ Some (form, word)
token_found form word rest h u =
    let taken : take (length word) (word ++ rest) ≡ word = take_at word rest (length word) refl in
    token_at-some (word ++ rest) form (length word) (form_found form word rest h) (subst IsUtf8 (sym taken) u) ∙ ap (λ (w : List ℕ). Some (form, w)) taken
