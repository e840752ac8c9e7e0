-- Blanks and comments, as they are spelled and as they are passed over.
use Rattle.std.proofs.Common.{◌≡◌, ℕ, zero, suc, ◌+◌, ◌<◌, Bool, true, false, not, ◌&&◌, ◌||◌, eqb, Option, Some, None, List, [], ◌∷◌, ◌++◌, length, take, drop, refl, sym, ◌∙◌, ap, subst, append_assoc, arith}
use Rattle.std.specs.Char.{is_ascii_digit}
use Rattle.std.specs.Str.{IsUtf8}
use Rattle.std.proofs.lemmas.Bool.{and_parts, eqb-true}
use Rattle.std.proofs.lemmas.Bool.Decides.{nat_tests}
use Rattle.std.proofs.lemmas.Str.{IsUtf8-append, IsUtf8-from_ascii}
use Rattle.std.proofs.lemmas.Str.Ascii.{IsAscii-nil, IsAscii-cons}
use Rattle.std.proofs.lemmas.List.{append-nil, take_at, drop_at, take-append-drop}
use Rattle.dw_lex.specs.Characters.{is_blank, begins_name, quote, double_quote, dash, line_feed, slash, star, begins_comment}
use Rattle.dw_lex.specs.Signs.{sign_of_one, sign_of_two}
use Rattle.dw_lex.specs.Gaps.{line_at, blocks_end, block_long, comment_at, gap_at, EndsBlocks, all_ended, ends, opens, other, EndsLine, IsComment, line, block, IsGap, nothing, blank, comment}
use Rattle.dw_lex.specs.Spelling.{EndsAt, IsQuoted, quoted, IsDigits, IsNumber, whole, decimal, IsWords, text, IsSign, IsToken}
use Rattle.dw_lex.specs.declared.signs.Sign.{Sign as Mark}
use Rattle.dw_lex.specs.declared.token.Form.{Form}
use Rattle.dw_lex.specs.declared.token.Form.TheVariants.{Name, Quoted, Number, Words, Sign}
use Rattle.dw_lex.proofs.ReadLemmas.{prefix_takes, prefix_ends}
use Rattle.dw_lex.proofs.SpellingLemmas.{prefix_len-whole, fails}
use Rattle.dw_lex.proofs.Utf8Lemmas.{IsUtf8-front, IsUtf8-rest}

-- a byte that ends no line
abbrev in_line : ℕ → Bool
in_line b = not (eqb b line_feed)

not-true : (t : Bool) → t ≡ true → not t ≡ false
not-true true h = refl
not-true false h = cc

not-false : (t : Bool) → not t ≡ false → t ≡ true
not-false true h = refl
not-false false h = cc

ends-at : (rest : List ℕ) → EndsLine rest → EndsAt in_line rest
ends-at [] h = tt
ends-at (b ∷ bs) h = not-true (eqb b line_feed) h

ends-line : (rest : List ℕ) → EndsAt in_line rest → EndsLine rest
ends-line [] h = tt
ends-line (b ∷ bs) h = not-false (eqb b line_feed) h

-- spelled comments are passed over
both_fail : (x y : Bool) → x || y ≡ false → (x ≡ false) × (y ≡ false)
both_fail true y h = cc
both_fail false y h = (refl, h)

blocks-passed : (blocks : ℕ) (word rest : List ℕ) (passed : ℕ) → EndsBlocks blocks word → blocks_end blocks (word ++ rest) passed ≡ Some (passed + length word)
blocks-passed blocks word rest passed all_ended = ap Some (omega arith)
blocks-passed blocks word rest passed (ends blocks₂ bytes more) = blocks-passed blocks₂ bytes rest (passed + 2) more ∙ ap Some (omega arith)
blocks-passed blocks word rest passed (opens blocks₂ bytes more) = blocks-passed (suc (suc blocks₂)) bytes rest (passed + 2) more ∙ ap Some (omega arith)
blocks-passed blocks word rest passed (other blocks₂ b c bytes plain more) =
    let fail = both_fail (eqb b star && eqb c slash) (eqb b slash && eqb c star) plain in
    let no_end = fail.0 in
    let no_begin = fail.1 in
    rw (no_end, no_begin) (blocks-passed (suc blocks₂) (c ∷ bytes) rest (passed + 1) more ∙ ap Some (omega arith))

pub blank-passed : (b : ℕ) (rest : List ℕ) → is_blank b ≡ true → gap_at (b ∷ rest) ≡ 1
blank-passed b [] h = rw h refl
blank-passed b (c ∷ bs) h = rw h refl

pub comment-passed : (word rest : List ℕ) → IsComment word rest → gap_at (word ++ rest) ≡ length word
comment-passed word rest (line inside rest₂ one at_end) =
    let long : line_at (inside ++ rest) ≡ length inside = prefix_len-whole in_line inside rest one (ends-at rest at_end) in
    let sum : 2 + length inside ≡ suc (suc (length inside)) = omega arith in
    rw long sum
comment-passed word rest (block inside rest₂ closes) =
    let end = blocks-passed 1 inside rest 2 closes in
    let sum : 2 + length inside ≡ suc (suc (length inside)) = omega arith in
    rw end sum

-- what is passed over is spelled as a blank or a comment
abbrev Front : ℕ → List ℕ → ℕ → ℕ → Type 0
Front blocks bytes passed n = (word : List ℕ) × (rest : List ℕ) × (bytes ≡ word ++ rest) × EndsBlocks blocks word × (n ≡ passed + length word)

front-other : (blocks b c : ℕ) (bs : List ℕ) (passed n : ℕ) → (eqb b star && eqb c slash) || (eqb b slash && eqb c star) ≡ false
    → Front (suc blocks) (c ∷ bs) (passed + 1) n → Front (suc blocks) (b ∷ c ∷ bs) passed n
front-other blocks b c bs passed n plain ([], rest, joined, closes, long) = absurd (never blocks closes)
  where
    never : (k : ℕ) → EndsBlocks (suc k) [] → ⊥
    never k h = elim h [ ]
front-other blocks b c bs passed n plain (w ∷ ws, rest, joined, closes, long) =
    let same : w ≡ c = cc in
    let own : EndsBlocks (suc blocks) (c ∷ ws) = subst (λ (x : ℕ). EndsBlocks (suc blocks) (x ∷ ws)) same closes in
    let whole_text : b ∷ c ∷ bs ≡ (b ∷ c ∷ ws) ++ rest = ap (λ (xs : List ℕ). b ∷ xs) (joined ∙ ap (λ (x : ℕ). x ∷ ws ++ rest) same) in
    (b ∷ c ∷ ws, rest, whole_text, other blocks b c ws plain own, omega (arith, long))

pair-joined : (b c x y : ℕ) (bs word rest : List ℕ) → b ≡ x → c ≡ y → bs ≡ word ++ rest → b ∷ c ∷ bs ≡ (x ∷ y ∷ word) ++ rest
pair-joined b c x y bs word rest first second joined = rw (first, second, joined) refl

front-byte : (blocks b c : ℕ) (bs : List ℕ) (passed n : ℕ) (is_end is_begin : Bool) → eqb b star && eqb c slash ≡ is_end → eqb b slash && eqb c star ≡ is_begin
    → (blocks_end blocks bs (passed + 2) ≡ Some n → Front blocks bs (passed + 2) n)
    → (blocks_end (suc (suc blocks)) bs (passed + 2) ≡ Some n → Front (suc (suc blocks)) bs (passed + 2) n)
    → (blocks_end (suc blocks) (c ∷ bs) (passed + 1) ≡ Some n → Front (suc blocks) (c ∷ bs) (passed + 1) n)
    → blocks_end (suc blocks) (b ∷ c ∷ bs) passed ≡ Some n → Front (suc blocks) (b ∷ c ∷ bs) passed n
front-byte blocks b c bs passed n true is_begin h k closing opening going e =
    let both = and_parts (eqb b star) (eqb c slash) h in
    let first = eqb-true b star both.0 in
    let second = eqb-true c slash both.1 in
    let f = closing (rw h at e) in
    let joined = pair-joined b c star slash bs f.0 f.1 first second f.2 in
    (star ∷ slash ∷ f.0, f.1, joined, ends blocks f.0 f.3, omega (arith, f.4))
front-byte blocks b c bs passed n false true h k closing opening going e =
    let both = and_parts (eqb b slash) (eqb c star) k in
    let first = eqb-true b slash both.0 in
    let second = eqb-true c star both.1 in
    let f = opening (rw (h, k) at e) in
    let joined = pair-joined b c slash star bs f.0 f.1 first second f.2 in
    (slash ∷ star ∷ f.0, f.1, joined, opens blocks f.0 f.3, omega (arith, f.4))
front-byte blocks b c bs passed n false false h k closing opening going e =
    let plain : (eqb b star && eqb c slash) || (eqb b slash && eqb c star) ≡ false = rw (h, k) refl in
    front-other blocks b c bs passed n plain (going (rw (h, k) at e))

blocks-front : (blocks : ℕ) (bytes : List ℕ) (passed n : ℕ) → blocks_end blocks bytes passed ≡ Some n → Front blocks bytes passed n
blocks-front zero bytes passed n e = ([], bytes, refl, all_ended, (let same : passed ≡ n = cc in omega arith))
blocks-front (suc blocks) [] passed n e = cc
blocks-front (suc blocks) (b ∷ []) passed n e = cc
blocks-front (suc blocks) (b ∷ c ∷ bs) passed n e =
    front-byte blocks b c bs passed n (eqb b star && eqb c slash) (eqb b slash && eqb c star) refl refl
    (blocks-front blocks bs (passed + 2) n) (blocks-front (suc (suc blocks)) bs (passed + 2) n) (blocks-front (suc blocks) (c ∷ bs) (passed + 1) n) e

abbrev Passed : List ℕ → Type 0
Passed bytes = (gap : List ℕ) × (rest : List ℕ) × (bytes ≡ gap ++ rest) × (length gap ≡ gap_at bytes) × IsGap gap rest

one-comment : (word rest : List ℕ) → IsComment word rest → IsGap word rest
one-comment word rest is = subst (λ (gap : List ℕ). IsGap gap rest) (append-nil word) (comment word [] rest is (nothing rest))

-- a comment at the front
comment-here : (bytes word rest : List ℕ) → bytes ≡ word ++ rest → IsComment word rest → Passed bytes
comment-here bytes word rest joined is = (word, rest, joined, sym (comment-passed word rest is) ∙ ap gap_at (sym joined), one-comment word rest is)

line-here : (bs : List ℕ) → Passed (dash ∷ dash ∷ bs)
line-here bs =
    let m : ℕ = line_at bs in
    let joined : dash ∷ dash ∷ bs ≡ (dash ∷ dash ∷ take m bs) ++ drop m bs = ap (λ (xs : List ℕ). dash ∷ dash ∷ xs) (sym (take-append-drop m bs)) in
    comment-here (dash ∷ dash ∷ bs) (dash ∷ dash ∷ take m bs) (drop m bs) joined (line (take m bs) (drop m bs) (prefix_takes in_line bs) (ends-line (drop m bs) (prefix_ends in_line bs)))

block-here : (bs : List ℕ) (end : Option ℕ) → blocks_end 1 bs 2 ≡ end → 0 < block_long end → Passed (slash ∷ star ∷ bs)
block-here bs None h some = absurd (omega arith)
block-here bs (Some n) h some =
    let f = blocks-front 1 bs 2 n h in
    comment-here (slash ∷ star ∷ bs) (slash ∷ star ∷ f.0) f.1 (ap (λ (xs : List ℕ). slash ∷ star ∷ xs) f.2) (block f.0 f.1 f.3)

pair-here : (b c : ℕ) (bs : List ℕ) (is_line is_block : Bool) → eqb b dash && eqb c dash ≡ is_line → eqb b slash && eqb c star ≡ is_block → 0 < comment_at b c bs → Passed (b ∷ c ∷ bs)
pair-here b c bs true is_block h k some =
    let both = and_parts (eqb b dash) (eqb c dash) h in
    let first = eqb-true b dash both.0 in
    let second = eqb-true c dash both.1 in
    rw (first, second) (line-here bs)
pair-here b c bs false true h k some =
    let both = and_parts (eqb b slash) (eqb c star) k in
    let first = eqb-true b slash both.0 in
    let second = eqb-true c star both.1 in
    let long : 0 < block_long (blocks_end 1 bs 2) = rw (h, k) at some in
    rw (first, second) (block-here bs (blocks_end 1 bs 2) refl long)
pair-here b c bs false false h k some = let none : 0 < 0 = rw (h, k) at some in absurd (omega arith)

blank-here : (b : ℕ) (bs : List ℕ) → is_blank b ≡ true → Passed (b ∷ bs)
blank-here b bs h = (b ∷ [], bs, refl, sym (blank-passed b bs h), blank b [] bs h (nothing bs))

two-here : (b c : ℕ) (bs : List ℕ) (is : Bool) → is_blank b ≡ is → 0 < gap_at (b ∷ c ∷ bs) → Passed (b ∷ c ∷ bs)
two-here b c bs true h some = blank-here b (c ∷ bs) h
two-here b c bs false h some = pair-here b c bs (eqb b dash && eqb c dash) (eqb b slash && eqb c star) refl refl (rw h at some)

one-here : (b : ℕ) (is : Bool) → is_blank b ≡ is → 0 < gap_at (b ∷ []) → Passed (b ∷ [])
one-here b true h some = blank-here b [] h
one-here b false h some = let none : 0 < 0 = rw h at some in absurd (omega arith)

pub gap_spelled : (bytes : List ℕ) → 0 < gap_at bytes → Passed bytes
gap_spelled [] some = absurd (omega arith)
gap_spelled (b ∷ []) some = one-here b (is_blank b) refl some
gap_spelled (b ∷ c ∷ bs) some = two-here b c bs (is_blank b) refl some

-- the same, cut at its length
pub gap_front : (bytes : List ℕ) → 0 < gap_at bytes → IsGap (take (gap_at bytes) bytes) (drop (gap_at bytes) bytes)
gap_front bytes some =
    let f = gap_spelled bytes some in
    let front : take (gap_at bytes) bytes ≡ f.0 = ap (take (gap_at bytes)) f.2 ∙ take_at f.0 f.1 (gap_at bytes) f.3 in
    let back : drop (gap_at bytes) bytes ≡ f.1 = ap (drop (gap_at bytes)) f.2 ∙ drop_at f.0 f.1 (gap_at bytes) f.3 in
    subst (λ (gap : List ℕ). IsGap gap (drop (gap_at bytes) bytes)) (sym front) (subst (IsGap f.0) (sym back) f.4)

-- no gap begins where a token does
no-gap : (b : ℕ) (bs : List ℕ) → is_blank b ≡ false → eqb b dash ≡ false → eqb b slash ≡ false → gap_at (b ∷ bs) ≡ 0
no-gap b [] h k l = rw h refl
no-gap b (c ∷ bs) h k l = rw (h, k, l) refl

name_plain : (b : ℕ) → begins_name b ≡ true → (is_blank b ≡ false) × (eqb b dash ≡ false) × (eqb b slash ≡ false)
name_plain b h = (grind (arith, nat_tests), grind (arith, nat_tests), grind (arith, nat_tests))

digit_plain : (b : ℕ) → is_ascii_digit b ≡ true → (is_blank b ≡ false) × (eqb b dash ≡ false) × (eqb b slash ≡ false)
digit_plain b h = (grind (arith, nat_tests), grind (arith, nat_tests), grind (arith, nat_tests))

digits_no_gap : (digits rest : List ℕ) → IsDigits digits → gap_at (digits ++ rest) ≡ 0
digits_no_gap [] rest h = absurd h
digits_no_gap (b ∷ bs) rest h = let plain = digit_plain b h.0 in no-gap b (bs ++ rest) plain.0 plain.1 plain.2

number_no_gap : (word rest : List ℕ) → IsNumber word rest → gap_at (word ++ rest) ≡ 0
number_no_gap word rest (whole digits rest₂ h long e none) = digits_no_gap digits rest h
number_no_gap word rest (decimal digits fraction rest₂ h f long e) = ap gap_at (append_assoc digits (46 ∷ fraction) rest) ∙ digits_no_gap digits (46 ∷ fraction ++ rest) h

words_no_gap : (word rest : List ℕ) → IsWords word rest → gap_at (word ++ rest) ≡ 0
words_no_gap word rest (text inside rest₂ i e) = no-gap quote ((inside ++ quote ∷ []) ++ rest) refl refl refl

quoted_no_gap : (word rest : List ℕ) → IsQuoted word → gap_at (word ++ rest) ≡ 0
quoted_no_gap word rest (quoted name h) = no-gap double_quote ((name ++ double_quote ∷ []) ++ rest) refl refl refl

blank_no_sign : (b : ℕ) → is_blank b ≡ true → sign_of_one b ≡ None
blank_no_sign b h = grind (arith, nat_tests)

blank_no_longer : (b c : ℕ) → is_blank b ≡ true → sign_of_two b c ≡ None
blank_no_longer b c h = grind (arith, nat_tests)

dash_no_longer : (b c : ℕ) → eqb b dash ≡ true → sign_of_two b c ≡ None
dash_no_longer b c h = let e = eqb-true b dash h in rw e refl

slash_no_longer : (b c : ℕ) → eqb b slash ≡ true → sign_of_two b c ≡ None
slash_no_longer b c h = let e = eqb-true b slash h in rw e refl

pair_no_gap : (b c : ℕ) (bs : List ℕ) → is_blank b ≡ false → begins_comment b c ≡ false → gap_at (b ∷ c ∷ bs) ≡ 0
pair_no_gap b c bs h plain =
    let fail = both_fail (eqb b dash && eqb c dash) (eqb b slash && eqb c star) plain in
    let no_line = fail.0 in
    let no_block = fail.1 in
    rw (h, no_line, no_block) refl

sign_no_gap : (sign : Mark) (word rest : List ℕ) → IsSign sign word rest → gap_at (word ++ rest) ≡ 0
sign_no_gap sign [] rest h = absurd h
sign_no_gap sign (b ∷ []) [] h = let plain = fails (is_blank b) (sign_of_one b) sign (blank_no_sign b) h in rw plain refl
sign_no_gap sign (b ∷ []) (c ∷ rest) h = pair_no_gap b c rest (fails (is_blank b) (sign_of_one b) sign (blank_no_sign b) h.0) h.2
sign_no_gap sign (b ∷ c ∷ []) rest h =
    no-gap b (c ∷ rest) (fails (is_blank b) (sign_of_two b c) sign (blank_no_longer b c) h) (fails (eqb b dash) (sign_of_two b c) sign (dash_no_longer b c) h)
    (fails (eqb b slash) (sign_of_two b c) sign (slash_no_longer b c) h)
sign_no_gap sign (b ∷ c ∷ d ∷ bs) rest h = absurd h

pub token_no_gap : (form : Form) (word rest : List ℕ) → IsToken form word rest → gap_at (word ++ rest) ≡ 0
token_no_gap Name [] rest h = absurd h
token_no_gap Name (b ∷ bs) rest h = let plain = name_plain b h.0 in no-gap b (bs ++ rest) plain.0 plain.1 plain.2
token_no_gap Quoted word rest h = quoted_no_gap word rest h
token_no_gap Number word rest h = number_no_gap word rest h
token_no_gap Words word rest h = words_no_gap word rest h
token_no_gap (Sign sign) word rest h = sign_no_gap sign word rest h

-- a comment in UTF-8 has UTF-8 after it
nothing_utf8 : IsUtf8 []
nothing_utf8 = IsUtf8-from_ascii [] IsAscii-nil

line_utf8 : (word rest : List ℕ) → EndsLine rest → IsUtf8 (word ++ rest) → IsUtf8 rest
line_utf8 word [] at_end u = nothing_utf8
line_utf8 word (b ∷ bs) at_end u =
    let feed = eqb-true b line_feed at_end in
    let small : b < 128 = omega arith in
    let front = IsUtf8-front word bs b small u in
    let joined : (word ++ b ∷ []) ++ bs ≡ word ++ b ∷ bs = append_assoc word (b ∷ []) bs in
    let tail = IsUtf8-rest (word ++ b ∷ []) bs front (subst IsUtf8 (sym joined) u) in
    IsUtf8-append (b ∷ []) bs (IsUtf8-from_ascii (b ∷ []) (IsAscii-cons b [] small IsAscii-nil)) tail

abbrev EndsInSlash : List ℕ → Type 0
EndsInSlash bytes = (front : List ℕ) × (bytes ≡ front ++ slash ∷ [])

after_byte : (b : ℕ) (bytes : List ℕ) → EndsInSlash bytes → EndsInSlash (b ∷ bytes)
after_byte b bytes h = (b ∷ h.0, ap (λ (xs : List ℕ). b ∷ xs) h.1)

last_end : (bytes : List ℕ) → EndsBlocks 0 bytes → EndsInSlash (star ∷ slash ∷ bytes)
last_end bytes all_ended = (star ∷ [], refl)

block_last : (blocks : ℕ) (bytes : List ℕ) → EndsBlocks (suc blocks) bytes → EndsInSlash bytes
block_last zero bytes (ends blocks₂ rest more) = last_end rest more
block_last (suc blocks) bytes (ends blocks₂ rest more) = after_byte star (slash ∷ rest) (after_byte slash rest (block_last blocks rest more))
block_last blocks bytes (opens blocks₂ rest more) = after_byte slash (star ∷ rest) (after_byte star rest (block_last (suc blocks) rest more))
block_last blocks bytes (other blocks₂ b c rest plain more) = after_byte b (c ∷ rest) (block_last blocks (c ∷ rest) more)

block_utf8 : (word rest : List ℕ) → EndsInSlash word → IsUtf8 (word ++ rest) → IsUtf8 rest
block_utf8 word rest last u =
    let joined : word ++ rest ≡ last.0 ++ slash ∷ rest = ap (λ (w : List ℕ). w ++ rest) last.1 ∙ append_assoc last.0 (slash ∷ []) rest in
    let front : IsUtf8 (last.0 ++ slash ∷ []) = IsUtf8-front last.0 rest slash (omega arith) (subst IsUtf8 joined u) in
    IsUtf8-rest word rest (subst IsUtf8 (sym last.1) front) u

pub comment_utf8 : (word rest : List ℕ) → IsComment word rest → IsUtf8 (word ++ rest) → IsUtf8 rest
comment_utf8 word rest (line inside rest₂ one at_end) u = line_utf8 (dash ∷ dash ∷ inside) rest at_end u
comment_utf8 word rest (block inside rest₂ closes) u = block_utf8 (slash ∷ star ∷ inside) rest (after_byte slash (star ∷ inside) (after_byte star inside (block_last 0 inside closes))) u
