-- What is read as a token is spelled as it.
use Rattle.std.proofs.Common.{◌≡◌, ℕ, zero, suc, ◌+◌, ◌<◌, ◌≤◌, Bool, true, false, cond, ◌&&◌, eqb, leb, Option, Some, None, List, [], ◌∷◌, ◌++◌, length, take, drop, take-add, ◌⊎◌, inl, inr, refl, sym, ◌∙◌, ap, subst, append_assoc, arith}
use Rattle.std.specs.Option.{option_map}
use Rattle.std.specs.List.{list_all, prefix_len}
use Rattle.std.specs.Char.{is_ascii_digit}
use Rattle.std.specs.Str.{IsUtf8, is_utf8}
use Rattle.std.proofs.lemmas.Bool.{and_parts, leb-true, eqb-true, eqb-false}
use Rattle.std.proofs.lemmas.Str.{IsUtf8-from_is_utf8}
use Rattle.std.proofs.lemmas.List.{length-take, length-append, drop-drop, take-append-drop, take_at, drop_at}
use Rattle.std.proofs.lemmas.List.Sums.{prefix_len-le-length}
use Rattle.dw_lex.specs.Characters.{begins_name, is_in_name, quote, double_quote, is_double_quote, point, begins_comment}
use Rattle.dw_lex.specs.Signs.{sign_of_one, sign_of_two}
use Rattle.dw_lex.specs.Forms.{SizedForm, name_at, begins_with, quoted_at, digits_at, fraction_at, number_at, text_end, words_at, longer_sign, sign_at, form_at, in_utf8, token_at}
use Rattle.dw_lex.specs.Spelling.{EndsAt, IsName, quoted, IsDigits, IsNumber, whole, decimal, IsInside, nothing, other, quotes, text, IsToken}
use Rattle.dw_lex.specs.declared.signs.Sign.{Sign as Mark}
use Rattle.dw_lex.specs.declared.token.Form.{Form}
use Rattle.dw_lex.specs.declared.token.Form.TheVariants.{Name, Quoted, Number, Words, Sign}

chosen : {A : Type 0} (t : Bool) (x y z : A) → cond t x y ≡ z → ((t ≡ true) × (x ≡ z)) ⊎ ((t ≡ false) × (y ≡ z))
chosen true x y z e = inl (refl, e)
chosen false x y z e = inr (refl, e)

guarded : {A : Type 0} (t : Bool) (x y : A) → cond t (Some x) None ≡ Some y → (t ≡ true) × (x ≡ y)
guarded true x y e = (refl, cc)
guarded false x y e = cc

takes-first : (test : ℕ → Bool) (x : ℕ) (xs : List ℕ) (t : Bool) → test x ≡ t → list_all test (take (prefix_len test xs) xs) ≡ true → list_all test (take (prefix_len test (x ∷ xs)) (x ∷ xs)) ≡ true
takes-first test x xs true e rest = let s : 1 + prefix_len test xs ≡ suc (prefix_len test xs) = omega arith in rw (e, s) (rw e rest)
takes-first test x xs false e rest = rw e refl

pub prefix_takes : (test : ℕ → Bool) (xs : List ℕ) → list_all test (take (prefix_len test xs) xs) ≡ true
prefix_takes test [] = refl
prefix_takes test (x ∷ xs) = takes-first test x xs (test x) refl (prefix_takes test xs)

ends-first : (test : ℕ → Bool) (x : ℕ) (xs : List ℕ) (t : Bool) → test x ≡ t → EndsAt test (drop (prefix_len test xs) xs) → EndsAt test (drop (prefix_len test (x ∷ xs)) (x ∷ xs))
ends-first test x xs true e rest = let s : 1 + prefix_len test xs ≡ suc (prefix_len test xs) = omega arith in rw (e, s) rest
ends-first test x xs false e rest = rw e e

pub prefix_ends : (test : ℕ → Bool) (xs : List ℕ) → EndsAt test (drop (prefix_len test xs) xs)
prefix_ends test [] = tt
prefix_ends test (x ∷ xs) = ends-first test x xs (test x) refl (prefix_ends test xs)

-- the front of so many bytes is a token of the form
abbrev Spelled : List ℕ → SizedForm → Type 0
Spelled bytes found = IsToken found.0 (take found.1 bytes) (drop found.1 bytes)

name_spelled : (b : ℕ) (bs : List ℕ) (found : SizedForm) → begins_name b ≡ true → name_at (b ∷ bs) ≡ Some found → Spelled (b ∷ bs) found
name_spelled b bs found begins e =
    let m : ℕ = prefix_len is_in_name bs in
    let long : prefix_len is_in_name (b ∷ bs) ≡ suc m = rw begins (omega arith) in
    let g = guarded (leb (prefix_len is_in_name (b ∷ bs)) 127) (Name, prefix_len is_in_name (b ∷ bs)) found e in
    let small = leb-true (prefix_len is_in_name (b ∷ bs)) 127 g.0 in
    let cut : length (take m bs) < 127 = omega (arith, length-take m bs) in
    let own : Spelled (b ∷ bs) (Name, suc m) = (begins, prefix_takes is_in_name bs, cut, prefix_ends is_in_name bs) in
    subst (Spelled (b ∷ bs)) (ap (λ (n : ℕ). (Name, n)) (sym long) ∙ g.1) own

name_alone : (word rest : List ℕ) → IsName word rest → IsName word []
name_alone [] rest h = absurd h
name_alone (b ∷ bs) rest h = (h.0, h.1, h.2, tt)

quote_first : (tail : List ℕ) → begins_with is_double_quote tail ≡ true → (more : List ℕ) × (tail ≡ double_quote ∷ more)
quote_first [] e = cc
quote_first (b ∷ bs) e = (bs, ap (λ (x : ℕ). x ∷ bs) (eqb-true b double_quote e))

begins_first : (bs : List ℕ) → begins_with begins_name bs ≡ true → (b : ℕ) × (more : List ℕ) × (bs ≡ b ∷ more) × (begins_name b ≡ true)
begins_first [] e = cc
begins_first (b ∷ bs) e = (b, bs, refl, e)

-- the name between the quotes
inside_spelled : (bs : List ℕ) (m : ℕ) → prefix_len is_in_name bs ≡ m → begins_with begins_name bs ≡ true → leb m 127 ≡ true → IsName (take m bs) []
inside_spelled bs m long begins small =
    let f = begins_first bs begins in
    let first : List ℕ = f.0 ∷ f.1 in
    let own : prefix_len is_in_name first ≡ m = ap (prefix_len is_in_name) (sym f.2) ∙ long in
    let found : name_at first ≡ Some (Name, m) = rw (own, small) refl in
    let there = name_spelled f.0 f.1 (Name, m) f.3 found in
    subst (λ (xs : List ℕ). IsName (take m xs) []) (sym f.2) (name_alone (take m first) (drop m first) there)

quoted_long : (bs : List ℕ) (m : ℕ) → IsName (take m bs) [] → begins_with is_double_quote (drop m bs) ≡ true → Spelled (double_quote ∷ bs) (Quoted, m + 2)
quoted_long bs m name closed =
    let q = quote_first (drop m bs) closed in
    let split : m + 2 ≡ suc (m + 1) = omega arith in
    let last : take 1 (drop m bs) ≡ double_quote ∷ [] = ap (take 1) q.1 in
    let front : take (m + 1) bs ≡ take m bs ++ double_quote ∷ [] = take-add m 1 bs ∙ ap (λ (tail : List ℕ). take m bs ++ tail) last in
    rw (split, front) (quoted (take m bs) name)

quoted_spelled : (bs : List ℕ) (found : SizedForm) → quoted_at bs ≡ Some found → Spelled (double_quote ∷ bs) found
quoted_spelled bs found e =
    let m : ℕ = prefix_len is_in_name bs in
    let g = guarded (begins_with begins_name bs && leb m 127 && begins_with is_double_quote (drop m bs)) (Quoted, m + 2) found e in
    let both = and_parts (begins_with begins_name bs && leb m 127) (begins_with is_double_quote (drop m bs)) g.0 in
    let first = and_parts (begins_with begins_name bs) (leb m 127) both.0 in
    subst (Spelled (double_quote ∷ bs)) g.1 (quoted_long bs m (inside_spelled bs m refl first.0 first.1) both.1)

IsDigits-from : (digits : List ℕ) → 0 < length digits → list_all is_ascii_digit digits ≡ true → IsDigits digits
IsDigits-from [] some all = absurd (omega arith)
IsDigits-from (b ∷ bs) some all = and_parts (is_ascii_digit b) (list_all is_ascii_digit bs) all

IsDigits-front : (bytes : List ℕ) → 0 < digits_at bytes → IsDigits (take (digits_at bytes) bytes)
IsDigits-front bytes some =
    IsDigits-from (take (digits_at bytes) bytes) (omega (arith, length-take (digits_at bytes) bytes, prefix_len-le-length is_ascii_digit bytes)) (prefix_takes is_ascii_digit bytes)

-- a fraction stands after a point
after_point : (b : ℕ) (bs : List ℕ) (t : Bool) → eqb b point ≡ t → 0 < cond t (digits_at bs) 0 → (more : List ℕ) × (b ∷ bs ≡ point ∷ more) × (fraction_at (b ∷ bs) ≡ digits_at more)
after_point b bs true e some = (bs, ap (λ (x : ℕ). x ∷ bs) (eqb-true b point e), rw e refl)
after_point b bs false e some = absurd (omega arith)

fraction_after : (tail : List ℕ) → 0 < fraction_at tail → (more : List ℕ) × (tail ≡ point ∷ more) × (fraction_at tail ≡ digits_at more)
fraction_after [] some = absurd (omega arith)
fraction_after (b ∷ bs) some = after_point b bs (eqb b point) refl some

-- the bytes before the point and after it, where the number has both
decimal_spelled : (bytes more : List ℕ) → 0 < digits_at bytes → 0 < digits_at more → digits_at bytes + digits_at more ≤ 38 → drop (digits_at bytes) bytes ≡ point ∷ more
    → Spelled bytes (Number, digits_at bytes + 1 + digits_at more)
decimal_spelled bytes more some fraction small e =
    let w : ℕ = digits_at bytes in
    let k : ℕ = digits_at more in
    let split : w + 1 + k ≡ w + suc k = omega arith in
    let front : take (w + suc k) bytes ≡ take w bytes ++ point ∷ take k more = take-add w (suc k) bytes ∙ ap (λ (tail : List ℕ). take w bytes ++ take (suc k) tail) e in
    let back : drop (w + suc k) bytes ≡ drop k more = sym (drop-drop (suc k) w bytes) ∙ ap (drop (suc k)) e in
    let cut : length (take w bytes) + length (take k more) ≤ 38 = omega (arith, length-take w bytes, length-take k more) in
    let own : IsNumber (take w bytes ++ point ∷ take k more) (drop k more) =
    decimal (take w bytes) (take k more) (drop k more) (IsDigits-front bytes some) (IsDigits-front more fraction) cut (prefix_ends is_ascii_digit more) in
    rw (split, front, back) own

whole_spelled : (bytes : List ℕ) → 0 < digits_at bytes → digits_at bytes ≤ 38 → fraction_at (drop (digits_at bytes) bytes) ≡ 0 → Spelled bytes (Number, digits_at bytes)
whole_spelled bytes some small none =
    let cut : length (take (digits_at bytes) bytes) ≤ 38 = omega (arith, length-take (digits_at bytes) bytes) in
    whole (take (digits_at bytes) bytes) (drop (digits_at bytes) bytes) (IsDigits-front bytes some) cut (prefix_ends is_ascii_digit bytes) none

number_long : (bytes : List ℕ) (t : Bool) → eqb (fraction_at (drop (digits_at bytes) bytes)) 0 ≡ t → 0 < digits_at bytes
    → digits_at bytes + fraction_at (drop (digits_at bytes) bytes) ≤ 38
    → Spelled bytes (Number, cond t (digits_at bytes) (digits_at bytes + 1 + fraction_at (drop (digits_at bytes) bytes)))
number_long bytes true e some small =
    let none = eqb-true (fraction_at (drop (digits_at bytes) bytes)) 0 e in
    whole_spelled bytes some (omega arith) none
number_long bytes false e some small =
    let there : 0 < fraction_at (drop (digits_at bytes) bytes) = some_from (fraction_at (drop (digits_at bytes) bytes)) (eqb-false (fraction_at (drop (digits_at bytes) bytes)) 0 e) in
    let f = fraction_after (drop (digits_at bytes) bytes) there in
    rw f.2 (decimal_spelled bytes f.0 some (omega (arith, f.2)) (omega (arith, f.2)) f.1)
  where
    some_from : (n : ℕ) → (n ≡ 0 → ⊥) → 0 < n
    some_from zero none = absurd (none refl)
    some_from (suc n) none = omega arith

number_spelled : (b : ℕ) (bs : List ℕ) (found : SizedForm) → is_ascii_digit b ≡ true → number_at (b ∷ bs) ≡ Some found → Spelled (b ∷ bs) found
number_spelled b bs found first e =
    let bytes : List ℕ = b ∷ bs in
    let w : ℕ = digits_at bytes in
    let f : ℕ = fraction_at (drop w bytes) in
    let some : 0 < digits_at bytes = rw first (omega arith) in
    let g = guarded (leb (w + f) 38) (Number, cond (eqb f 0) w (w + 1 + f)) found e in
    subst (Spelled bytes) g.1 (number_long bytes (eqb f 0) refl some (leb-true (w + f) 38 g.0))

-- how a text goes on: where the byte before is a quote that ends it unless another follows, and else
abbrev GoesOn : List ℕ → ℕ → ℕ → Type 0
GoesOn bs passed n = (inside : List ℕ) × (rest : List ℕ) × (bs ≡ inside ++ quote ∷ rest) × IsInside inside × EndsAt (λ b. eqb b quote) rest × (n ≡ passed + length inside + 1)

abbrev Pending : Bool → List ℕ → ℕ → ℕ → Type 0
Pending false bs passed n = GoesOn bs passed n
Pending true bs passed n = ((n ≡ passed) × EndsAt (λ b. eqb b quote) bs) ⊎ ((more : List ℕ) × (bs ≡ quote ∷ more) × GoesOn more (passed + 1) n)

after_quote : (bs : List ℕ) (passed n : ℕ) → Pending true bs (passed + 1) n → GoesOn (quote ∷ bs) passed n
after_quote bs passed n (inl h) = ([], bs, refl, nothing, h.1, omega arith)
after_quote bs passed n (inr h) =
    let g = h.2 in
    let joined : quote ∷ bs ≡ (quote ∷ quote ∷ g.0) ++ quote ∷ g.1 = ap (λ (xs : List ℕ). quote ∷ xs) (h.1 ∙ ap (λ (xs : List ℕ). quote ∷ xs) g.2) in
    (quote ∷ quote ∷ g.0, g.1, joined, quotes g.0 g.3, g.4, omega (arith, g.5))

after_other : (b : ℕ) (bs : List ℕ) (passed n : ℕ) → eqb b quote ≡ false → GoesOn bs (passed + 1) n → GoesOn (b ∷ bs) passed n
after_other b bs passed n e g =
    (b ∷ g.0, g.1, ap (λ (xs : List ℕ). b ∷ xs) g.2, other b g.0 e g.3, g.4, omega (arith, g.5))

text_byte : (b : ℕ) (bs : List ℕ) (pending : Bool) (passed n : ℕ) (t : Bool) → eqb b quote ≡ t → text_end (b ∷ bs) pending passed ≡ Some n
    → ((next : Bool) → text_end bs next (passed + 1) ≡ Some n → Pending next bs (passed + 1) n) → Pending pending (b ∷ bs) passed n
text_byte b bs true passed n true e h more =
    let same = eqb-true b quote e in
    inr (bs, ap (λ (x : ℕ). x ∷ bs) same, more false (rw e at h))
text_byte b bs false passed n true e h more =
    let same = eqb-true b quote e in
    rw same (after_quote bs passed n (more true (rw e at h)))
text_byte b bs true passed n false e h more = let k = rw e at h in inl (cc, e)
text_byte b bs false passed n false e h more = after_other b bs passed n e (more false (rw e at h))

text_spelled : (bs : List ℕ) (pending : Bool) (passed n : ℕ) → text_end bs pending passed ≡ Some n → Pending pending bs passed n
text_spelled [] true passed n h = inl (cc, tt)
text_spelled [] false passed n h = cc
text_spelled (b ∷ bs) pending passed n h = text_byte b bs pending passed n (eqb b quote) refl h (λ next k. text_spelled bs next (passed + 1) n k)

words_long : (bs : List ℕ) (found : SizedForm) (end : Option ℕ) → text_end bs false 1 ≡ end → option_map (λ long. (Words, long)) end ≡ Some found → Spelled (quote ∷ bs) found
words_long bs found None h e = cc
words_long bs found (Some n) h e =
    let g = text_spelled bs false 1 n h in
    let inside : List ℕ = g.0 in
    let rest : List ℕ = g.1 in
    let word : List ℕ = quote ∷ inside ++ quote ∷ [] in
    let joined : quote ∷ bs ≡ word ++ rest = ap (λ (xs : List ℕ). quote ∷ xs) (g.2 ∙ sym (append_assoc inside (quote ∷ []) rest)) in
    let long : length word ≡ n = omega (arith, length-append inside (quote ∷ []), g.5) in
    let front : take n (word ++ rest) ≡ word = take_at word rest n long in
    let back : drop n (word ++ rest) ≡ rest = drop_at word rest n long in
    let own : Spelled (word ++ rest) (Words, n) = rw (front, back) (text inside rest g.3 g.4) in
    let there : Spelled (quote ∷ bs) (Words, n) = rw joined own in
    let same : ◌≡◌ {A = SizedForm} (Words, n) found = cc in
    subst (Spelled (quote ∷ bs)) same there

one_spelled : (bytes : List ℕ) (found : SizedForm) (one : Option Mark) → ((sign : Mark) → one ≡ Some sign → Spelled bytes (Sign sign, 1)) → option_map (λ sign. (Sign sign, 1)) one ≡ Some found → Spelled bytes found
one_spelled bytes found None own e = cc
one_spelled bytes found (Some sign) own e =
    let there = own sign refl in
    let same : ◌≡◌ {A = SizedForm} (Sign sign, 1) found = cc in
    subst (Spelled bytes) same there

two_spelled : (b c : ℕ) (bs : List ℕ) (found : SizedForm) (two : Option Mark) → sign_of_two b c ≡ two → begins_comment b c ≡ false → longer_sign two (sign_of_one b) ≡ Some found → Spelled (b ∷ c ∷ bs) found
two_spelled b c bs found (Some sign) h plain e =
    let there : Spelled (b ∷ c ∷ bs) (Sign sign, 2) = h in
    let same : ◌≡◌ {A = SizedForm} (Sign sign, 2) found = cc in
    subst (Spelled (b ∷ c ∷ bs)) same there
two_spelled b c bs found None h plain e = one_spelled (b ∷ c ∷ bs) found (sign_of_one b) (λ sign k. (k, h, plain)) e

unless : {A : Type 0} (t : Bool) (x : Option A) (y : A) → cond t None x ≡ Some y → (t ≡ false) × (x ≡ Some y)
unless true x y e = cc
unless false x y e = (refl, e)

sign_spelled : (b : ℕ) (bs : List ℕ) (found : SizedForm) → sign_at (b ∷ bs) ≡ Some found → Spelled (b ∷ bs) found
sign_spelled b [] found e = one_spelled (b ∷ []) found (sign_of_one b) (λ sign k. k) e
sign_spelled b (c ∷ bs) found e =
    let plain = unless (begins_comment b c) (longer_sign (sign_of_two b c) (sign_of_one b)) found e in
    two_spelled b c bs found (sign_of_two b c) refl plain.0 plain.1

-- the token where neither a name nor a number nor a text begins
abbrev quoted_or_sign : ℕ → List ℕ → Option SizedForm
quoted_or_sign b bs = cond (eqb b double_quote) (quoted_at bs) (sign_at (b ∷ bs))

form_spelled : (bytes : List ℕ) (found : SizedForm) → form_at bytes ≡ Some found → Spelled bytes found
form_spelled [] found e = cc
form_spelled (b ∷ bs) found e = by_first (chosen (begins_name b) (name_at (b ∷ bs)) _ (Some found) e)
  where
    by_double : ((eqb b double_quote ≡ true) × (quoted_at bs ≡ Some found)) ⊎ ((eqb b double_quote ≡ false) × (sign_at (b ∷ bs) ≡ Some found)) → Spelled (b ∷ bs) found
    by_double (inl h) = let same = eqb-true b double_quote h.0 in rw same (quoted_spelled bs found h.1)
    by_double (inr h) = sign_spelled b bs found h.1

    by_quote : ((eqb b quote ≡ true) × (words_at bs ≡ Some found)) ⊎ ((eqb b quote ≡ false) × (quoted_or_sign b bs ≡ Some found)) → Spelled (b ∷ bs) found
    by_quote (inl h) = let same = eqb-true b quote h.0 in rw same (words_long bs found (text_end bs false 1) refl h.1)
    by_quote (inr h) = by_double (chosen (eqb b double_quote) (quoted_at bs) (sign_at (b ∷ bs)) (Some found) h.1)

    by_digit : ((is_ascii_digit b ≡ true) × (number_at (b ∷ bs) ≡ Some found)) ⊎ ((is_ascii_digit b ≡ false) × (cond (eqb b quote) (words_at bs) (quoted_or_sign b bs) ≡ Some found)) → Spelled (b ∷ bs) found
    by_digit (inl h) = number_spelled b bs found h.0 h.1
    by_digit (inr h) = by_quote (chosen (eqb b quote) (words_at bs) (quoted_or_sign b bs) (Some found) h.1)

    by_first : ((begins_name b ≡ true) × (name_at (b ∷ bs) ≡ Some found)) ⊎ ((begins_name b ≡ false) × (cond (is_ascii_digit b) (number_at (b ∷ bs)) (cond (eqb b quote) (words_at bs) (quoted_or_sign b bs)) ≡ Some found)) → Spelled (b ∷ bs) found
    by_first (inl h) = name_spelled b bs found h.0 h.1
    by_first (inr h) = by_digit (chosen (is_ascii_digit b) (number_at (b ∷ bs)) (cond (eqb b quote) (words_at bs) (quoted_or_sign b bs)) (Some found) h.1)

abbrev IsFront : List ℕ → Form × List ℕ → Type 0
IsFront bytes token = (rest : List ℕ) × (bytes ≡ token.1 ++ rest) × IsToken token.0 token.1 rest × IsUtf8 token.1

found_spelled : (bytes : List ℕ) (token : Form × List ℕ) (found : Option SizedForm) → form_at bytes ≡ found → in_utf8 bytes found ≡ Some token → IsFront bytes token
found_spelled bytes token None h e = cc
found_spelled bytes token (Some found) h e =
    let g = guarded (is_utf8 (take found.1 bytes)) (found.0, take found.1 bytes) token e in
    let own : IsFront bytes (found.0, take found.1 bytes) =
    (drop found.1 bytes, sym (take-append-drop found.1 bytes), form_spelled bytes found h, IsUtf8-from_is_utf8 (take found.1 bytes) g.0) in
    subst (IsFront bytes) g.1 own

pub token_spelled : (bytes : List ℕ) (form : Form) (word : List ℕ) → token_at bytes ≡ Some (form, word) → (rest : List ℕ) × (bytes ≡ word ++ rest) × IsToken form word rest × IsUtf8 word
unfolding token_at
token_spelled bytes form word e = found_spelled bytes (form, word) (form_at bytes) refl e
