-- What is found at a place of tokens, and what tests and options give.
use Rattle.std.proofs.Common.{◌≡◌, ℕ, ◌<◌, ◌≤◌, ◌⊎◌, inl, inr, Bool, true, false, ◌&&◌, ◌||◌, if◌then◌else◌, Option, Some, None, List, [], ◌∷◌, length, refl, sym, ◌∙◌, ap, subst, arith}
use Rattle.std.specs.Prelude.{nat_eq, slice_get}
use Rattle.std.specs.Option.{option_map, option_and_then}
use Rattle.std.specs.List.{list_all, list_any}
use Rattle.std.specs.Cmp.Lexicographic.{pointwise, bytes_decides}
use Rattle.std.proofs.lemmas.Option.{slice_get_within, slice_get_past}
use Rattle.dw_lex.specs.Meaning.{folded, decimal_in, decimal_number}
use Rattle.dw_lex.specs.declared.signs.Sign.{Sign as Mark}
use Rattle.dw_lex.specs.declared.signs.Sign.TheVariants as mark
use Rattle.dw_lex.specs.declared.token.Form.{Form}
use Rattle.dw_lex.specs.declared.token.Form.TheVariants as form
use Rattle.dw_lex.specs.declared.token.Token.{Token}
use Rattle.dw_parse_words.specs.Words.{is_sign, is_sign_at, is_name, is_reserved, sign_of, says, says_in, meant, meant_in, meant_at, name_of, word_at, sign_at, name_at}
use Rattle.dw_parse_words.specs.Literals.{within_digits, digits_at, text_in, text_of, text_at}

-- what is found at a place is within the tokens
found_within : {B : Type 0} (f : Token → Option B) (tokens : List Token) (i : ℕ) (b : B) (found : Option Token) → slice_get tokens i ≡ found → option_and_then f found ≡ Some b → i < length tokens
found_within f tokens i b None is e = cc
found_within f tokens i b (Some t) is e = slice_get_within tokens i t is

pub at_within : {B : Type 0} (f : Token → Option B) (tokens : List Token) (i : ℕ) (b : B) → option_and_then f (slice_get tokens i) ≡ Some b → i < length tokens
at_within f tokens i b e = found_within f tokens i b (slice_get tokens i) refl e

sign_found : (p : Option Mark → Bool) (tokens : List Token) (i : ℕ) (found : Option Token) → p None ≡ false → slice_get tokens i ≡ found → p (option_and_then (λ token. sign_of token.form) found) ≡ true → i < length tokens
sign_found p tokens i None lacks is e = cc
sign_found p tokens i (Some t) lacks is e = slice_get_within tokens i t is

pub sign_within : (p : Option Mark → Bool) (tokens : List Token) (i : ℕ) → p None ≡ false → p (sign_at tokens i) ≡ true → i < length tokens
sign_within p tokens i lacks e = sign_found p tokens i (slice_get tokens i) lacks refl e

word_found : (word : List ℕ) (tokens : List Token) (i : ℕ) (found : Option Token) → slice_get tokens i ≡ found → says_in word found ≡ true → i < length tokens
word_found word tokens i None is e = cc
word_found word tokens i (Some t) is e = slice_get_within tokens i t is

pub word_within : (word : List ℕ) (tokens : List Token) (i : ℕ) → word_at word tokens i ≡ true → i < length tokens
word_within word tokens i e = word_found word tokens i (slice_get tokens i) refl e

meant_found : {A : Type 0} (entries : List (List ℕ × A)) (tokens : List Token) (i : ℕ) (a : A) (found : Option Token) → slice_get tokens i ≡ found → meant_in entries found ≡ Some a → i < length tokens
meant_found entries tokens i a None is e = cc
meant_found entries tokens i a (Some t) is e = slice_get_within tokens i t is

pub meant_within : {A : Type 0} (entries : List (List ℕ × A)) (tokens : List Token) (i : ℕ) (a : A) → meant_at entries tokens i ≡ Some a → i < length tokens
meant_within entries tokens i a e = meant_found entries tokens i a (slice_get tokens i) refl e

digits_found : (tokens : List Token) (i : ℕ) (n : ℕ × ℕ) (found : Option Token) → slice_get tokens i ≡ found → within_digits (option_and_then decimal_number found) ≡ Some n → i < length tokens
digits_found tokens i n None is e = cc
digits_found tokens i n (Some t) is e = slice_get_within tokens i t is

pub digits_within : (tokens : List Token) (i : ℕ) (n : ℕ × ℕ) → digits_at tokens i ≡ Some n → i < length tokens
digits_within tokens i n e = digits_found tokens i n (slice_get tokens i) refl e

-- what is found up to a place lies within the tokens
abbrev pub Spans : List Token → ℕ → ℕ → Type 0
Spans tokens i j = (i < j) × (j ≤ length tokens)

-- tests
pub other_test : (t : Bool) → (t ≡ true → ⊥) → t ≡ false
other_test true h = absurd (h refl)
other_test false h = refl

pub and_both : (a b : Bool) → (a && b) ≡ true → (a ≡ true) × (b ≡ true)
and_both true b e = (refl, e)
and_both false b e = cc

pub and_false : (a b : Bool) → b ≡ false → (a && b) ≡ false
and_false true b e = e
and_false false b e = refl

pub or_either : (a b : Bool) → a || b ≡ true → (a ≡ true) ⊎ (b ≡ true)
or_either true b e = inl refl
or_either false b e = inr e

pub or_none : (a b : Bool) → a || b ≡ false → (a ≡ false) × (b ≡ false)
or_none true b e = cc
or_none false b e = (refl, e)

-- a token is one word alone
not_both : (x a b : List ℕ) (n : Bool) → (a ≡ b → ⊥) → (n && pointwise nat_eq x a) ≡ true → (n && pointwise nat_eq x b) ≡ false
not_both x a b n other e =
    other_test (n && pointwise nat_eq x b) (λ f. other (sym ((bytes_decides x a).0 (and_both n (pointwise nat_eq x a) e).1) ∙ (bytes_decides x b).0 (and_both n (pointwise nat_eq x b) f).1))

apart : (a b : List ℕ) → pointwise nat_eq (folded a) (folded b) ≡ false → folded a ≡ folded b → ⊥
apart a b other e = let same = (bytes_decides (folded a) (folded b)).1 e in cc

word_other : (a b : List ℕ) (found : Option Token) → (folded a ≡ folded b → ⊥) → says_in a found ≡ true → says_in b found ≡ false
word_other a b None other e = refl
word_other a b (Some t) other e = not_both (folded t.text) (folded a) (folded b) (is_name t.form) other e

pub one_word : (a b : List ℕ) (tokens : List Token) (i : ℕ) → pointwise nat_eq (folded a) (folded b) ≡ false → word_at a tokens i ≡ true → word_at b tokens i ≡ false
one_word a b tokens i other e = word_other a b (slice_get tokens i) (apart a b other) e

-- where a word stands, and after the last token, is no sign
sign_form : (f : Form) (b : Bool) → (is_name f && b) ≡ true → sign_of f ≡ None
sign_form form.Name b e = refl
sign_form form.Quoted b e = refl
sign_form form.Number b e = refl
sign_form form.Words b e = refl
sign_form (form.Sign s) b e = cc

sign_word : (word : List ℕ) (found : Option Token) → says_in word found ≡ true → option_and_then (λ token. sign_of token.form) found ≡ None
sign_word word None e = refl
sign_word word (Some t) e = sign_form t.form _ e

pub word_no_sign : (p : Option Mark → Bool) (word : List ℕ) (tokens : List Token) (i : ℕ) → word_at word tokens i ≡ true → p None ≡ false → p (sign_at tokens i) ≡ false
word_no_sign p word tokens i e lacks = ap p (sign_word word (slice_get tokens i) e) ∙ lacks

pub past_sign : (p : Option Mark → Bool) (tokens : List Token) (i : ℕ) → i ≡ length tokens → p None ≡ false → p (sign_at tokens i) ≡ false
past_sign p tokens i e lacks =
    let past = slice_get_past tokens i (omega arith) in ap (λ found. p (option_and_then (λ token. sign_of token.form) found)) past ∙ lacks

pub past_word : (word : List ℕ) (tokens : List Token) (i : ℕ) → i ≡ length tokens → word_at word tokens i ≡ false
past_word word tokens i e = ap (says_in word) (slice_get_past tokens i (omega arith))

pub past_meant : {A : Type 0} (entries : List (List ℕ × A)) (tokens : List Token) (i : ℕ) → i ≡ length tokens → meant_at entries tokens i ≡ None
past_meant entries tokens i e = ap (meant_in entries) (slice_get_past tokens i (omega arith))

-- a token that is no name says no word
no_name : {A : Type 0} (entries : List (List ℕ × A)) (t : Token) → is_name t.form ≡ false → meant entries t ≡ None
no_name [] t e = refl
no_name (entry ∷ entries) t e = rw e (no_name entries t e)

sign_not_name : (p : Option Mark → Bool) (f : Form) → p None ≡ false → p (sign_of f) ≡ true → is_name f ≡ false
sign_not_name p form.Name lacks e = cc
sign_not_name p form.Quoted lacks e = refl
sign_not_name p form.Number lacks e = refl
sign_not_name p form.Words lacks e = refl
sign_not_name p (form.Sign s) lacks e = refl

sign_meant : {A : Type 0} (entries : List (List ℕ × A)) (p : Option Mark → Bool) (found : Option Token) → p None ≡ false → p (option_and_then (λ token. sign_of token.form) found) ≡ true → meant_in entries found ≡ None
sign_meant entries p None lacks e = refl
sign_meant entries p (Some t) lacks e = no_name entries t (sign_not_name p t.form lacks e)

-- where a sign stands, no word does
pub sign_no_meant : {A : Type 0} (entries : List (List ℕ × A)) (p : Option Mark → Bool) (tokens : List Token) (i : ℕ) → p None ≡ false → p (sign_at tokens i) ≡ true → meant_at entries tokens i ≡ None
sign_no_meant entries p tokens i lacks e = sign_meant entries p (slice_get tokens i) lacks e

sign_says : (word : List ℕ) (p : Option Mark → Bool) (found : Option Token) → p None ≡ false → p (option_and_then (λ token. sign_of token.form) found) ≡ true → says_in word found ≡ false
sign_says word p None lacks e = refl
sign_says word p (Some t) lacks e = let none = sign_not_name p t.form lacks e in rw none refl

pub sign_no_word : (word : List ℕ) (p : Option Mark → Bool) (tokens : List Token) (i : ℕ) → p None ≡ false → p (sign_at tokens i) ≡ true → word_at word tokens i ≡ false
sign_no_word word p tokens i lacks e = sign_says word p (slice_get tokens i) lacks e

-- a token that says one of several words
meant_says : {A : Type 0} (entries : List (List ℕ × A)) (t : Token) (a : A) → meant entries t ≡ Some a → (word : List ℕ) × (says word t ≡ true)
meant_says [] t a e = cc
meant_says (entry ∷ entries) t a e = on (meant_says entries t a) (says entry.0 t) refl e
  where
    on : (meant entries t ≡ Some a → (word : List ℕ) × (says word t ≡ true)) → (b : Bool) → says entry.0 t ≡ b
        → (if b then Some entry.1 else meant entries t) ≡ Some a → (word : List ℕ) × (says word t ≡ true)
    on again true said e = (entry.0, said)
    on again false said e = again e

meant_sign : {A : Type 0} (entries : List (List ℕ × A)) (found : Option Token) (a : A) → meant_in entries found ≡ Some a → option_and_then (λ token. sign_of token.form) found ≡ None
meant_sign entries None a e = refl
meant_sign entries (Some t) a e = let word = meant_says entries t a e in sign_form t.form _ word.1

pub meant_no_sign : {A : Type 0} (entries : List (List ℕ × A)) (p : Option Mark → Bool) (tokens : List Token) (i : ℕ) (a : A) → meant_at entries tokens i ≡ Some a → p None ≡ false → p (sign_at tokens i) ≡ false
meant_no_sign entries p tokens i a e lacks = ap p (meant_sign entries (slice_get tokens i) a e) ∙ lacks

-- a token that says one of several words says no other
meant_other : {A : Type 0} (entries : List (List ℕ × A)) (word : List ℕ) (t : Token) (a : A) → list_any (λ entry. pointwise nat_eq (folded entry.0) (folded word)) entries ≡ false → meant entries t ≡ Some a → says word t ≡ false
meant_other [] word t a other e = cc
meant_other (entry ∷ entries) word t a other e =
    let parts = or_none (pointwise nat_eq (folded entry.0) (folded word)) (list_any (λ entry. pointwise nat_eq (folded entry.0) (folded word)) entries) other in
    on parts.0 (meant_other entries word t a parts.1) (says entry.0 t) refl e
  where
    on : pointwise nat_eq (folded entry.0) (folded word) ≡ false → (meant entries t ≡ Some a → says word t ≡ false) → (b : Bool) → says entry.0 t ≡ b
        → (if b then Some entry.1 else meant entries t) ≡ Some a → says word t ≡ false
    on first again true said e = not_both (folded t.text) (folded entry.0) (folded word) (is_name t.form) (apart entry.0 word first) said
    on first again false said e = again e

meant_other_in : {A : Type 0} (entries : List (List ℕ × A)) (word : List ℕ) (found : Option Token) (a : A) → list_any (λ entry. pointwise nat_eq (folded entry.0) (folded word)) entries ≡ false → meant_in entries found ≡ Some a → says_in word found ≡ false
meant_other_in entries word None a other e = refl
meant_other_in entries word (Some t) a other e = meant_other entries word t a other e

pub meant_no_word : {A : Type 0} (entries : List (List ℕ × A)) (word : List ℕ) (tokens : List Token) (i : ℕ) (a : A) → list_any (λ entry. pointwise nat_eq (folded entry.0) (folded word)) entries ≡ false → meant_at entries tokens i ≡ Some a → word_at word tokens i ≡ false
meant_no_word entries word tokens i a other e = meant_other_in entries word (slice_get tokens i) a other e

-- a reserved word is no name
reserved_says : (word : List ℕ) (t : Token) → is_reserved (folded word) ≡ true → says word t ≡ true → name_of t ≡ None
reserved_says word t reserved said =
    let both = and_both (is_name t.form) (pointwise nat_eq (folded t.text) (folded word)) said in
    let same : folded t.text ≡ folded word = (bytes_decides (folded t.text) (folded word)).0 both.1 in
    let none : is_reserved (folded t.text) ≡ true = ap is_reserved same ∙ reserved in
    let name = both.0 in
    rw (name, none) refl

named_says : (word name : List ℕ) (found : Option Token) → is_reserved (folded word) ≡ true → option_and_then name_of found ≡ Some name → says_in word found ≡ false
named_says word name None reserved e = refl
named_says word name (Some t) reserved e = other_test (says word t) (λ said. let none = reserved_says word t reserved said in cc)

pub name_no_word : (word : List ℕ) (tokens : List Token) (i : ℕ) (name : List ℕ) → is_reserved (folded word) ≡ true → name_at tokens i ≡ Some name → word_at word tokens i ≡ false
name_no_word word tokens i name reserved e = named_says word name (slice_get tokens i) reserved e

reserved_meant : {A : Type 0} (entries : List (List ℕ × A)) (t : Token) (a : A) → list_all (λ entry. is_reserved (folded entry.0)) entries ≡ true → meant entries t ≡ Some a → name_of t ≡ None
reserved_meant [] t a reserved e = cc
reserved_meant (entry ∷ entries) t a reserved e =
    let parts = and_both (is_reserved (folded entry.0)) (list_all (λ entry. is_reserved (folded entry.0)) entries) reserved in
    on parts.0 (reserved_meant entries t a parts.1) (says entry.0 t) refl e
  where
    on : is_reserved (folded entry.0) ≡ true → (meant entries t ≡ Some a → name_of t ≡ None) → (b : Bool) → says entry.0 t ≡ b
        → (if b then Some entry.1 else meant entries t) ≡ Some a → name_of t ≡ None
    on first again true said e = reserved_says entry.0 t first said
    on first again false said e = again e

reserved_in : {A : Type 0} (entries : List (List ℕ × A)) (found : Option Token) (a : A) → list_all (λ entry. is_reserved (folded entry.0)) entries ≡ true → meant_in entries found ≡ Some a → option_and_then name_of found ≡ None
reserved_in entries None a reserved e = refl
reserved_in entries (Some t) a reserved e = reserved_meant entries t a reserved e

pub meant_no_name : {A : Type 0} (entries : List (List ℕ × A)) (tokens : List Token) (i : ℕ) (a : A) → list_all (λ entry. is_reserved (folded entry.0)) entries ≡ true → meant_at entries tokens i ≡ Some a → name_at tokens i ≡ None
meant_no_name entries tokens i a reserved e = reserved_in entries (slice_get tokens i) a reserved e

-- digits and texts are neither signs nor words, and no token is both
digits_form : (f : Form) (text : List ℕ) (n : ℕ × ℕ) → within_digits (decimal_in f text) ≡ Some n → f ≡ form.Number
digits_form form.Name text n e = cc
digits_form form.Quoted text n e = cc
digits_form form.Number text n e = refl
digits_form form.Words text n e = cc
digits_form (form.Sign s) text n e = cc

text_form : (f : Form) (text said : List ℕ) → text_in f text ≡ Some said → f ≡ form.Words
text_form form.Name text said e = cc
text_form form.Quoted text said e = cc
text_form form.Number text said e = cc
text_form form.Words text said e = refl
text_form (form.Sign s) text said e = cc

digits_no_minus_in : (n : ℕ × ℕ) (found : Option Token) → within_digits (option_and_then decimal_number found) ≡ Some n → is_sign mark.Minus (option_and_then (λ token. sign_of token.form) found) ≡ false
digits_no_minus_in n None e = refl
digits_no_minus_in n (Some t) e = let f = digits_form t.form t.text n e in rw f refl

pub digits_no_minus : (tokens : List Token) (i : ℕ) (n : ℕ × ℕ) → digits_at tokens i ≡ Some n → is_sign_at mark.Minus tokens i ≡ false
digits_no_minus tokens i n e = digits_no_minus_in n (slice_get tokens i) e

text_no_minus_in : (said : List ℕ) (found : Option Token) → option_and_then text_of found ≡ Some said → is_sign mark.Minus (option_and_then (λ token. sign_of token.form) found) ≡ false
text_no_minus_in said None e = refl
text_no_minus_in said (Some t) e = let f = text_form t.form t.text said e in rw f refl

pub text_no_minus : (tokens : List Token) (i : ℕ) (said : List ℕ) → text_at tokens i ≡ Some said → is_sign_at mark.Minus tokens i ≡ false
text_no_minus tokens i said e = text_no_minus_in said (slice_get tokens i) e

digits_no_word_in : {A : Type 0} (entries : List (List ℕ × A)) (n : ℕ × ℕ) (found : Option Token) → within_digits (option_and_then decimal_number found) ≡ Some n → meant_in entries found ≡ None
digits_no_word_in entries n None e = refl
digits_no_word_in entries n (Some t) e = no_name entries t (ap is_name (digits_form t.form t.text n e))

pub digits_no_word : {A : Type 0} (entries : List (List ℕ × A)) (tokens : List Token) (i : ℕ) (n : ℕ × ℕ) → digits_at tokens i ≡ Some n → meant_at entries tokens i ≡ None
digits_no_word entries tokens i n e = digits_no_word_in entries n (slice_get tokens i) e

text_no_word_in : {A : Type 0} (entries : List (List ℕ × A)) (said : List ℕ) (found : Option Token) → option_and_then text_of found ≡ Some said → meant_in entries found ≡ None
text_no_word_in entries said None e = refl
text_no_word_in entries said (Some t) e = no_name entries t (ap is_name (text_form t.form t.text said e))

pub text_no_word : {A : Type 0} (entries : List (List ℕ × A)) (tokens : List Token) (i : ℕ) (said : List ℕ) → text_at tokens i ≡ Some said → meant_at entries tokens i ≡ None
text_no_word entries tokens i said e = text_no_word_in entries said (slice_get tokens i) e

text_no_digits_in : (said : List ℕ) (found : Option Token) → option_and_then text_of found ≡ Some said → within_digits (option_and_then decimal_number found) ≡ None
text_no_digits_in said None e = refl
text_no_digits_in said (Some t) e = let f = text_form t.form t.text said e in ap (λ (g : Form). within_digits (decimal_in g t.text)) f

pub text_no_digits : (tokens : List Token) (i : ℕ) (said : List ℕ) → text_at tokens i ≡ Some said → digits_at tokens i ≡ None
text_no_digits tokens i said e = text_no_digits_in said (slice_get tokens i) e

-- of two signs at a place one isn't there
pub close_comma : (s : Option Mark) → is_sign mark.Close s ≡ true → is_sign mark.Comma s ≡ false
close_comma None e = refl
close_comma (Some mark.Close) e = refl
close_comma (Some mark.Comma) e = sym e
close_comma (Some _) e = refl

pub close_open : (s : Option Mark) → is_sign mark.Close s ≡ true → is_sign mark.Open s ≡ false
close_open None e = refl
close_open (Some mark.Close) e = refl
close_open (Some mark.Open) e = sym e
close_open (Some _) e = refl

pub close_dot : (s : Option Mark) → is_sign mark.Close s ≡ true → is_sign mark.Dot s ≡ false
close_dot None e = refl
close_dot (Some mark.Close) e = refl
close_dot (Some mark.Dot) e = sym e
close_dot (Some _) e = refl

pub comma_open : (s : Option Mark) → is_sign mark.Comma s ≡ true → is_sign mark.Open s ≡ false
comma_open None e = refl
comma_open (Some mark.Comma) e = refl
comma_open (Some mark.Open) e = sym e
comma_open (Some _) e = refl

pub comma_dot : (s : Option Mark) → is_sign mark.Comma s ≡ true → is_sign mark.Dot s ≡ false
comma_dot None e = refl
comma_dot (Some mark.Comma) e = refl
comma_dot (Some mark.Dot) e = sym e
comma_dot (Some _) e = refl

pub open_dot : (s : Option Mark) → is_sign mark.Open s ≡ true → is_sign mark.Dot s ≡ false
open_dot None e = refl
open_dot (Some mark.Open) e = refl
open_dot (Some mark.Dot) e = sym e
open_dot (Some _) e = refl

-- what is found is right: P holds of it
abbrev pub Sound : {B : Type 0} → (B → Type 0) → Option B → Type 0
Sound {B} P o = (r : B) → o ≡ Some r → P r

some_is : {B : Type 0} (b r : B) → Some b ≡ Some r → b ≡ r
some_is b r e = cc

none_isnt : {B : Type 0} (r : B) → None ≡ Some r → ⊥
none_isnt r e = cc

pub sound_some : {B : Type 0} (P : B → Type 0) (b : B) → P b → Sound P (Some b)
sound_some P b h r e = subst P (some_is b r e) h

pub sound_none : {B : Type 0} (P : B → Type 0) → Sound P None
sound_none P r e = absurd (none_isnt r e)

pub sound_if : {B : Type 0} (P : B → Type 0) (b : Bool) (p q : Option B) → (b ≡ true → Sound P p) → (b ≡ false → Sound P q) → Sound P (if b then p else q)
sound_if P true p q then_is else_is = then_is refl
sound_if P false p q then_is else_is = else_is refl

pub sound_when : {B : Type 0} (P : B → Type 0) (b : Bool) (p : Option B) → (b ≡ true → Sound P p) → Sound P (if b then p else None)
sound_when P true p then_is = then_is refl
sound_when P false p then_is = sound_none P

pub sound_bind : {A B : Type 0} (P : B → Type 0) (f : A → Option B) (o : Option A) → ((a : A) → o ≡ Some a → Sound P (f a)) → Sound P (option_and_then f o)
sound_bind P f None h = sound_none P
sound_bind P f (Some a) h = h a refl

pub sound_map : {A B : Type 0} (P : B → Type 0) (f : A → B) (o : Option A) → ((a : A) → o ≡ Some a → P (f a)) → Sound P (option_map f o)
sound_map P f None h = sound_none P
sound_map P f (Some a) h = sound_some P (f a) (h a refl)
