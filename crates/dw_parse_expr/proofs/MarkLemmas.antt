-- What the tests on tokens tell.
use Rattle.std.proofs.Common.{◌≡◌, ℕ, ◌+◌, ◌<◌, ◌≤◌, Bool, true, false, Option, Some, None, List, [], ◌∷◌, length, refl, sym, ◌∙◌, ap, arith, ◌⊎◌, inl, inr}
use Rattle.std.specs.Prelude.{slice_get, codes, ◌==◌, nat_eq, if◌then◌else◌}
use Rattle.std.specs.Option.{option_and_then}
use Rattle.std.specs.List.{list_all}
use Rattle.std.specs.Cmp.Lexicographic.{pointwise, bytes_decides}
use Rattle.std.proofs.lemmas.Bool.{eqb-true, eq-eqb}
use Rattle.dw_lex.specs.Meaning.{folded, name_in, decimal_number}
use Rattle.dw_lex.specs.declared.signs.Sign.TheVariants as sign
use Rattle.dw_lex.specs.declared.token.Form.{Form}
use Rattle.dw_lex.specs.declared.token.Form.TheVariants as form
use Rattle.dw_lex.specs.declared.token.Token.{Token}
use Rattle.dw_value.specs.declared.kinds.Comparison.TheVariants as comparison
use Rattle.dw_expr.specs.declared.trees.Aggregate.{Aggregate}
use Rattle.dw_expr.specs.declared.trees.Aggregate.TheVariants as function
use Rattle.dw_parse_words.specs.Words.{is_name, is_sign, is_sign_at, is_reserved, sign_of, says_in, meant, meant_in, name_of, word_at, name_at}
use Rattle.dw_parse_words.specs.Literals.{within_digits, digits_at, text_in, text_of, text_at}
use Rattle.dw_parse_words.proofs.FoundLemmas.{at_within, and_both, other_test, meant_no_name}
use Rattle.dw_parse_expr.specs.declared.marks.Mark.{Mark}
use Rattle.dw_parse_expr.specs.declared.marks.Mark.TheVariants.{Or, And, Not, Is, Null, True, False, Between, In, Like, Case, When, Then, Else, End, As, Distinct, Compared, Plus, Minus, Join, Star, Slash, Percent, Cast, Open, Close, Comma, Dot, Text}
use Rattle.dw_parse_expr.specs.Marks.{mark_words, mark_by, mark_of, mark_at, aggregate_words, aggregate_at, is_not, not_at, past_not, level_of, rank, is_mark, marked}

true_false : {x : Bool} → x ≡ true → x ≡ false → ⊥
true_false g h = cc

none_some : {A : Type 0} {o : Option A} {a : A} → o ≡ Some a → o ≡ None → ⊥
none_some g h = cc

none_if : {A : Type 0} (o : Option A) → ((a : A) → o ≡ Some a → ⊥) → o ≡ None
none_if None h = refl
none_if (Some a) h = absurd (h a refl)

-- a mark has a number of its own, apart from the comparisons
abbrev marks : List Mark
marks =
    Or ∷ And ∷ Not ∷ Is ∷ Null ∷ True ∷ False ∷ Between ∷ In ∷ Like ∷ Case ∷ When ∷ Then ∷ Else ∷ End ∷ As ∷ Distinct
    ∷ Compared comparison.Equal ∷ Plus ∷ Minus ∷ Join ∷ Star ∷ Slash ∷ Percent ∷ Cast ∷ Open ∷ Close ∷ Comma ∷ Dot ∷ Text ∷ []

abbrev ranked : ℕ → Option Mark
ranked k = slice_get marks k

ranked_rank : (m : Mark) → (rank m == 17) ≡ false → ranked (rank m) ≡ Some m
ranked_rank (Compared c) e = cc
ranked_rank Or e = refl
ranked_rank _ e = refl

is_mark_true : (m : Mark) (found : Option Mark) → (rank m == 17) ≡ false → is_mark m found ≡ true → found ≡ Some m
is_mark_true m None plain e = cc
is_mark_true m (Some n) plain e =
    let same : rank n ≡ rank m = eqb-true (rank n) (rank m) e in
    sym (ranked_rank n (ap (λ r. r == 17) same ∙ plain)) ∙ ap ranked same ∙ ranked_rank m plain

is_mark_is : (m : Mark) → is_mark m (Some m) ≡ true
is_mark_is m = eq-eqb (rank m) (rank m) refl

pub to_mark : (tokens : List Token) (m : Mark) (i : ℕ) → (rank m == 17) ≡ false → marked tokens m i ≡ true → mark_at tokens i ≡ Some m
to_mark tokens m i plain e = is_mark_true m (mark_at tokens i) plain e

pub of_mark : (tokens : List Token) (m : Mark) (i : ℕ) → mark_at tokens i ≡ Some m → marked tokens m i ≡ true
of_mark tokens m i e = ap (is_mark m) e ∙ is_mark_is m

-- a mark is no other one
pub no_mark : (tokens : List Token) (m n : Mark) (i : ℕ) → mark_at tokens i ≡ Some n → is_mark m (Some n) ≡ false → marked tokens m i ≡ false
no_mark tokens m n i e other = ap (is_mark m) e ∙ other

-- what is found is within the tokens
pub mark_within : (tokens : List Token) (i : ℕ) (m : Mark) → mark_at tokens i ≡ Some m → i < length tokens
mark_within tokens i m e = at_within mark_of tokens i m e

pub name_within : (tokens : List Token) (i : ℕ) (name : List ℕ) → name_at tokens i ≡ Some name → i < length tokens
name_within tokens i name e = at_within name_of tokens i name e

pub text_within : (tokens : List Token) (i : ℕ) (said : List ℕ) → text_at tokens i ≡ Some said → i < length tokens
text_within tokens i said e = at_within text_of tokens i said e

-- the words of the grammar are no names
words_reserved : list_all (λ (entry : List ℕ × Mark). is_reserved (folded entry.0)) mark_words ≡ true
unfolding is_reserved
words_reserved = refl

word_no_name : (t : Token) (m : Mark) → meant mark_words t ≡ Some m → name_of t ≡ None
word_no_name t m e = meant_no_name mark_words (t ∷ []) 0 m words_reserved e

-- a mark, a name, a number and a text are different tokens
name_by : (t : Token) (m : Mark) (f : Form) → t.form ≡ f → mark_by f t ≡ Some m → name_of t ≡ None
name_by t m form.Name is e = word_no_name t m e
name_by t m form.Quoted is e = cc
name_by t m form.Number is e = cc
name_by t m form.Words is e = rw is refl
name_by t m (form.Sign s) is e = rw is refl

mark_name : (m : Mark) (found : Option Token) → option_and_then mark_of found ≡ Some m → option_and_then name_of found ≡ None
mark_name m None e = refl
mark_name m (Some t) e = name_by t m t.form refl e

digits_by : (t : Token) (m : Mark) (f : Form) → t.form ≡ f → mark_by f t ≡ Some m → decimal_number t ≡ None
digits_by t m form.Name is e = rw is refl
digits_by t m form.Quoted is e = cc
digits_by t m form.Number is e = cc
digits_by t m form.Words is e = rw is refl
digits_by t m (form.Sign s) is e = rw is refl

mark_digits : (m : Mark) (found : Option Token) → option_and_then mark_of found ≡ Some m → within_digits (option_and_then decimal_number found) ≡ None
mark_digits m None e = refl
mark_digits m (Some t) e = ap within_digits (digits_by t m t.form refl e)

text_by : (t : Token) (m : Mark) (f : Form) → t.form ≡ f → mark_by f t ≡ Some m → is_mark Text (Some m) ≡ false → text_of t ≡ None
text_by t m form.Name is e other = rw is refl
text_by t m form.Quoted is e other = rw is refl
text_by t m form.Number is e other = rw is refl
text_by t m form.Words is e other = absurd (true_false refl (ap (is_mark Text) e ∙ other))
text_by t m (form.Sign s) is e other = rw is refl

mark_text : (m : Mark) (found : Option Token) → option_and_then mark_of found ≡ Some m → is_mark Text (Some m) ≡ false → option_and_then text_of found ≡ None
mark_text m None e other = refl
mark_text m (Some t) e other = text_by t m t.form refl e other

said_form : (t : Token) (said : List ℕ) (f : Form) → text_in f t.text ≡ Some said → f ≡ form.Words
said_form t said form.Name e = cc
said_form t said form.Quoted e = cc
said_form t said form.Number e = cc
said_form t said form.Words e = refl
said_form t said (form.Sign s) e = cc

said_mark : (said : List ℕ) (found : Option Token) → option_and_then text_of found ≡ Some said → option_and_then mark_of found ≡ Some Text
said_mark said None e = cc
said_mark said (Some t) e = ap (λ f. mark_by f t) (said_form t said t.form e)

digits_name : (t : Token) (f : Form) → t.form ≡ f → (found : Option (ℕ × ℕ)) → decimal_number t ≡ found → (n : ℕ × ℕ) → within_digits found ≡ Some n → name_of t ≡ None
digits_name t form.Name is found e n h = absurd (none_some (ap within_digits e ∙ h) (rw is refl))
digits_name t form.Quoted is found e n h = absurd (none_some (ap within_digits e ∙ h) (rw is refl))
digits_name t form.Number is found e n h = rw is refl
digits_name t form.Words is found e n h = rw is refl
digits_name t (form.Sign s) is found e n h = rw is refl

number_name : (n : ℕ × ℕ) (found : Option Token) → within_digits (option_and_then decimal_number found) ≡ Some n → option_and_then name_of found ≡ None
number_name n None e = refl
number_name n (Some t) e = digits_name t t.form refl (decimal_number t) refl n e

module _ (tokens : List Token) (i : ℕ) where
  pub mark_no_name : (m : Mark) → mark_at tokens i ≡ Some m → name_at tokens i ≡ None
  mark_no_name m e = mark_name m (slice_get tokens i) e

  pub mark_no_digits : (m : Mark) → mark_at tokens i ≡ Some m → digits_at tokens i ≡ None
  mark_no_digits m e = mark_digits m (slice_get tokens i) e

  pub mark_no_text : (m : Mark) → mark_at tokens i ≡ Some m → is_mark Text (Some m) ≡ false → text_at tokens i ≡ None
  mark_no_text m e other = mark_text m (slice_get tokens i) e other

  pub name_no_mark : (name : List ℕ) → name_at tokens i ≡ Some name → mark_at tokens i ≡ None
  name_no_mark name e = none_if (mark_at tokens i) (λ m h. none_some e (mark_no_name m h))

  pub digits_no_mark : (n : ℕ × ℕ) → digits_at tokens i ≡ Some n → mark_at tokens i ≡ None
  digits_no_mark n e = none_if (mark_at tokens i) (λ m h. none_some e (mark_no_digits m h))

  pub text_mark : (said : List ℕ) → text_at tokens i ≡ Some said → mark_at tokens i ≡ Some Text
  text_mark said e = said_mark said (slice_get tokens i) e

  pub digits_no_name : (n : ℕ × ℕ) → digits_at tokens i ≡ Some n → name_at tokens i ≡ None
  digits_no_name n e = number_name n (slice_get tokens i) e

name_folded : (f : Form) (text : List ℕ) → is_name f ≡ true → name_in f text ≡ Some (folded text)
name_folded form.Name text e = refl
name_folded form.Quoted text e = cc
name_folded form.Number text e = cc
name_folded form.Words text e = cc
name_folded (form.Sign s) text e = cc

-- a word that is not reserved is a name
found_name : (word : List ℕ) (found : Option Token) → is_reserved (folded word) ≡ false → says_in word found ≡ true
    → (name : List ℕ) × (option_and_then name_of found ≡ Some name)
found_name word None free e = cc
found_name word (Some t) free e =
    let b = and_both (is_name t.form) (pointwise nat_eq (folded t.text) (folded word)) e in
    let same = (bytes_decides (folded t.text) (folded word)).0 b.1 in
    (folded t.text, rw (b.0, ap is_reserved same ∙ free) (name_folded t.form t.text b.0))

pub word_name : (word : List ℕ) (tokens : List Token) (i : ℕ) → is_reserved (folded word) ≡ false → word_at word tokens i ≡ true
    → (name : List ℕ) × (name_at tokens i ≡ Some name)
word_name word tokens i free e = found_name word (slice_get tokens i) free e

pub cast_free : is_reserved (folded (codes "cast")) ≡ false
unfolding is_reserved
cast_free = refl

pub coalesce_free : is_reserved (folded (codes "coalesce")) ≡ false
unfolding is_reserved
coalesce_free = refl

pub date_free : is_reserved (folded (codes "date")) ≡ false
unfolding is_reserved
date_free = refl

pub count_free : is_reserved (folded (codes "count")) ≡ false
unfolding is_reserved
count_free = refl

sum_free : is_reserved (folded (codes "sum")) ≡ false
unfolding is_reserved
sum_free = refl

min_free : is_reserved (folded (codes "min")) ≡ false
unfolding is_reserved
min_free = refl

max_free : is_reserved (folded (codes "max")) ≡ false
unfolding is_reserved
max_free = refl

-- the words of the aggregates
either_word : {C : Type 0} (b : Bool) (p q : Option Aggregate) (f : Aggregate) → (if b then p else q) ≡ Some f
    → (b ≡ true → C) → (q ≡ Some f → C) → C
either_word true p q f e g h = g refl
either_word false p q f e g h = h e

aggregate_name : (f : Aggregate) (found : Option Token) → meant_in aggregate_words found ≡ Some f
    → (name : List ℕ) × (option_and_then name_of found ≡ Some name)
aggregate_name f None e = cc
aggregate_name f (Some t) e =
    either_word _ _ _ _ e (λ s. found_name (codes "count") (Some t) count_free s)
    (λ h. either_word _ _ _ _ h (λ s. found_name (codes "sum") (Some t) sum_free s)
    (λ g. either_word _ _ _ _ g (λ s. found_name (codes "min") (Some t) min_free s)
    (λ k. either_word _ _ _ _ k (λ s. found_name (codes "max") (Some t) max_free s)
    (λ l. absurd (none_some l refl)))))

pub aggregate_is_name : (tokens : List Token) (i : ℕ) (f : Aggregate) → aggregate_at tokens i ≡ Some f → (name : List ℕ) × (name_at tokens i ≡ Some name)
aggregate_is_name tokens i f e = aggregate_name f (slice_get tokens i) e

count_found : (found : Option Token) → says_in (codes "count") found ≡ true → meant_in aggregate_words found ≡ Some function.Count
count_found None e = cc
count_found (Some t) e = rw e refl

pub count_aggregate : (tokens : List Token) (i : ℕ) → word_at (codes "count") tokens i ≡ true → aggregate_at tokens i ≡ Some function.Count
count_aggregate tokens i e = count_found (slice_get tokens i) e

-- a sign of opening is a mark
open_by : (t : Token) (f : Form) → is_sign sign.Open (sign_of f) ≡ true → mark_by f t ≡ Some Open
open_by t form.Name e = cc
open_by t form.Quoted e = cc
open_by t form.Number e = cc
open_by t form.Words e = cc
open_by t (form.Sign sign.Open) e = refl
open_by t (form.Sign sign.Close) e = cc
open_by t (form.Sign _) e = cc

open_found : (found : Option Token) → is_sign sign.Open (option_and_then (λ token. sign_of token.form) found) ≡ true → option_and_then mark_of found ≡ Some Open
open_found None e = cc
open_found (Some t) e = open_by t t.form e

pub no_open_sign : (tokens : List Token) (i : ℕ) → 0 < level_of (mark_at tokens i) → is_sign_at sign.Open tokens i ≡ false
no_open_sign tokens i h =
    other_test (is_sign_at sign.Open tokens i) (λ e. let zero_here : level_of (mark_at tokens i) ≡ 0 = ap level_of (open_found (slice_get tokens i) e) in absurd (omega arith))

-- `[not]`
is_not_is : (found : Option Mark) → is_not found ≡ true → found ≡ Some Not
is_not_is (Some Not) e = refl
is_not_is None e = cc
is_not_is (Some Or) e = cc
is_not_is _ e = cc

module _ (tokens : List Token) (i : ℕ) where
  past_not_is : (b : Bool) → not_at tokens i ≡ b → ((b ≡ true) × (past_not tokens i ≡ i + 1)) ⊎ ((b ≡ false) × (past_not tokens i ≡ i))
  past_not_is true e = inl (refl, rw e refl)
  past_not_is false e = inr (refl, rw e refl)

  pub past_not_after : (i ≤ past_not tokens i) × (past_not tokens i ≤ i + 1)
  past_not_after = on (past_not_is (not_at tokens i) refl)
    where
      on : ((not_at tokens i ≡ true) × (past_not tokens i ≡ i + 1)) ⊎ ((not_at tokens i ≡ false) × (past_not tokens i ≡ i)) → (i ≤ past_not tokens i) × (past_not tokens i ≤ i + 1)
      on (inl h) = (omega arith, omega arith)
      on (inr h) = (omega arith, omega arith)

  pub past_not_mark : (m : Mark) → mark_at tokens (past_not tokens i) ≡ Some m → (mark_at tokens i ≡ Some Not) ⊎ (mark_at tokens i ≡ Some m)
  past_not_mark m e = on (past_not_is (not_at tokens i) refl)
    where
      on : ((not_at tokens i ≡ true) × (past_not tokens i ≡ i + 1)) ⊎ ((not_at tokens i ≡ false) × (past_not tokens i ≡ i)) → (mark_at tokens i ≡ Some Not) ⊎ (mark_at tokens i ≡ Some m)
      on (inl h) = inl (is_not_is (mark_at tokens i) h.0)
      on (inr h) = inr (sym (ap (mark_at tokens) h.1) ∙ e)

  pub past_not_level : (m : Mark) → level_of (Some m) ≡ 5 → mark_at tokens (past_not tokens i) ≡ Some m → level_of (mark_at tokens i) ≡ 5
  past_not_level m level e = on (past_not_mark m e)
    where
      on : (mark_at tokens i ≡ Some Not) ⊎ (mark_at tokens i ≡ Some m) → level_of (mark_at tokens i) ≡ 5
      on (inl h) = ap level_of h
      on (inr h) = ap level_of h ∙ level
