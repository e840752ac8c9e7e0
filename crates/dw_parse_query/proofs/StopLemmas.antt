-- Where an expression stops, and where an item stops too, which an alias may end: at commas, closing parentheses, words of
-- the grammar, and the end.
use Rattle.std.proofs.Common.{◌≡◌, ℕ, Bool, true, false, if◌then◌else◌, Option, Some, None, List, [], ◌∷◌, length, refl, sym, ◌∙◌, ap, arith}
use Rattle.std.specs.Prelude.{codes, slice_get, nat_eq, ◌==◌}
use Rattle.std.specs.Option.{option_and_then}
use Rattle.std.specs.List.{list_all}
use Rattle.std.specs.Cmp.Lexicographic.{pointwise, bytes_decides}
use Rattle.std.proofs.lemmas.Bool.{eqb-true}
use Rattle.std.proofs.lemmas.Option.{slice_get_past}
use Rattle.dw_lex.specs.Meaning.{folded}
use Rattle.dw_lex.specs.declared.signs.Sign.{Sign}
use Rattle.dw_lex.specs.declared.signs.Sign.TheVariants as sign
use Rattle.dw_lex.specs.declared.token.Form.{Form}
use Rattle.dw_lex.specs.declared.token.Form.TheVariants as form
use Rattle.dw_lex.specs.declared.token.Token.{Token}
use Rattle.dw_parse_words.specs.Words.{is_name, is_sign, is_sign_at, is_reserved, sign_of, says, says_in, meant, name_of, word_at, name_at}
use Rattle.dw_parse_words.proofs.FoundLemmas.{and_both, other_test, one_word, name_no_word, sign_no_word, past_word}
use Rattle.dw_parse_expr.specs.declared.marks.Mark.{Mark}
use Rattle.dw_parse_expr.specs.declared.marks.Mark.TheVariants as mark
use Rattle.dw_parse_expr.specs.Marks.{mark_words, mark_by, mark_of, mark_at, level_of}
use Rattle.dw_parse_expr.proofs.MarkLemmas.{name_no_mark, mark_no_name}

-- no expression goes on at this place
abbrev pub IsStop : List Token → ℕ → Type 0
IsStop tokens i = level_of (mark_at tokens i) ≡ 10

-- nor does an alias begin there
abbrev pub IsItemStop : List Token → ℕ → Type 0
IsItemStop tokens i = IsStop tokens i × (word_at (codes "as") tokens i ≡ false) × (name_at tokens i ≡ None)

none_if : {A : Type 0} (o : Option A) → ((a : A) → o ≡ Some a → ⊥) → o ≡ None
none_if None h = refl
none_if (Some a) h = absurd (h a refl)

true_false : {x : Bool} → x ≡ true → x ≡ false → ⊥
true_false g h = cc

-- a sign is the mark of that sign
comma_by : (t : Token) (f : Form) → is_sign sign.Comma (sign_of f) ≡ true → mark_by f t ≡ Some mark.Comma
comma_by t form.Name e = cc
comma_by t (form.Sign sign.Comma) e = refl
comma_by t (form.Sign sign.Open) e = cc
comma_by t (form.Sign _) e = cc
comma_by t form.Number e = cc
comma_by t _ e = cc

close_by : (t : Token) (f : Form) → is_sign sign.Close (sign_of f) ≡ true → mark_by f t ≡ Some mark.Close
close_by t form.Name e = cc
close_by t (form.Sign sign.Close) e = refl
close_by t (form.Sign sign.Open) e = cc
close_by t (form.Sign _) e = cc
close_by t form.Number e = cc
close_by t _ e = cc

dot_by : (t : Token) (f : Form) → is_sign sign.Dot (sign_of f) ≡ true → mark_by f t ≡ Some mark.Dot
dot_by t form.Name e = cc
dot_by t (form.Sign sign.Dot) e = refl
dot_by t (form.Sign sign.Open) e = cc
dot_by t (form.Sign _) e = cc
dot_by t form.Number e = cc
dot_by t _ e = cc

star_by : (t : Token) (f : Form) → is_sign sign.Star (sign_of f) ≡ true → mark_by f t ≡ Some mark.Star
star_by t form.Name e = cc
star_by t (form.Sign sign.Star) e = refl
star_by t (form.Sign sign.Open) e = cc
star_by t (form.Sign _) e = cc
star_by t form.Number e = cc
star_by t _ e = cc

-- of the token that is found, if there is one
found_mark : (p : Option Sign → Bool) (m : Mark) → p None ≡ false → ((t : Token) (f : Form) → p (sign_of f) ≡ true → mark_by f t ≡ Some m)
    → (found : Option Token) → p (option_and_then (λ token. sign_of token.form) found) ≡ true → option_and_then mark_of found ≡ Some m
found_mark p m lacks by None e = absurd (true_false e lacks)
found_mark p m lacks by (Some t) e = by t t.form e

module _ (tokens : List Token) (i : ℕ) where
  comma_mark : is_sign_at sign.Comma tokens i ≡ true → mark_at tokens i ≡ Some mark.Comma
  comma_mark e = found_mark (is_sign sign.Comma) mark.Comma refl comma_by (slice_get tokens i) e

  pub comma_stop : is_sign_at sign.Comma tokens i ≡ true → IsStop tokens i
  comma_stop e = ap level_of (comma_mark e)

  pub close_stop : is_sign_at sign.Close tokens i ≡ true → IsStop tokens i
  close_stop e = ap level_of (found_mark (is_sign sign.Close) mark.Close refl close_by (slice_get tokens i) e)

  pub star_mark : is_sign_at sign.Star tokens i ≡ true → mark_at tokens i ≡ Some mark.Star
  star_mark e = found_mark (is_sign sign.Star) mark.Star refl star_by (slice_get tokens i) e

  dot_level : is_sign_at sign.Dot tokens i ≡ true → level_of (mark_at tokens i) ≡ 0
  dot_level e = ap level_of (found_mark (is_sign sign.Dot) mark.Dot refl dot_by (slice_get tokens i) e)

  pub stop_no_dot : IsStop tokens i → is_sign_at sign.Dot tokens i ≡ false
  stop_no_dot stop = other_test (is_sign_at sign.Dot tokens i) (λ e. let zero_here = dot_level e in absurd (omega arith))

  pub name_stop : (name : List ℕ) → name_at tokens i ≡ Some name → IsStop tokens i
  name_stop name e = ap level_of (name_no_mark tokens i name e)

  pub past_stop : i ≡ length tokens → IsStop tokens i
  past_stop e = ap (λ found. level_of (option_and_then mark_of found)) (slice_get_past tokens i (omega arith))

  past_name : i ≡ length tokens → name_at tokens i ≡ None
  past_name e = ap (option_and_then name_of) (slice_get_past tokens i (omega arith))

  pub comma_item_stop : is_sign_at sign.Comma tokens i ≡ true → IsItemStop tokens i
  comma_item_stop e = (comma_stop e, sign_no_word (codes "as") (is_sign sign.Comma) tokens i refl e, mark_no_name tokens i mark.Comma (comma_mark e))

  pub past_item_stop : i ≡ length tokens → IsItemStop tokens i
  past_item_stop e = (past_stop e, past_word (codes "as") tokens i e, past_name e)

-- a word stops an expression if no mark that goes on is that word
abbrev stops : List ℕ → List ℕ × Mark → Bool
stops word entry = if pointwise nat_eq (folded entry.0) (folded word) then level_of (Some entry.1) == 10 else true

same_word : (a b : List ℕ) (t : Token) → says a t ≡ true → says b t ≡ true → pointwise nat_eq (folded a) (folded b) ≡ true
same_word a b t e f =
    let x = (bytes_decides (folded t.text) (folded a)).0 (and_both _ _ e).1 in
    let y = (bytes_decides (folded t.text) (folded b)).0 (and_both _ _ f).1 in
    (bytes_decides (folded a) (folded b)).1 (sym x ∙ y)

meant_stop : (entries : List (List ℕ × Mark)) (word : List ℕ) (t : Token) → says word t ≡ true → list_all (stops word) entries ≡ true
    → level_of (meant entries t) ≡ 10
meant_stop [] word t said all = refl
meant_stop (entry ∷ entries) word t said all =
    let both = and_both (stops word entry) (list_all (stops word) entries) all in
    on both.0 (meant_stop entries word t said both.1) (says entry.0 t) refl
  where
    on : stops word entry ≡ true → level_of (meant entries t) ≡ 10 → (b : Bool) → says entry.0 t ≡ b
        → level_of (if b then Some entry.1 else meant entries t) ≡ 10
    on here rest true e =
        let same = same_word entry.0 word t e said in
        eqb-true (level_of (Some entry.1)) 10 (rw same at here)
    on here rest false e = rest

name_form : (f : Form) → is_name f ≡ true → f ≡ form.Name
name_form form.Name e = refl
name_form form.Number e = cc
name_form _ e = cc

found_stop : (word : List ℕ) (found : Option Token) → list_all (stops word) mark_words ≡ true → says_in word found ≡ true
    → level_of (option_and_then mark_of found) ≡ 10
found_stop word None all e = cc
found_stop word (Some t) all e =
    let f = name_form t.form (and_both _ _ e).0 in
    ap (λ (g : Form). level_of (mark_by g t)) f ∙ meant_stop mark_words word t e all

as_reserved : is_reserved (folded (codes "as")) ≡ true
unfolding is_reserved
as_reserved = refl

from_reserved : is_reserved (folded (codes "from")) ≡ true
unfolding is_reserved
from_reserved = refl

where_reserved : is_reserved (folded (codes "where")) ≡ true
unfolding is_reserved
where_reserved = refl

no_name : (word : List ℕ) (tokens : List Token) (i : ℕ) → is_reserved (folded word) ≡ true → word_at word tokens i ≡ true → name_at tokens i ≡ None
no_name word tokens i reserved e = none_if (name_at tokens i) (λ name h. true_false e (name_no_word word tokens i name reserved h))

module _ (tokens : List Token) (i : ℕ) where
  pub as_stop : word_at (codes "as") tokens i ≡ true → IsStop tokens i
  as_stop e = found_stop (codes "as") (slice_get tokens i) refl e

  pub name_no_as : (name : List ℕ) → name_at tokens i ≡ Some name → word_at (codes "as") tokens i ≡ false
  name_no_as name e = name_no_word (codes "as") tokens i name as_reserved e

  pub from_item_stop : word_at (codes "from") tokens i ≡ true → IsItemStop tokens i
  from_item_stop e = (
    found_stop (codes "from") (slice_get tokens i) refl e,
    one_word (codes "from") (codes "as") tokens i refl e,
    no_name (codes "from") tokens i from_reserved e,
  )

  pub where_item_stop : word_at (codes "where") tokens i ≡ true → IsItemStop tokens i
  where_item_stop e = (
    found_stop (codes "where") (slice_get tokens i) refl e,
    one_word (codes "where") (codes "as") tokens i refl e,
    no_name (codes "where") tokens i where_reserved e,
  )
