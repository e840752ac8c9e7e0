-- What is derived is read.
use Rattle.std.proofs.Common.{◌≡◌, ℕ, ◌+◌, ◌≤◌, Bool, true, false, Some, Option, List, length, refl, sym, ◌∙◌, ap, arith}
use Rattle.std.specs.Prelude.{codes}
use Rattle.std.proofs.lemmas.Bool.{eq-eqb}
use Rattle.dw_lex.specs.declared.signs.Sign.TheVariants as sign
use Rattle.dw_lex.specs.declared.token.Token.{Token}
use Rattle.dw_expr.specs.Tree.{Tree}
use Rattle.dw_query.specs.declared.queries.Item.{Item}
use Rattle.dw_query.specs.declared.queries.Source.{Source}
use Rattle.dw_query.specs.declared.queries.Query.{Query}
use Rattle.dw_query.specs.declared.queries.Assignment.{Assignment}
use Rattle.dw_parse_words.specs.Words.{is_sign, is_sign_at, name_of, word_at, sign_at}
use Rattle.dw_parse_words.proofs.FoundLemmas.{Spans, at_within, sign_within, other_test, one_word, past_sign, past_word, word_no_sign, close_comma}
use Rattle.dw_parse_words.proofs.PieceLemmas.{listed_spans, listed_at_complete, table_complete, Anything}
use Rattle.dw_parse_expr.specs.Grammar.{IsExpression}
use Rattle.dw_parse_expr.specs.Reading.{expression_at}
use Rattle.dw_parse_expr.proofs.LevelLemmas.{may_begin}
use Rattle.dw_parse_expr.proofs.Places.{spans, starts}
use Rattle.dw_parse_expr.proofs.Answered.{read_of}
use Rattle.dw_parse_query.specs.Grammar.{IsAlias, no_alias, alias, as_alias, IsItem, all, one, IsSource, source, IsFrom, no_source, from, IsCondition, no_condition, where_is, IsQuery, query, IsTuple, tuple, IsTuples, tuples, IsAssignment, assignment, IsChange, change}
use Rattle.dw_parse_query.specs.Reading.{alias_at, item_at, source_at, from_at, condition_at, query_at, tuple_at, tuples_at, assignment_at, change_at}
use Rattle.dw_parse_query.proofs.StopLemmas.{IsStop, IsItemStop, comma_stop, close_stop, star_mark, stop_no_dot, name_stop, past_stop, comma_item_stop, past_item_stop, as_stop, name_no_as, from_item_stop, where_item_stop}

-- expressions
pub expression_spans : (tokens : List Token) (i j : ℕ) (expr : Tree) → IsExpression tokens i expr j → Spans tokens i j
expression_spans tokens i j expr x = let s = spans tokens x.2 in (s.1, s.2)

expression_complete : (tokens : List Token) (i j : ℕ) (expr : Tree) → IsExpression tokens i expr j → IsStop tokens j → expression_at tokens i ≡ Some (expr, j)
expression_complete tokens i j expr x stop = read_of tokens i j x.0 expr x.2 x.1 (omega arith)

true_false : {x : Bool} → x ≡ true → x ≡ false → ⊥
true_false g h = cc

no_star : (tokens : List Token) (i j : ℕ) (expr : Tree) → IsExpression tokens i expr j → is_sign_at sign.Star tokens i ≡ false
no_star tokens i j expr x =
    other_test (is_sign_at sign.Star tokens i) (λ e. true_false (starts tokens x.2).1 (ap may_begin (star_mark tokens i e)))

-- aliases
alias_spans : (tokens : List Token) {i j : ℕ} {name : Option (List ℕ)} → IsAlias tokens i name j → i ≤ length tokens → (i ≤ j) × (j ≤ length tokens)
alias_spans tokens no_alias within = (omega arith, within)
alias_spans tokens (alias {i} {name} e) within = let h = at_within name_of tokens i name e in (omega arith, omega arith)
alias_spans tokens (as_alias {i} {name} w e) within = let h = at_within name_of tokens (i + 1) name e in (omega arith, omega arith)

alias_complete : (tokens : List Token) {i j : ℕ} {name : Option (List ℕ)} → IsAlias tokens i name j → IsItemStop tokens j → alias_at tokens i ≡ Some (name, j)
alias_complete tokens (no_alias {i}) stop = rw (stop.1, stop.2) refl
alias_complete tokens (alias {i} {name} e) stop = rw (name_no_as tokens i name e, e) refl
alias_complete tokens (as_alias w e) stop = rw (w, e) refl

alias_stop : (tokens : List Token) {i j : ℕ} {name : Option (List ℕ)} → IsAlias tokens i name j → IsItemStop tokens j → IsStop tokens i
alias_stop tokens no_alias stop = stop.0
alias_stop tokens (alias {i} {name} e) stop = name_stop tokens i name e
alias_stop tokens (as_alias {i} w e) stop = as_stop tokens i w

-- items
pub item_spans : (tokens : List Token) (i j : ℕ) (item : Item) → IsItem tokens i item j → Spans tokens i j
item_spans tokens i j item (all e) = let h = sign_within (is_sign sign.Star) tokens i refl e in (omega arith, omega arith)
item_spans tokens i j item (one {j = k} {expr = expr} x a) =
    let s = expression_spans tokens i k expr x in let t = alias_spans tokens a s.1 in (omega arith, t.1)

item_complete : (tokens : List Token) (i j : ℕ) (item : Item) → IsItem tokens i item j → IsItemStop tokens j → item_at tokens i ≡ Some (item, j)
item_complete tokens i j item (all e) stop = rw e refl
item_complete tokens i j item (one {j = k} {expr = expr} x a) stop =
    rw (no_star tokens i k expr x, expression_complete tokens i k expr x (alias_stop tokens a stop), alias_complete tokens a stop) refl

-- the source
source_complete : (tokens : List Token) {i j : ℕ} {source : Source} → IsSource tokens i source j → IsItemStop tokens j → source_at tokens i ≡ Some (source, j)
source_complete tokens (source {j = k} t a) stop =
    rw (table_complete tokens t (stop_no_dot tokens k (alias_stop tokens a stop)), alias_complete tokens a stop) refl

-- the condition
record IsConditionStop (tokens : List Token) (i : ℕ) : Type 0 where
  pub stop : IsItemStop tokens i
  pub no_comma : is_sign_at sign.Comma tokens i ≡ false
  pub no_from : word_at (codes "from") tokens i ≡ false

condition_stop : (tokens : List Token) {i : ℕ} {keep : Option Tree} → IsCondition tokens i keep → IsConditionStop tokens i
condition_stop tokens (no_condition {i} e) = record {
  stop = past_item_stop tokens i e;
  no_comma = past_sign (is_sign sign.Comma) tokens i e refl;
  no_from = past_word (codes "from") tokens i e;
}
condition_stop tokens (where_is {i} w x e) = record {
  stop = where_item_stop tokens i w;
  no_comma = word_no_sign (is_sign sign.Comma) (codes "where") tokens i w refl;
  no_from = one_word (codes "where") (codes "from") tokens i refl w;
}

pub condition_complete : (tokens : List Token) (i : ℕ) (keep : Option Tree) → IsCondition tokens i keep → condition_at tokens i ≡ Some keep
condition_complete tokens i keep (no_condition e) = rw (past_word (codes "where") tokens i e, eq-eqb i (length tokens) e) refl
condition_complete tokens i keep (where_is {j = j} {expr = expr} w x e) =
    rw (w, expression_complete tokens (i + 1) j expr x (past_stop tokens j e), eq-eqb j (length tokens) e) refl

-- what may follow the items
from_stop : (tokens : List Token) {i j : ℕ} {source : Option Source} → IsFrom tokens i source j → IsConditionStop tokens j
    → IsItemStop tokens i × (is_sign_at sign.Comma tokens i ≡ false)
from_stop tokens no_source c = (c.stop, c.no_comma)
from_stop tokens (from {i} w s) c = (from_item_stop tokens i w, word_no_sign (is_sign sign.Comma) (codes "from") tokens i w refl)

from_complete : (tokens : List Token) {i j : ℕ} {source : Option Source} → IsFrom tokens i source j → IsConditionStop tokens j
    → from_at tokens i ≡ Some (source, j)
from_complete tokens no_source c = rw c.no_from refl
from_complete tokens (from w s) c = rw (w, source_complete tokens s c.stop) refl

-- queries
pub query_complete : (tokens : List Token) (i : ℕ) (found : Query) → IsQuery tokens i found → query_at tokens i ≡ Some found
query_complete tokens i found (query {j = j} {k = k} {keep = keep} list f c) =
    let end = condition_stop tokens c in
    let after = from_stop tokens f end in
    let l = listed_at_complete (item_at tokens) (IsItem tokens) tokens (item_spans tokens) (IsItemStop tokens) (comma_item_stop tokens) (item_complete tokens) list after.0 after.1 in
    rw (l, from_complete tokens f end, condition_complete tokens k keep c) refl

-- tuples
pub tuple_spans : (tokens : List Token) (i j : ℕ) (row : List Tree) → IsTuple tokens i row j → Spans tokens i j
tuple_spans tokens i j row (tuple {j = k} o list c) =
    let s = listed_spans (expression_at tokens) (IsExpression tokens) tokens (expression_spans tokens) list in
    let h = sign_within (is_sign sign.Close) tokens k refl c in (omega arith, omega arith)

tuple_complete : (tokens : List Token) (i j : ℕ) (row : List Tree) → IsTuple tokens i row j → Anything j → tuple_at tokens i ≡ Some (row, j)
tuple_complete tokens i j row (tuple {j = k} o list c) after =
    let l = listed_at_complete (expression_at tokens) (IsExpression tokens) tokens (expression_spans tokens) (IsStop tokens) (comma_stop tokens) (expression_complete tokens) list (close_stop tokens k c) (close_comma (sign_at tokens k) c) in
    rw (o, l, c) refl

pub tuples_complete : (tokens : List Token) (i : ℕ) (rows : List (List Tree)) → IsTuples tokens i rows → tuples_at tokens i ≡ Some rows
tuples_complete tokens i rows (tuples {j = j} list e) =
    let l = listed_at_complete (tuple_at tokens) (IsTuple tokens) tokens (tuple_spans tokens) Anything (λ k comma. tt) (tuple_complete tokens) list tt (past_sign (is_sign sign.Comma) tokens j e refl) in
    rw (l, eq-eqb j (length tokens) e) refl

-- changes
pub assignment_spans : (tokens : List Token) (i j : ℕ) (set : Assignment) → IsAssignment tokens i set j → Spans tokens i j
assignment_spans tokens i j set (assignment {expr = expr} n q x) = let s = expression_spans tokens (i + 2) j expr x in (omega arith, s.1)

assignment_complete : (tokens : List Token) (i j : ℕ) (set : Assignment) → IsAssignment tokens i set j → IsStop tokens j → assignment_at tokens i ≡ Some (set, j)
assignment_complete tokens i j set (assignment {expr = expr} n q x) stop = rw (n, q, expression_complete tokens (i + 2) j expr x stop) refl

pub change_complete : (tokens : List Token) (i : ℕ) (sets : List Assignment) (keep : Option Tree) → IsChange tokens i sets keep → change_at tokens i ≡ Some (sets, keep)
change_complete tokens i sets keep (change {j = j} list c) =
    let end = condition_stop tokens c in
    let l = listed_at_complete (assignment_at tokens) (IsAssignment tokens) tokens (assignment_spans tokens) (IsStop tokens) (comma_stop tokens) (assignment_complete tokens) list end.stop.0 end.no_comma in
    rw (l, condition_complete tokens j keep c) refl

-- at most one is derived
some_same : {A : Type 0} (a b : A) → Some a ≡ Some b → a ≡ b
some_same a b e = cc

pub one_query : (tokens : List Token) (i : ℕ) (first second : Query) → IsQuery tokens i first → IsQuery tokens i second → first ≡ second
one_query tokens i first second d e = some_same first second (sym (query_complete tokens i first d) ∙ query_complete tokens i second e)

pub one_list : (tokens : List Token) (i : ℕ) (first second : List (List Tree)) → IsTuples tokens i first → IsTuples tokens i second → first ≡ second
one_list tokens i first second d e = some_same first second (sym (tuples_complete tokens i first d) ∙ tuples_complete tokens i second e)

pub one_change : (tokens : List Token) (i : ℕ) (sets others : List Assignment) (keep other : Option Tree) → IsChange tokens i sets keep
    → IsChange tokens i others other → (sets ≡ others) × (keep ≡ other)
one_change tokens i sets others keep other d e =
    let same = some_same (sets, keep) (others, other) (sym (change_complete tokens i sets keep d) ∙ change_complete tokens i others other e) in
    (ap (λ (r : List Assignment × Option Tree). r.0) same, ap (λ (r : List Assignment × Option Tree). r.1) same)

pub one_condition : (tokens : List Token) (i : ℕ) (first second : Option Tree) → IsCondition tokens i first → IsCondition tokens i second → first ≡ second
one_condition tokens i first second d e = some_same first second (sym (condition_complete tokens i first d) ∙ condition_complete tokens i second e)
