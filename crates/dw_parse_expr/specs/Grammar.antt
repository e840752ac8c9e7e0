-- The grammar of expressions: which expression the tokens from one place up to another derive at a level, and how deep it
-- is. A column, a literal and `count(*)` are 1 deep; each operator, pair of parentheses, call, cast, CASE and test is one
-- deeper than the deepest of its parts. This project's profile of the Amazon Redshift guide (expressions, conditions).
use Rattle.std.specs.Prelude.{◌≡◌, ℕ, suc, ◌+◌, ◌≤◌, max, true, false, pos, Some, None, List, codes}
use Rattle.dw_lex.specs.declared.token.Token.{Token}
use Rattle.dw_value.specs.declared.kinds.Kind.{Kind}
use Rattle.dw_expr.specs.declared.trees.Aggregate.{Aggregate}
use Rattle.dw_expr.specs.declared.trees.Aggregate.TheVariants.{CountDistinct}
use Rattle.dw_expr.specs.declared.trees.Literal.TheVariants as l
use Rattle.dw_expr.specs.Tree as t
use Rattle.dw_expr.specs.Tree.{Tree, Trees, Branches}
use Rattle.dw_parse_words.specs.Words.{word_at, name_at}
use Rattle.dw_parse_words.specs.Literals.{digits_at, text_at}
use Rattle.dw_parse_words.specs.KindGrammar.{IsKind}
use Rattle.dw_parse_expr.specs.declared.marks.Mark.TheVariants as mark
use Rattle.dw_parse_expr.specs.declared.marks.Operator.{Operator}
use Rattle.dw_parse_expr.specs.Marks.{mark_at, aggregate_at, not_at, past_not, level_of, operator_of, made, groups, prefix_level, prefix_made}

mutual
  -- level, first place, expression, depth, place after
  pub data Derives (tokens : List Token) : ℕ → ℕ → Tree → ℕ → ℕ → Type 0 where
    -- an expression of a level is one of the next looser level
    tighter : {k i d j : ℕ} {a : Tree} → Derives tokens k i a d j → k ≤ 7 → Derives tokens (suc k) i a d j
    -- a or b, a and b, a + b, a - b, a || b, a * b, a / b, a % b
    grouped : {k i d j e l : ℕ} {a b : Tree} {op : Operator} → Derives tokens (suc k) i a d j → groups (suc k) ≡ true
        → level_of (mark_at tokens j) ≡ suc k → operator_of (mark_at tokens j) ≡ Some op → Derives tokens k (j + 1) b e l
        → Derives tokens (suc k) i (made op a b) (suc (max d e)) l
    -- a = b, and the other comparisons
    compared : {i d j e l : ℕ} {a b : Tree} {op : Operator} → Derives tokens 4 i a d j
        → level_of (mark_at tokens j) ≡ 5 → operator_of (mark_at tokens j) ≡ Some op → Derives tokens 4 (j + 1) b e l
        → Derives tokens 5 i (made op a b) (suc (max d e)) l
    -- not a, - a
    prefixed : {k i d j : ℕ} {a : Tree} → prefix_level (mark_at tokens i) ≡ suc k → Derives tokens (suc k) (i + 1) a d j
        → Derives tokens (suc k) i (prefix_made (mark_at tokens i) a) (suc d) j
    -- a is [not] null
    is_null : {i d j : ℕ} {a : Tree} → Derives tokens 4 i a d j → mark_at tokens j ≡ Some mark.Is
        → mark_at tokens (past_not tokens (j + 1)) ≡ Some mark.Null
        → Derives tokens 5 i (t.is_null (not_at tokens (j + 1)) a) (suc d) (past_not tokens (j + 1) + 1)
    -- a [not] between b and c
    between : {i d j e l f n : ℕ} {a b c : Tree} → Derives tokens 4 i a d j
        → mark_at tokens (past_not tokens j) ≡ Some mark.Between → Derives tokens 4 (past_not tokens j + 1) b e l
        → mark_at tokens l ≡ Some mark.And → Derives tokens 4 (l + 1) c f n
        → Derives tokens 5 i (t.between (not_at tokens j) a b c) (suc (max d (max e f))) n
    -- a [not] in ( b {, b} )
    within : {i d j e l : ℕ} {a : Tree} {bs : Trees} → Derives tokens 4 i a d j
        → mark_at tokens (past_not tokens j) ≡ Some mark.In → mark_at tokens (past_not tokens j + 1) ≡ Some mark.Open
        → Listed tokens (past_not tokens j + 2) bs e l → mark_at tokens l ≡ Some mark.Close
        → Derives tokens 5 i (t.in_list (not_at tokens j) a bs) (suc (max d e)) (l + 1)
    -- a [not] like b
    like : {i d j e l : ℕ} {a b : Tree} → Derives tokens 4 i a d j → mark_at tokens (past_not tokens j) ≡ Some mark.Like
        → Derives tokens 4 (past_not tokens j + 1) b e l
        → Derives tokens 5 i (t.like (not_at tokens j) a b) (suc (max d e)) l
    -- a :: kind
    cast : {i d j l : ℕ} {a : Tree} {kind : Kind} → Derives tokens 1 i a d j → mark_at tokens j ≡ Some mark.Cast
        → IsKind tokens (j + 1) kind l → Derives tokens 1 i (t.cast a kind) (suc d) l
    -- the atoms: null, true, false, a number, 'text', date 'text'
    null : {i : ℕ} → mark_at tokens i ≡ Some mark.Null → Derives tokens 0 i (t.literal l.Null) 1 (i + 1)
    true_word : {i : ℕ} → mark_at tokens i ≡ Some mark.True → Derives tokens 0 i (t.literal (l.Truth true)) 1 (i + 1)
    false_word : {i : ℕ} → mark_at tokens i ≡ Some mark.False → Derives tokens 0 i (t.literal (l.Truth false)) 1 (i + 1)
    number : {i : ℕ} {n : ℕ × ℕ} → digits_at tokens i ≡ Some n
        → Derives tokens 0 i (t.literal (l.Number (pos n.0) n.1)) 1 (i + 1)
    text : {i : ℕ} {said : List ℕ} → text_at tokens i ≡ Some said → Derives tokens 0 i (t.literal (l.Words said)) 1 (i + 1)
    date : {i : ℕ} {said : List ℕ} → word_at (codes "date") tokens i ≡ true → text_at tokens (i + 1) ≡ Some said
        → Derives tokens 0 i (t.literal (l.Date said)) 1 (i + 2)
    -- name, name . name
    column : {i : ℕ} {name : List ℕ} → name_at tokens i ≡ Some name → Derives tokens 0 i (t.column None name) 1 (i + 1)
    qualified : {i : ℕ} {source name : List ℕ} → name_at tokens i ≡ Some source → mark_at tokens (i + 1) ≡ Some mark.Dot
        → name_at tokens (i + 2) ≡ Some name → Derives tokens 0 i (t.column (Some source) name) 1 (i + 3)
    -- ( a )
    inside : {i d j : ℕ} {a : Tree} → mark_at tokens i ≡ Some mark.Open → Derives tokens 8 (i + 1) a d j
        → mark_at tokens j ≡ Some mark.Close → Derives tokens 0 i a (suc d) (j + 1)
    -- cast ( a as kind )
    cast_as : {i d j l : ℕ} {a : Tree} {kind : Kind} → word_at (codes "cast") tokens i ≡ true
        → mark_at tokens (i + 1) ≡ Some mark.Open → Derives tokens 8 (i + 2) a d j → mark_at tokens j ≡ Some mark.As
        → IsKind tokens (j + 1) kind l → mark_at tokens l ≡ Some mark.Close
        → Derives tokens 0 i (t.cast a kind) (suc d) (l + 1)
    -- coalesce ( a {, a} )
    coalesce : {i d j : ℕ} {bs : Trees} → word_at (codes "coalesce") tokens i ≡ true
        → mark_at tokens (i + 1) ≡ Some mark.Open → Listed tokens (i + 2) bs d j → mark_at tokens j ≡ Some mark.Close
        → Derives tokens 0 i (t.coalesce bs) (suc d) (j + 1)
    -- count ( * ), count ( distinct a ), count ( a ), sum ( a ), min ( a ), max ( a )
    count_rows : {i : ℕ} → word_at (codes "count") tokens i ≡ true → mark_at tokens (i + 1) ≡ Some mark.Open
        → mark_at tokens (i + 2) ≡ Some mark.Star → mark_at tokens (i + 3) ≡ Some mark.Close
        → Derives tokens 0 i t.count_rows 1 (i + 4)
    count_distinct : {i d j : ℕ} {a : Tree} → word_at (codes "count") tokens i ≡ true
        → mark_at tokens (i + 1) ≡ Some mark.Open → mark_at tokens (i + 2) ≡ Some mark.Distinct
        → Derives tokens 8 (i + 3) a d j → mark_at tokens j ≡ Some mark.Close
        → Derives tokens 0 i (t.aggregate CountDistinct a) (suc d) (j + 1)
    aggregate : {i d j : ℕ} {a : Tree} {function : Aggregate} → aggregate_at tokens i ≡ Some function
        → mark_at tokens (i + 1) ≡ Some mark.Open → Derives tokens 8 (i + 2) a d j → mark_at tokens j ≡ Some mark.Close
        → Derives tokens 0 i (t.aggregate function a) (suc d) (j + 1)
    -- case when a then b {when a then b} end
    choice : {i d j : ℕ} {arms : Branches} → mark_at tokens i ≡ Some mark.Case → mark_at tokens (i + 1) ≡ Some mark.When
        → Branched tokens (i + 2) arms d j → mark_at tokens j ≡ Some mark.End
        → Derives tokens 0 i (t.choice arms) (suc d) (j + 1)
    -- case when a then b {when a then b} else c end
    choice_else : {i d j e l : ℕ} {arms : Branches} {c : Tree} → mark_at tokens i ≡ Some mark.Case
        → mark_at tokens (i + 1) ≡ Some mark.When → Branched tokens (i + 2) arms d j → mark_at tokens j ≡ Some mark.Else
        → Derives tokens 8 (j + 1) c e l → mark_at tokens l ≡ Some mark.End
        → Derives tokens 0 i (t.choice_else arms c) (suc (max d e)) (l + 1)

  -- a {, a}
  pub data Listed (tokens : List Token) : ℕ → Trees → ℕ → ℕ → Type 0 where
    one : {i d j : ℕ} {a : Tree} → Derives tokens 8 i a d j → Listed tokens i (t.more a t.none) d j
    more : {i d j e l : ℕ} {a : Tree} {rest : Trees} → Derives tokens 8 i a d j → mark_at tokens j ≡ Some mark.Comma
        → Listed tokens (j + 1) rest e l → Listed tokens i (t.more a rest) (max d e) l

  -- a then b {when a then b}
  pub data Branched (tokens : List Token) : ℕ → Branches → ℕ → ℕ → Type 0 where
    one_branch : {i d j e l : ℕ} {a b : Tree} → Derives tokens 8 i a d j → mark_at tokens j ≡ Some mark.Then
        → Derives tokens 8 (j + 1) b e l → Branched tokens i (t.branch a b t.no_branch) (max d e) l
    more_branches : {i d j e l f n : ℕ} {a b : Tree} {rest : Branches} → Derives tokens 8 i a d j
        → mark_at tokens j ≡ Some mark.Then → Derives tokens 8 (j + 1) b e l → mark_at tokens l ≡ Some mark.When
        → Branched tokens (l + 1) rest f n → Branched tokens i (t.branch a b rest) (max (max d e) f) n

-- the tokens from one place up to another derive this expression, which is at most 64 deep
abbrev pub IsExpression : List Token → ℕ → Tree → ℕ → Type 0
IsExpression tokens i tree j = (depth : ℕ) × (depth ≤ 64) × Derives tokens 8 i tree depth j
