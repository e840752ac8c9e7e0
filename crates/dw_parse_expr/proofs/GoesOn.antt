-- What is read after an expression.
use Rattle.std.proofs.Common.{◌≡◌, ℕ, suc, ◌+◌, max, false, Some, None, List, [], length, refl, ◌∙◌, ap, ◌⊎◌, inl, inr}
use Rattle.dw_lex.specs.declared.token.Token.{Token}
use Rattle.dw_value.specs.declared.kinds.Kind.{Kind}
use Rattle.dw_expr.specs.Tree as t
use Rattle.dw_expr.specs.Tree.{Tree}
use Rattle.dw_parse_words.specs.KindReading.{kind_at}
use Rattle.dw_parse_expr.specs.declared.marks.Mark.{Mark}
use Rattle.dw_parse_expr.specs.declared.marks.Mark.TheVariants as mark
use Rattle.dw_parse_expr.specs.declared.marks.Operator.{Operator}
use Rattle.dw_parse_expr.specs.Marks.{is_mark, mark_at, not_at, past_not, operator_of, made}
use Rattle.dw_parse_expr.specs.Reading.{Reader, trees, listed, tested, goes_on}
use Rattle.dw_parse_expr.proofs.MarkLemmas.{of_mark, no_mark, past_not_mark}

module _ (tokens : List Token) (inner : Reader) (k : ℕ) (a : Tree) (d j : ℕ) where
  pub made_on : (op : Operator) (b : Tree) (e l : ℕ) → operator_of (mark_at tokens j) ≡ Some op → inner k (j + 1) ≡ Some (b, e, l)
      → goes_on tokens inner k (a, d, j) (operator_of (mark_at tokens j)) ≡ Some (made op a b, suc (max d e), l)
  made_on op b e l o read_other = rw (o, read_other) refl

  pub null_on : mark_at tokens j ≡ Some mark.Is → mark_at tokens (past_not tokens (j + 1)) ≡ Some mark.Null
      → goes_on tokens inner k (a, d, j) (operator_of (mark_at tokens j))
      ≡ Some (t.is_null (not_at tokens (j + 1)) a, suc d, past_not tokens (j + 1) + 1)
  null_on e n =
      let o : operator_of (mark_at tokens j) ≡ None = ap operator_of e in
      rw (o, of_mark tokens mark.Is j e, of_mark tokens mark.Null (past_not tokens (j + 1)) n) refl

  pub cast_on : (kind : Kind) (l : ℕ) → mark_at tokens j ≡ Some mark.Cast → kind_at tokens (j + 1) ≡ Some (kind, l)
      → goes_on tokens inner k (a, d, j) (operator_of (mark_at tokens j)) ≡ Some (t.cast a kind, suc d, l)
  cast_on kind l e n =
      let o : operator_of (mark_at tokens j) ≡ None = ap operator_of e in
      rw (o, no_mark tokens mark.Is mark.Cast j e refl, of_mark tokens mark.Cast j e, n) refl

  tested_here : (m : Mark) → operator_of (Some m) ≡ None → is_mark mark.Is (Some m) ≡ false → is_mark mark.Cast (Some m) ≡ false
      → mark_at tokens (past_not tokens j) ≡ Some m
      → goes_on tokens inner k (a, d, j) (operator_of (mark_at tokens j)) ≡ tested tokens inner k (a, d, j)
  tested_here m none no_is no_cast h = on (past_not_mark tokens j m h)
    where
      on : (mark_at tokens j ≡ Some mark.Not) ⊎ (mark_at tokens j ≡ Some m)
          → goes_on tokens inner k (a, d, j) (operator_of (mark_at tokens j)) ≡ tested tokens inner k (a, d, j)
      on (inl e) = rw (ap operator_of e, no_mark tokens mark.Is mark.Not j e refl, no_mark tokens mark.Cast mark.Not j e refl) refl
      on (inr e) = rw (ap operator_of e ∙ none, no_mark tokens mark.Is m j e no_is, no_mark tokens mark.Cast m j e no_cast) refl

  pub between_on : (b c : Tree) (e l f n : ℕ) → mark_at tokens (past_not tokens j) ≡ Some mark.Between
      → inner k (past_not tokens j + 1) ≡ Some (b, e, l) → mark_at tokens l ≡ Some mark.And → inner k (l + 1) ≡ Some (c, f, n)
      → goes_on tokens inner k (a, d, j) (operator_of (mark_at tokens j)) ≡ Some (t.between (not_at tokens j) a b c, suc (max d (max e f)), n)
  between_on b c e l f n here low an high =
      tested_here mark.Between refl refl refl here
      ∙ rw (of_mark tokens mark.Between (past_not tokens j) here, low, of_mark tokens mark.And l an, high) refl

  pub like_on : (b : Tree) (e l : ℕ) → mark_at tokens (past_not tokens j) ≡ Some mark.Like → inner k (past_not tokens j + 1) ≡ Some (b, e, l)
      → goes_on tokens inner k (a, d, j) (operator_of (mark_at tokens j)) ≡ Some (t.like (not_at tokens j) a b, suc (max d e), l)
  like_on b e l here read_other =
      tested_here mark.Like refl refl refl here
      ∙ rw (no_mark tokens mark.Between mark.Like (past_not tokens j) here refl, of_mark tokens mark.Like (past_not tokens j) here, read_other) refl

  pub within_on : (items : List Tree) (e l : ℕ) → mark_at tokens (past_not tokens j) ≡ Some mark.In → mark_at tokens (past_not tokens j + 1) ≡ Some mark.Open
      → listed tokens (inner 8) (length tokens) [] 0 (past_not tokens j + 2) ≡ Some (items, e, l) → mark_at tokens l ≡ Some mark.Close
      → goes_on tokens inner k (a, d, j) (operator_of (mark_at tokens j)) ≡ Some (t.in_list (not_at tokens j) a (trees items), suc (max d e), l + 1)
  within_on items e l here o all z =
      tested_here mark.In refl refl refl here
      ∙ rw (
        no_mark tokens mark.Between mark.In (past_not tokens j) here refl,
        no_mark tokens mark.Like mark.In (past_not tokens j) here refl,
        of_mark tokens mark.In (past_not tokens j) here,
        of_mark tokens mark.Open (past_not tokens j + 1) o,
        all,
        of_mark tokens mark.Close l z,
      ) refl
