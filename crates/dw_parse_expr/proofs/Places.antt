-- Where a derivation begins and ends.
use Rattle.std.proofs.Common.{◌≡◌, ℕ, ◌+◌, ◌<◌, ◌≤◌, true, Option, Some, None, List, length, refl, ◌∙◌, ap, arith}
use Rattle.std.specs.Prelude.{codes}
use Rattle.dw_lex.specs.declared.token.Token.{Token}
use Rattle.dw_expr.specs.Tree.{Tree, Trees, Branches}
use Rattle.dw_parse_words.specs.Words.{name_at}
use Rattle.dw_parse_words.proofs.FoundLemmas.{digits_within}
use Rattle.dw_parse_words.proofs.KindLemmas.{kind_spans}
use Rattle.dw_parse_expr.specs.declared.marks.Mark.{Mark}
use Rattle.dw_parse_expr.specs.declared.marks.Mark.TheVariants as mark
use Rattle.dw_parse_expr.specs.Marks.{mark_at, past_not, prefix_level}
use Rattle.dw_parse_expr.specs.Grammar.{Derives, Listed, Branched, tighter, grouped, compared, prefixed, is_null, between, within, like, cast, null, true_word, false_word, number, text, date, column, qualified, inside, cast_as, coalesce, count_rows, count_distinct, aggregate, choice, choice_else, one, more, one_branch, more_branches}
use Rattle.dw_parse_expr.proofs.MarkLemmas.{mark_within, name_within, text_within, name_no_mark, digits_no_mark, text_mark, past_not_after, word_name, cast_free, coalesce_free, date_free, count_free, aggregate_is_name}
use Rattle.dw_parse_expr.proofs.LevelLemmas.{may_begin, begins_before}

-- what is derived is at least one deep, ends after its beginning, and within the tokens
abbrev pub Spans : List Token → ℕ → ℕ → ℕ → Type 0
Spans tokens i d j = (1 ≤ d) × (i < j) × (j ≤ length tokens)

mutual
  pub spans : (tokens : List Token) {k i d j : ℕ} {a : Tree} → Derives tokens k i a d j → Spans tokens i d j
  spans tokens (tighter h few) = spans tokens h
  spans tokens (grouped a g l o b) = let x = spans tokens a in let y = spans tokens b in (omega arith, omega arith, omega arith)
  spans tokens (compared a l o b) = let x = spans tokens a in let y = spans tokens b in (omega arith, omega arith, omega arith)
  spans tokens (prefixed p a) = let x = spans tokens a in (omega arith, omega arith, omega arith)
  spans tokens (is_null {j} a e n) =
      let x = spans tokens a in let y = mark_within tokens (past_not tokens (j + 1)) mark.Null n in
      let z = past_not_after tokens (j + 1) in (omega arith, omega arith, omega arith)
  spans tokens (between {j} a m b e c) =
      let x = spans tokens a in let y = spans tokens b in let z = spans tokens c in
      let w = past_not_after tokens j in (omega arith, omega arith, omega arith)
  spans tokens (within {j} {l} a m o bs e) =
      let x = spans tokens a in let y = listed_spans tokens bs in let z = mark_within tokens l mark.Close e in
      let w = past_not_after tokens j in (omega arith, omega arith, omega arith)
  spans tokens (like {j} a m b) =
      let x = spans tokens a in let y = spans tokens b in let w = past_not_after tokens j in (omega arith, omega arith, omega arith)
  spans tokens (cast a m n) =
      let x = spans tokens a in let y = kind_spans tokens n in (omega arith, omega arith, omega arith)
  spans tokens (null {i} e) = let x = mark_within tokens i mark.Null e in (omega arith, omega arith, omega arith)
  spans tokens (true_word {i} e) = let x = mark_within tokens i mark.True e in (omega arith, omega arith, omega arith)
  spans tokens (false_word {i} e) = let x = mark_within tokens i mark.False e in (omega arith, omega arith, omega arith)
  spans tokens (number {i} {n} e) = let x = digits_within tokens i n e in (omega arith, omega arith, omega arith)
  spans tokens (text {i} {said} e) = let x = text_within tokens i said e in (omega arith, omega arith, omega arith)
  spans tokens (date {i} {said} w e) = let x = text_within tokens (i + 1) said e in (omega arith, omega arith, omega arith)
  spans tokens (column {i} {name} e) = let x = name_within tokens i name e in (omega arith, omega arith, omega arith)
  spans tokens (qualified {i} {name} e m n) = let x = name_within tokens (i + 2) name n in (omega arith, omega arith, omega arith)
  spans tokens (inside {j} e a n) =
      let x = spans tokens a in let y = mark_within tokens j mark.Close n in (omega arith, omega arith, omega arith)
  spans tokens (cast_as {l} w o a m n z) =
      let x = spans tokens a in let v = kind_spans tokens n in let y = mark_within tokens l mark.Close z in (omega arith, omega arith, omega arith)
  spans tokens (coalesce {j} w o bs n) =
      let x = listed_spans tokens bs in let y = mark_within tokens j mark.Close n in (omega arith, omega arith, omega arith)
  spans tokens (count_rows {i} w o s n) = let y = mark_within tokens (i + 3) mark.Close n in (omega arith, omega arith, omega arith)
  spans tokens (count_distinct {j} w o s a n) =
      let x = spans tokens a in let y = mark_within tokens j mark.Close n in (omega arith, omega arith, omega arith)
  spans tokens (aggregate {j} w o a n) =
      let x = spans tokens a in let y = mark_within tokens j mark.Close n in (omega arith, omega arith, omega arith)
  spans tokens (choice {j} e m bs n) =
      let x = branched_spans tokens bs in let y = mark_within tokens j mark.End n in (omega arith, omega arith, omega arith)
  spans tokens (choice_else {l} e m bs f c n) =
      let x = branched_spans tokens bs in let y = mark_within tokens l mark.End n in let z = spans tokens c in
      (omega arith, omega arith, omega arith)

  pub listed_spans : (tokens : List Token) {i d j : ℕ} {bs : Trees} → Listed tokens i bs d j → Spans tokens i d j
  listed_spans tokens (one h) = spans tokens h
  listed_spans tokens (more h m hs) =
      let x = spans tokens h in let y = listed_spans tokens hs in (omega arith, omega arith, omega arith)

  pub branched_spans : (tokens : List Token) {i d j : ℕ} {arms : Branches} → Branched tokens i arms d j → Spans tokens i d j
  branched_spans tokens (one_branch a m b) = let x = spans tokens a in let y = spans tokens b in (omega arith, omega arith, omega arith)
  branched_spans tokens (more_branches a m b n hs) =
      let x = spans tokens a in let y = spans tokens b in let z = branched_spans tokens hs in (omega arith, omega arith, omega arith)

-- an expression of a level begins with no operator of a looser one, nor with a star or the word distinct
abbrev pub Starts : List Token → ℕ → ℕ → Type 0
Starts tokens k i = (prefix_level (mark_at tokens i) ≤ k) × (may_begin (mark_at tokens i) ≡ true)

starts_at : (tokens : List Token) (i : ℕ) (found : Option Mark) → mark_at tokens i ≡ found → prefix_level found ≡ 0 → may_begin found ≡ true → Starts tokens 0 i
starts_at tokens i found e p q = (let z = ap prefix_level e ∙ p in omega arith, ap may_begin e ∙ q)

starts_name : (tokens : List Token) (i : ℕ) (name : List ℕ) → name_at tokens i ≡ Some name → Starts tokens 0 i
starts_name tokens i name e = starts_at tokens i None (name_no_mark tokens i name e) refl refl

pub starts : (tokens : List Token) {k i d j : ℕ} {a : Tree} → Derives tokens k i a d j → Starts tokens k i
starts tokens (tighter h few) = let x = starts tokens h in let y = x.0 in (omega arith, x.1)
starts tokens (grouped a g l o b) = starts tokens a
starts tokens (compared a l o b) = let x = starts tokens a in let y = x.0 in (omega arith, x.1)
starts tokens (prefixed {k} {i} p a) = (omega arith, begins_before (mark_at tokens i) k p)
starts tokens (is_null a e n) = let x = starts tokens a in let y = x.0 in (omega arith, x.1)
starts tokens (between a m b e c) = let x = starts tokens a in let y = x.0 in (omega arith, x.1)
starts tokens (within a m o bs e) = let x = starts tokens a in let y = x.0 in (omega arith, x.1)
starts tokens (like a m b) = let x = starts tokens a in let y = x.0 in (omega arith, x.1)
starts tokens (cast a m n) = starts tokens a
starts tokens (null {i} e) = starts_at tokens i (Some mark.Null) e refl refl
starts tokens (true_word {i} e) = starts_at tokens i (Some mark.True) e refl refl
starts tokens (false_word {i} e) = starts_at tokens i (Some mark.False) e refl refl
starts tokens (number {i} {n} e) = starts_at tokens i None (digits_no_mark tokens i n e) refl refl
starts tokens (text {i} {said} e) = starts_at tokens i (Some mark.Text) (text_mark tokens i said e) refl refl
starts tokens (date {i} w e) = let n = word_name (codes "date") tokens i date_free w in starts_name tokens i n.0 n.1
starts tokens (column {i} {name} e) = starts_name tokens i name e
starts tokens (qualified {i} {source} e m n) = starts_name tokens i source e
starts tokens (inside {i} e a n) = starts_at tokens i (Some mark.Open) e refl refl
starts tokens (cast_as {i} w o a m n z) = let n = word_name (codes "cast") tokens i cast_free w in starts_name tokens i n.0 n.1
starts tokens (coalesce {i} w o bs n) = let n = word_name (codes "coalesce") tokens i coalesce_free w in starts_name tokens i n.0 n.1
starts tokens (count_rows {i} w o s n) = let n = word_name (codes "count") tokens i count_free w in starts_name tokens i n.0 n.1
starts tokens (count_distinct {i} w o s a n) = let n = word_name (codes "count") tokens i count_free w in starts_name tokens i n.0 n.1
starts tokens (aggregate {i} {function} w o a n) = let n = aggregate_is_name tokens i function w in starts_name tokens i n.0 n.1
starts tokens (choice {i} e m bs n) = starts_at tokens i (Some mark.Case) e refl refl
starts tokens (choice_else {i} e m bs f c n) = starts_at tokens i (Some mark.Case) e refl refl
