-- What is read at an atom.
use Rattle.std.proofs.Common.{◌≡◌, ℕ, suc, ◌+◌, ◌<◌, max, Bool, true, false, ◌&&◌, Some, None, List, [], length, refl, ◌∙◌}
use Rattle.std.specs.Prelude.{codes, pos}
use Rattle.dw_lex.specs.declared.token.Token.{Token}
use Rattle.dw_value.specs.declared.kinds.Kind.{Kind}
use Rattle.dw_expr.specs.declared.trees.Aggregate.{Aggregate}
use Rattle.dw_expr.specs.declared.trees.Aggregate.TheVariants as function
use Rattle.dw_expr.specs.declared.trees.Literal.TheVariants as l
use Rattle.dw_expr.specs.Tree as t
use Rattle.dw_expr.specs.Tree.{Tree}
use Rattle.dw_parse_words.specs.Words.{word_at, name_at}
use Rattle.dw_parse_words.specs.Literals.{digits_at, text_at}
use Rattle.dw_parse_words.specs.KindReading.{kind_at}
use Rattle.dw_parse_words.proofs.FoundLemmas.{one_word, meant_no_word, text_no_digits}
use Rattle.dw_parse_expr.specs.declared.marks.Mark.{Mark}
use Rattle.dw_parse_expr.specs.declared.marks.Mark.TheVariants as mark
use Rattle.dw_parse_expr.specs.Marks.{marked, is_mark, mark_at, aggregate_words, aggregate_at, level_of}
use Rattle.dw_parse_expr.specs.Reading.{Reader, trees, branches, listed, armed, case_at, marked_atom, named, call_at, atom_at}
use Rattle.dw_parse_expr.proofs.MarkLemmas.{of_mark, no_mark, mark_no_name, mark_no_digits, mark_no_text, digits_no_name, text_mark, word_name, cast_free, coalesce_free, date_free, count_free, aggregate_is_name, count_aggregate}
use Rattle.dw_parse_expr.proofs.LevelLemmas.{ends_name, may_begin, no_star}

module _ (tokens : List Token) (inner : Reader) (i : ℕ) where
  marked_here : (m : Mark) → mark_at tokens i ≡ Some m → is_mark mark.Text (Some m) ≡ false → atom_at tokens inner i ≡ marked_atom tokens inner i
  marked_here m e other = rw (mark_no_name tokens i m e, mark_no_digits tokens i m e, mark_no_text tokens i m e other) refl

  named_here : (name : List ℕ) → name_at tokens i ≡ Some name → atom_at tokens inner i ≡ named tokens inner i name
  named_here name e = rw e refl

  pub null_atom : mark_at tokens i ≡ Some mark.Null → atom_at tokens inner i ≡ Some (t.literal l.Null, 1, i + 1)
  null_atom e = marked_here mark.Null e refl ∙ rw (of_mark tokens mark.Null i e) refl

  pub true_atom : mark_at tokens i ≡ Some mark.True → atom_at tokens inner i ≡ Some (t.literal (l.Truth true), 1, i + 1)
  true_atom e =
      marked_here mark.True e refl ∙ rw (no_mark tokens mark.Null mark.True i e refl, of_mark tokens mark.True i e) refl

  pub false_atom : mark_at tokens i ≡ Some mark.False → atom_at tokens inner i ≡ Some (t.literal (l.Truth false), 1, i + 1)
  false_atom e =
      marked_here mark.False e refl
      ∙ rw (no_mark tokens mark.Null mark.False i e refl, no_mark tokens mark.True mark.False i e refl, of_mark tokens mark.False i e) refl

  pub number_atom : (n : ℕ × ℕ) → digits_at tokens i ≡ Some n → atom_at tokens inner i ≡ Some (t.literal (l.Number (pos n.0) n.1), 1, i + 1)
  number_atom n e = rw (digits_no_name tokens i n e, e) refl

  pub text_atom : (said : List ℕ) → text_at tokens i ≡ Some said → atom_at tokens inner i ≡ Some (t.literal (l.Words said), 1, i + 1)
  text_atom said e =
      rw (mark_no_name tokens i mark.Text (text_mark tokens i said e), text_no_digits tokens i said e, e) refl

  pub inside_atom : (a : Tree) (d j : ℕ) → mark_at tokens i ≡ Some mark.Open → inner 8 (i + 1) ≡ Some (a, d, j) → mark_at tokens j ≡ Some mark.Close
      → atom_at tokens inner i ≡ Some (a, suc d, j + 1)
  inside_atom a d j e read_inside z =
      marked_here mark.Open e refl
      ∙ rw (
        no_mark tokens mark.Null mark.Open i e refl,
        no_mark tokens mark.True mark.Open i e refl,
        no_mark tokens mark.False mark.Open i e refl,
        of_mark tokens mark.Open i e,
        read_inside,
        of_mark tokens mark.Close j z,
      ) refl

  -- CASE
  case_head : mark_at tokens i ≡ Some mark.Case → marked_atom tokens inner i ≡ case_at tokens inner i
  case_head e =
      rw (
        no_mark tokens mark.Null mark.Case i e refl,
        no_mark tokens mark.True mark.Case i e refl,
        no_mark tokens mark.False mark.Case i e refl,
        no_mark tokens mark.Open mark.Case i e refl,
        of_mark tokens mark.Case i e,
      ) refl

  pub choice_atom : (items : List (Tree × Tree)) (d j : ℕ) → mark_at tokens i ≡ Some mark.Case → mark_at tokens (i + 1) ≡ Some mark.When
      → armed tokens inner (length tokens) [] 0 (i + 2) ≡ Some (items, d, j) → mark_at tokens j ≡ Some mark.End
      → atom_at tokens inner i ≡ Some (t.choice (branches items), suc d, j + 1)
  choice_atom items d j e w all z =
      marked_here mark.Case e refl ∙ case_head e
      ∙ rw (of_mark tokens mark.When (i + 1) w, all, of_mark tokens mark.End j z) refl

  pub choice_else_atom : (items : List (Tree × Tree)) (c : Tree) (d j e n : ℕ) → mark_at tokens i ≡ Some mark.Case → mark_at tokens (i + 1) ≡ Some mark.When
      → armed tokens inner (length tokens) [] 0 (i + 2) ≡ Some (items, d, j) → mark_at tokens j ≡ Some mark.Else
      → inner 8 (j + 1) ≡ Some (c, e, n) → mark_at tokens n ≡ Some mark.End
      → atom_at tokens inner i ≡ Some (t.choice_else (branches items) c, suc (max d e), n + 1)
  choice_else_atom items c d j e n first w all other read_other z =
      marked_here mark.Case first refl ∙ case_head first
      ∙ rw (of_mark tokens mark.When (i + 1) w, all, no_mark tokens mark.End mark.Else j other refl, of_mark tokens mark.Else j other, read_other, of_mark tokens mark.End n z) refl

  -- names
  pub column_atom : (name : List ℕ) → name_at tokens i ≡ Some name → 0 < level_of (mark_at tokens (i + 1)) → atom_at tokens inner i ≡ Some (t.column None name, 1, i + 1)
  column_atom name e stop =
      let n = ends_name tokens (i + 1) stop in
      named_here name e ∙ rw (n.0, n.1, n.2) refl

  pub qualified_atom : (source name : List ℕ) → name_at tokens i ≡ Some source → mark_at tokens (i + 1) ≡ Some mark.Dot → name_at tokens (i + 2) ≡ Some name
      → atom_at tokens inner i ≡ Some (t.column (Some source) name, 1, i + 3)
  qualified_atom source name e dot f = named_here source e ∙ rw (of_mark tokens mark.Dot (i + 1) dot, f) refl

  pub date_atom : (said : List ℕ) → word_at (codes "date") tokens i ≡ true → text_at tokens (i + 1) ≡ Some said
      → atom_at tokens inner i ≡ Some (t.literal (l.Date said), 1, i + 2)
  date_atom said w e =
      let n = word_name (codes "date") tokens i date_free w in
      let m = text_mark tokens (i + 1) said e in
      named_here n.0 n.1
      ∙ rw (no_mark tokens mark.Dot mark.Text (i + 1) m refl, no_mark tokens mark.Open mark.Text (i + 1) m refl, of_mark tokens mark.Text (i + 1) m, w, e) refl

  -- calls
  call_here : (name : List ℕ) → name_at tokens i ≡ Some name → mark_at tokens (i + 1) ≡ Some mark.Open → atom_at tokens inner i ≡ call_at tokens inner i
  call_here name e o = named_here name e ∙ rw (no_mark tokens mark.Dot mark.Open (i + 1) o refl, of_mark tokens mark.Open (i + 1) o) refl

  pub cast_atom : (a : Tree) (kind : Kind) (d j n : ℕ) → word_at (codes "cast") tokens i ≡ true → mark_at tokens (i + 1) ≡ Some mark.Open
      → inner 8 (i + 2) ≡ Some (a, d, j) → mark_at tokens j ≡ Some mark.As → kind_at tokens (j + 1) ≡ Some (kind, n) → mark_at tokens n ≡ Some mark.Close
      → atom_at tokens inner i ≡ Some (t.cast a kind, suc d, n + 1)
  cast_atom a kind d j n w o read_inside s k z =
      let name = word_name (codes "cast") tokens i cast_free w in
      call_here name.0 name.1 o ∙ rw (w, read_inside, of_mark tokens mark.As j s, k, of_mark tokens mark.Close n z) refl

  pub coalesce_atom : (items : List Tree) (d j : ℕ) → word_at (codes "coalesce") tokens i ≡ true → mark_at tokens (i + 1) ≡ Some mark.Open
      → listed tokens (inner 8) (length tokens) [] 0 (i + 2) ≡ Some (items, d, j) → mark_at tokens j ≡ Some mark.Close
      → atom_at tokens inner i ≡ Some (t.coalesce (trees items), suc d, j + 1)
  coalesce_atom items d j w o all z =
      let name = word_name (codes "coalesce") tokens i coalesce_free w in
      let other = one_word (codes "coalesce") (codes "cast") tokens i refl w in
      call_here name.0 name.1 o ∙ rw (other, w, all, of_mark tokens mark.Close j z) refl

  pub rows_atom : word_at (codes "count") tokens i ≡ true → mark_at tokens (i + 1) ≡ Some mark.Open → mark_at tokens (i + 2) ≡ Some mark.Star
      → mark_at tokens (i + 3) ≡ Some mark.Close → atom_at tokens inner i ≡ Some (t.count_rows, 1, i + 4)
  rows_atom w o s z =
      let name = word_name (codes "count") tokens i count_free w in
      let cast = one_word (codes "count") (codes "cast") tokens i refl w in
      let coalesce = one_word (codes "count") (codes "coalesce") tokens i refl w in
      call_here name.0 name.1 o
      ∙ rw (cast, coalesce, count_aggregate tokens i w, w, of_mark tokens mark.Star (i + 2) s, of_mark tokens mark.Close (i + 3) z) refl

  pub distinct_atom : (a : Tree) (d j : ℕ) → word_at (codes "count") tokens i ≡ true → mark_at tokens (i + 1) ≡ Some mark.Open → mark_at tokens (i + 2) ≡ Some mark.Distinct
      → inner 8 (i + 3) ≡ Some (a, d, j) → mark_at tokens j ≡ Some mark.Close → atom_at tokens inner i ≡ Some (t.aggregate function.CountDistinct a, suc d, j + 1)
  distinct_atom a d j w o s read_inside z =
      let name = word_name (codes "count") tokens i count_free w in
      let cast = one_word (codes "count") (codes "cast") tokens i refl w in
      let coalesce = one_word (codes "count") (codes "coalesce") tokens i refl w in
      call_here name.0 name.1 o
      ∙ rw (cast, coalesce, count_aggregate tokens i w, w, no_mark tokens mark.Star mark.Distinct (i + 2) s refl, of_mark tokens mark.Distinct (i + 2) s, read_inside, of_mark tokens mark.Close j z) refl

  and_no : (x y : Bool) → y ≡ false → (x && y) ≡ false
  and_no true y e = e
  and_no false y e = refl

  pub aggregate_atom : (a : Tree) (f : Aggregate) (d j : ℕ) → aggregate_at tokens i ≡ Some f → mark_at tokens (i + 1) ≡ Some mark.Open
      → may_begin (mark_at tokens (i + 2)) ≡ true → inner 8 (i + 2) ≡ Some (a, d, j) → mark_at tokens j ≡ Some mark.Close
      → atom_at tokens inner i ≡ Some (t.aggregate f a, suc d, j + 1)
  aggregate_atom a f d j is o begin read_inside z =
      let name = aggregate_is_name tokens i f is in
      let cast = meant_no_word aggregate_words (codes "cast") tokens i f refl is in
      let coalesce = meant_no_word aggregate_words (codes "coalesce") tokens i f refl is in
      let s = no_star (mark_at tokens (i + 2)) begin in
      let star = and_no (word_at (codes "count") tokens i) (marked tokens mark.Star (i + 2)) s.0 in
      let distinct = and_no (word_at (codes "count") tokens i) (marked tokens mark.Distinct (i + 2)) s.1 in
      call_here name.0 name.1 o
      ∙ rw (cast, coalesce, is, star, distinct, read_inside, of_mark tokens mark.Close j z) refl
