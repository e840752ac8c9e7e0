-- What is derived is read.
use Rattle.std.proofs.Common.{◌≡◌, ℕ, suc, ◌+◌, ◌<◌, ◌≤◌, max, true, false, Some, None, List, [], ◌∷◌, ◌++◌, length, refl, ◌∙◌, ap, append_assoc, arith}
use Rattle.std.specs.Prelude.{pos}
use Rattle.dw_lex.specs.declared.token.Token.{Token}
use Rattle.dw_expr.specs.declared.trees.Aggregate.TheVariants as function
use Rattle.dw_expr.specs.declared.trees.Literal.TheVariants as l
use Rattle.dw_expr.specs.Tree as t
use Rattle.dw_expr.specs.Tree.{Tree, Trees, Branches}
use Rattle.dw_parse_words.proofs.KindLemmas.{kind_complete}
use Rattle.dw_parse_expr.specs.declared.marks.Mark.TheVariants as mark
use Rattle.dw_parse_expr.specs.Marks.{marked, mark_at, not_at, past_not, level_of, made, prefix_made}
use Rattle.dw_parse_expr.specs.Grammar.{Derives, Listed, Branched, tighter, grouped, compared, prefixed, is_null, between, within, like, cast, null, true_word, false_word, number, text, date, column, qualified, inside, cast_as, coalesce, count_rows, count_distinct, aggregate, choice, choice_else, one, more, one_branch, more_branches}
use Rattle.dw_parse_expr.specs.Reading.{Found, below, listed, arm_at, armed, atom_at, read}
use Rattle.dw_parse_expr.proofs.MarkLemmas.{of_mark, no_mark, no_open_sign, past_not_level}
use Rattle.dw_parse_expr.proofs.LevelLemmas.{before}
use Rattle.dw_parse_expr.proofs.Places.{spans, starts}
use Rattle.dw_parse_expr.proofs.Steps.{unroll_atom, unroll_prefix}
use Rattle.dw_parse_expr.proofs.Items.{items_of, trees_items, arms_of, branches_items, below_limit, listed_last, listed_more, armed_last, armed_more, same_several, same_arms}
use Rattle.dw_parse_expr.proofs.AtomLemmas as atoms
use Rattle.dw_parse_expr.proofs.GoesOn as on
use Rattle.dw_parse_expr.proofs.Comes.{Comes, settles, comes, comes_up, comes_on, comes_once, below_room, below_less}

beyond : (k m : ℕ) → k < m → (m ≡ suc k → ⊥) → suc k < m
beyond k m h other = omega arith

all_listed : (tokens : List Token) (m i d j : ℕ) (bs : Trees)
    → listed tokens (read tokens m 8) (length tokens) [] 0 i ≡ Some ([] ++ items_of bs, max 0 d, j)
    → listed tokens (read tokens m 8) (length tokens) [] 0 i ≡ Some (items_of bs, d, j)
all_listed tokens m i d j bs e = e ∙ same_several j refl (omega arith)

all_armed : (tokens : List Token) (m i d j : ℕ) (arms : Branches)
    → armed tokens (read tokens m) (length tokens) [] 0 i ≡ Some ([] ++ arms_of arms, max 0 d, j)
    → armed tokens (read tokens m) (length tokens) [] 0 i ≡ Some (arms_of arms, d, j)
all_armed tokens m i d j arms e = e ∙ same_arms j refl (omega arith)

-- an atom that is read
atom_comes : (tokens : List Token) (m i : ℕ) (r : Found) → 0 < m → atom_at tokens (read tokens (below m)) i ≡ Some r → Comes tokens m 0 i r
atom_comes tokens m i r some e = comes tokens r (unroll_atom tokens m i some ∙ e) refl

arm_arrives : (tokens : List Token) (m i d j e l : ℕ) (a b : Tree) → read tokens m 8 i ≡ Some (a, d, j) → mark_at tokens j ≡ Some mark.Then
    → read tokens m 8 (j + 1) ≡ Some (b, e, l) → arm_at tokens (read tokens m) i ≡ Some ((a, b), max d e, l)
arm_arrives tokens m i d j e l a b x u y = rw (x, of_mark tokens mark.Then j u, y) refl

mutual
  -- what is derived is come to
  pub arrives : (tokens : List Token) {k i d j : ℕ} {a : Tree} → Derives tokens k i a d j → (m : ℕ) → d ≤ m
      → below k < level_of (mark_at tokens j) → Comes tokens m k i (a, d, j)
  arrives tokens (tighter {k} {i} {d} {j} {a} h few) m room stop =
      let e = settles tokens (arrives tokens h m room (below_less tokens k _ stop)) stop in
      comes_up tokens (a, d, j) e (spans tokens h).0 room (starts tokens h).0
  arrives tokens (grouped {k} {i} {d} {j} {e} {l} {a} {b} {op} left g here o right) m room stop =
      let c = arrives tokens left m (omega arith) (omega arith) in
      let r = settles tokens (arrives tokens right (below m) (below_room tokens e m (omega arith)) (below_less tokens k _ stop)) stop in
      comes_on tokens (a, d, j) (made op a b, suc (max d e), l) c g room (omega arith) here
      (on.made_on tokens (read tokens (below m)) k a d j op b e l o r)
  arrives tokens (compared {i} {d} {j} {e} {l} {a} {b} {op} left here o right) m room stop =
      let c = settles tokens (arrives tokens left m (omega arith) (omega arith)) (omega arith) in
      let r = settles tokens (arrives tokens right (below m) (below_room tokens e m (omega arith)) (omega arith)) stop in
      comes_once tokens (a, d, j) (made op a b, suc (max d e), l) c (starts tokens left).0 room (omega arith) here
      (on.made_on tokens (read tokens (below m)) 4 a d j op b e l o r)
  arrives tokens (prefixed {k} {i} {d} {j} {a} p right) m room stop =
      let f = before (mark_at tokens i) k p in
      let past : suc k < level_of (mark_at tokens j) = beyond k _ stop (f.apart (mark_at tokens j)) in
      let r = settles tokens (arrives tokens right (below m) (below_room tokens d m room) stop) past in
      comes tokens (prefix_made (mark_at tokens i) a, suc d, j)
      (unroll_prefix tokens m k i (omega arith) p ∙ rw r refl) f.single
  arrives tokens (is_null {i} {d} {j} {a} left e n) m room stop =
      let here : level_of (mark_at tokens j) ≡ 5 = ap level_of e in
      let c = settles tokens (arrives tokens left m (omega arith) (omega arith)) (omega arith) in
      comes_once tokens (a, d, j) (t.is_null (not_at tokens (j + 1)) a, suc d, past_not tokens (j + 1) + 1) c (starts tokens left).0 room (omega arith) here
      (on.null_on tokens (read tokens (below m)) 4 a d j e n)
  arrives tokens (between {i} {d} {j} {e} {l} {f} {n} {a} {b} {c} left here low an high) m room stop =
      let five : level_of (mark_at tokens j) ≡ 5 = past_not_level tokens j mark.Between refl here in
      let seven : level_of (mark_at tokens l) ≡ 7 = ap level_of an in
      let x = settles tokens (arrives tokens left m (omega arith) (omega arith)) (omega arith) in
      let y = settles tokens (arrives tokens low (below m) (below_room tokens e m (omega arith)) (omega arith)) (omega arith) in
      let z = settles tokens (arrives tokens high (below m) (below_room tokens f m (omega arith)) (omega arith)) stop in
      comes_once tokens (a, d, j) (t.between (not_at tokens j) a b c, suc (max d (max e f)), n) x (starts tokens left).0 room (omega arith) five
      (on.between_on tokens (read tokens (below m)) 4 a d j b c e l f n here y an z)
  arrives tokens (within {i} {d} {j} {e} {l} {a} {bs} left here o all z) m room stop =
      let five : level_of (mark_at tokens j) ≡ 5 = past_not_level tokens j mark.In refl here in
      let ten : level_of (mark_at tokens l) ≡ 10 = ap level_of z in
      let x = settles tokens (arrives tokens left m (omega arith) (omega arith)) (omega arith) in
      let y = all_listed tokens (below m) (past_not tokens j + 2) e l bs (listed_arrives tokens all (below m) (length tokens) 0 [] (below_room tokens e m (omega arith)) (omega arith) (omega arith)
      (no_mark tokens mark.Comma mark.Close l z refl)) in
      comes_once tokens (a, d, j) (t.in_list (not_at tokens j) a bs, suc (max d e), l + 1) x (starts tokens left).0 room (omega arith) five
      (on.within_on tokens (read tokens (below m)) 4 a d j (items_of bs) e l here o y z
      ∙ ap (λ all. Some (t.in_list (not_at tokens j) a all, suc (max d e), l + 1)) (trees_items bs))
  arrives tokens (like {i} {d} {j} {e} {l} {a} {b} left here right) m room stop =
      let five : level_of (mark_at tokens j) ≡ 5 = past_not_level tokens j mark.Like refl here in
      let x = settles tokens (arrives tokens left m (omega arith) (omega arith)) (omega arith) in
      let y = settles tokens (arrives tokens right (below m) (below_room tokens e m (omega arith)) (omega arith)) stop in
      comes_once tokens (a, d, j) (t.like (not_at tokens j) a b, suc (max d e), l) x (starts tokens left).0 room (omega arith) five
      (on.like_on tokens (read tokens (below m)) 4 a d j b e l here y)
  arrives tokens (cast {i} {d} {j} {l} {a} {kind} left e n) m room stop =
      let here : level_of (mark_at tokens j) ≡ 1 = ap level_of e in
      let c = arrives tokens left m (omega arith) (omega arith) in
      let kind_here = kind_complete tokens n (no_open_sign tokens l stop) in
      comes_on tokens (a, d, j) (t.cast a kind, suc d, l) c refl room (omega arith) here
      (on.cast_on tokens (read tokens (below m)) 0 a d j kind l e kind_here)
  arrives tokens (null {i} e) m room stop =
      atom_comes tokens m i (t.literal l.Null, 1, i + 1) (omega arith) (atoms.null_atom tokens (read tokens (below m)) i e)
  arrives tokens (true_word {i} e) m room stop =
      atom_comes tokens m i (t.literal (l.Truth true), 1, i + 1) (omega arith) (atoms.true_atom tokens (read tokens (below m)) i e)
  arrives tokens (false_word {i} e) m room stop =
      atom_comes tokens m i (t.literal (l.Truth false), 1, i + 1) (omega arith) (atoms.false_atom tokens (read tokens (below m)) i e)
  arrives tokens (number {i} {n} e) m room stop =
      atom_comes tokens m i (t.literal (l.Number (pos n.0) n.1), 1, i + 1) (omega arith) (atoms.number_atom tokens (read tokens (below m)) i n e)
  arrives tokens (text {i} {said} e) m room stop =
      atom_comes tokens m i (t.literal (l.Words said), 1, i + 1) (omega arith) (atoms.text_atom tokens (read tokens (below m)) i said e)
  arrives tokens (date {i} {said} w e) m room stop =
      atom_comes tokens m i (t.literal (l.Date said), 1, i + 2) (omega arith) (atoms.date_atom tokens (read tokens (below m)) i said w e)
  arrives tokens (column {i} {name} e) m room stop =
      atom_comes tokens m i (t.column None name, 1, i + 1) (omega arith) (atoms.column_atom tokens (read tokens (below m)) i name e stop)
  arrives tokens (qualified {i} {source} {name} e dot f) m room stop =
      atom_comes tokens m i (t.column (Some source) name, 1, i + 3) (omega arith) (atoms.qualified_atom tokens (read tokens (below m)) i source name e dot f)
  arrives tokens (inside {i} {d} {j} {a} o h z) m room stop =
      let ten : level_of (mark_at tokens j) ≡ 10 = ap level_of z in
      let y = settles tokens (arrives tokens h (below m) (below_room tokens d m room) (omega arith)) (omega arith) in
      atom_comes tokens m i (a, suc d, j + 1) (omega arith) (atoms.inside_atom tokens (read tokens (below m)) i a d j o y z)
  arrives tokens (cast_as {i} {d} {j} {l = n} {a} {kind} w o h s k z) m room stop =
      let ten : level_of (mark_at tokens j) ≡ 10 = ap level_of s in
      let last : level_of (mark_at tokens n) ≡ 10 = ap level_of z in
      let y = settles tokens (arrives tokens h (below m) (below_room tokens d m room) (omega arith)) (omega arith) in
      let kind_here = kind_complete tokens k (no_open_sign tokens n (omega arith)) in
      atom_comes tokens m i (t.cast a kind, suc d, n + 1) (omega arith) (atoms.cast_atom tokens (read tokens (below m)) i a kind d j n w o y s kind_here z)
  arrives tokens (coalesce {i} {d} {j} {bs} w o all z) m room stop =
      let ten : level_of (mark_at tokens j) ≡ 10 = ap level_of z in
      let y = all_listed tokens (below m) (i + 2) d j bs (listed_arrives tokens all (below m) (length tokens) 0 [] (below_room tokens d m room) (omega arith) (omega arith)
      (no_mark tokens mark.Comma mark.Close j z refl)) in
      atom_comes tokens m i (t.coalesce bs, suc d, j + 1) (omega arith)
      (atoms.coalesce_atom tokens (read tokens (below m)) i (items_of bs) d j w o y z ∙ ap (λ all. Some (t.coalesce all, suc d, j + 1)) (trees_items bs))
  arrives tokens (count_rows {i} w o s z) m room stop =
      atom_comes tokens m i (t.count_rows, 1, i + 4) (omega arith) (atoms.rows_atom tokens (read tokens (below m)) i w o s z)
  arrives tokens (count_distinct {i} {d} {j} {a} w o s h z) m room stop =
      let ten : level_of (mark_at tokens j) ≡ 10 = ap level_of z in
      let y = settles tokens (arrives tokens h (below m) (below_room tokens d m room) (omega arith)) (omega arith) in
      atom_comes tokens m i (t.aggregate function.CountDistinct a, suc d, j + 1) (omega arith) (atoms.distinct_atom tokens (read tokens (below m)) i a d j w o s y z)
  arrives tokens (aggregate {i} {d} {j} {a} {function = f} w o h z) m room stop =
      let ten : level_of (mark_at tokens j) ≡ 10 = ap level_of z in
      let y = settles tokens (arrives tokens h (below m) (below_room tokens d m room) (omega arith)) (omega arith) in
      atom_comes tokens m i (t.aggregate f a, suc d, j + 1) (omega arith) (atoms.aggregate_atom tokens (read tokens (below m)) i a f d j w o (starts tokens h).1 y z)
  arrives tokens (choice {i} {d} {j} {arms} c w all z) m room stop =
      let ten : level_of (mark_at tokens j) ≡ 10 = ap level_of z in
      let y = all_armed tokens (below m) (i + 2) d j arms (branched_arrives tokens all (below m) (length tokens) 0 [] (below_room tokens d m room) (omega arith) (omega arith)
      (no_mark tokens mark.When mark.End j z refl)) in
      atom_comes tokens m i (t.choice arms, suc d, j + 1) (omega arith)
      (atoms.choice_atom tokens (read tokens (below m)) i (arms_of arms) d j c w y z ∙ ap (λ all. Some (t.choice all, suc d, j + 1)) (branches_items arms))
  arrives tokens (choice_else {i} {d} {j} {e} {l = n} {arms} {c} first w all z h g) m room stop =
      let ten : level_of (mark_at tokens j) ≡ 10 = ap level_of z in
      let last : level_of (mark_at tokens n) ≡ 10 = ap level_of g in
      let y = all_armed tokens (below m) (i + 2) d j arms (branched_arrives tokens all (below m) (length tokens) 0 [] (below_room tokens d m (omega arith)) (omega arith) (omega arith)
      (no_mark tokens mark.When mark.Else j z refl)) in
      let x = settles tokens (arrives tokens h (below m) (below_room tokens e m (omega arith)) (omega arith)) (omega arith) in
      atom_comes tokens m i (t.choice_else arms c, suc (max d e), n + 1) (omega arith)
      (atoms.choice_else_atom tokens (read tokens (below m)) i (arms_of arms) c d j e n first w y z x g
      ∙ ap (λ all. Some (t.choice_else all c, suc (max d e), n + 1)) (branches_items arms))

  pub listed_arrives : (tokens : List Token) {i d j : ℕ} {bs : Trees} → Listed tokens i bs d j
      → (m limit e : ℕ) (done : List Tree) → d ≤ m → length tokens < limit + i
      → 8 < level_of (mark_at tokens j) → marked tokens mark.Comma j ≡ false
      → listed tokens (read tokens m 8) limit done e i ≡ Some (done ++ items_of bs, max e d, j)
  listed_arrives tokens (one {i} {d} {j} {a} h) m limit e done room big stop ends =
      let s = spans tokens h in
      let x = settles tokens (arrives tokens h m room (omega arith)) stop in
      listed_last tokens (read tokens m 8) limit e i done (a, d, j) (omega arith) x ends
  listed_arrives tokens (more {i} {d} {j} {e = f} {l} {a} {rest} h p others) m limit e done room big stop ends =
      let s = spans tokens h in
      let ten : level_of (mark_at tokens j) ≡ 10 = ap level_of p in
      let x = settles tokens (arrives tokens h m (omega arith) (omega arith)) (omega arith) in
      listed_more tokens (read tokens m 8) limit e i done (a, d, j) (omega arith) x (of_mark tokens mark.Comma j p)
      ∙ listed_arrives tokens others m (below limit) (max e d) (done ++ a ∷ []) (omega arith) (below_limit limit i j (length tokens) big s.1) stop ends
      ∙ same_several l (append_assoc done (a ∷ []) (items_of rest)) (omega arith)

  pub branched_arrives : (tokens : List Token) {i d j : ℕ} {arms : Branches} → Branched tokens i arms d j
      → (m limit e : ℕ) (done : List (Tree × Tree)) → d ≤ m → length tokens < limit + i
      → 8 < level_of (mark_at tokens j) → marked tokens mark.When j ≡ false
      → armed tokens (read tokens m) limit done e i ≡ Some (done ++ arms_of arms, max e d, j)
  branched_arrives tokens (one_branch {i} {d} {j} {e = f} {l} {a} {b} h p k) m limit e done room big stop ends =
      let s = spans tokens h in
      let v = spans tokens k in
      let ten : level_of (mark_at tokens j) ≡ 10 = ap level_of p in
      let x = settles tokens (arrives tokens h m (omega arith) (omega arith)) (omega arith) in
      let y = settles tokens (arrives tokens k m (omega arith) (omega arith)) stop in
      armed_last tokens (read tokens m) limit e i done ((a, b), max d f, l) (omega arith) (arm_arrives tokens m i d j f l a b x p y) ends
  branched_arrives tokens (more_branches {i} {d} {j} {e = f} {l} {f = g} {n} {a} {b} {rest} h p k q others) m limit e done room big stop ends =
      let s = spans tokens h in
      let v = spans tokens k in
      let ten : level_of (mark_at tokens j) ≡ 10 = ap level_of p in
      let last : level_of (mark_at tokens l) ≡ 10 = ap level_of q in
      let x = settles tokens (arrives tokens h m (omega arith) (omega arith)) (omega arith) in
      let y = settles tokens (arrives tokens k m (omega arith) (omega arith)) (omega arith) in
      armed_more tokens (read tokens m) limit e i done ((a, b), max d f, l) (omega arith) (arm_arrives tokens m i d j f l a b x p y) (of_mark tokens mark.When l q)
      ∙ branched_arrives tokens others m (below limit) (max e (max d f)) (done ++ (a, b) ∷ []) (omega arith) (below_limit limit i l (length tokens) big (omega arith)) stop ends
      ∙ same_arms n (append_assoc done ((a, b) ∷ []) (arms_of rest)) (omega arith)

-- an expression that is derived up to where no expression goes on is read
pub derived_is_read : (tokens : List Token) {i d j : ℕ} {a : Tree} → Derives tokens 8 i a d j → (m : ℕ) → d ≤ m
    → 8 < level_of (mark_at tokens j) → read tokens m 8 i ≡ Some (a, d, j)
derived_is_read tokens h m room stop = settles tokens (arrives tokens h m room (omega arith)) stop
