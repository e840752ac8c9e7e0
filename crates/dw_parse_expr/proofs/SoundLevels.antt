-- What is read at a level is derived.
use Rattle.std.proofs.Common.{◌≡◌, ℕ, zero, suc, ◌+◌, ◌≤◌, max, Bool, true, false, if◌then◌else◌, Option, Some, None, List, refl, sym, ◌∙◌, ap, subst, arith}
use Rattle.std.specs.Prelude.{◌==◌}
use Rattle.std.specs.Option.{option_map}
use Rattle.std.proofs.lemmas.Bool.{eqb-true, eq-eqb, ltb-true}
use Rattle.dw_lex.specs.declared.token.Token.{Token}
use Rattle.dw_expr.specs.Tree.{Tree}
use Rattle.dw_parse_words.specs.Words.{name_at}
use Rattle.dw_parse_words.proofs.FoundLemmas.{and_both}
use Rattle.dw_parse_words.proofs.KindLemmas.{kind_sound}
use Rattle.dw_parse_expr.specs.declared.marks.Mark.TheVariants as mark
use Rattle.dw_parse_expr.specs.declared.marks.Operator.{Operator}
use Rattle.dw_parse_expr.specs.Marks.{mark_at, past_not, level_of, operator_of, made, groups, prefix_level}
use Rattle.dw_parse_expr.specs.Grammar.{Derives}
use Rattle.dw_parse_expr.specs.Grammar as g
use Rattle.dw_parse_expr.specs.Reading.{Found, cast_after, null_test, tested, goes_on, chain, read}
use Rattle.dw_parse_expr.proofs.MarkLemmas.{to_mark, past_not_level}
use Rattle.dw_parse_expr.proofs.LevelLemmas.{single_is_five}
use Rattle.dw_parse_expr.proofs.Steps.{unroll_atom, unroll_prefix, unroll}
use Rattle.dw_parse_expr.proofs.Sound.{Reads, IsSound, either, if_some, map_some, bind_some, some_same, true_false, list_sound, atom_sound}

module _ (tokens : List Token) (b : ℕ) (sound : IsSound tokens b) where
  -- what goes on after an expression
  module _ (i : ℕ) (a r : Found) (low : a.1 ≤ b) where
    made_sound : (k : ℕ) (op : Operator) → k ≤ 8
        → ((c : Tree) (e l : ℕ) → Derives tokens k (a.2 + 1) c e l → Derives tokens (suc k) i (made op a.0 c) (suc (max a.1 e)) l)
        → option_map (λ (x : Found). (made op a.0 x.0, suc (max a.1 x.1), x.2)) (read tokens b k (a.2 + 1)) ≡ Some r
        → Reads tokens (suc b) (suc k) i r
    made_sound k op few make e =
        let m = map_some _ _ _ e in
        let right = sound k (a.2 + 1) m.0 few m.1 in
        let deep = right.1 in
        subst (Reads tokens (suc b) (suc k) i) m.2 (make m.0.0 m.0.1 m.0.2 right.0, omega arith)

    cast_sound : mark_at tokens a.2 ≡ Some mark.Cast → Derives tokens 1 i a.0 a.1 a.2 → cast_after tokens a ≡ Some r → Reads tokens (suc b) 1 i r
    cast_sound c left e =
        let m = map_some _ _ _ e in
        subst (Reads tokens (suc b) 1 i) m.2 (g.cast left c (kind_sound tokens (a.2 + 1) m.0 m.1), omega arith)

    tested_sound : Derives tokens 4 i a.0 a.1 a.2 → tested tokens (read tokens b) 4 a ≡ Some r → Reads tokens (suc b) 5 i r
    tested_sound left e =
        either _ _ _ _ e
        (λ t h.
        let m = bind_some _ _ _ h in
        let x = sound 4 (past_not tokens a.2 + 1) m.0 (omega arith) m.1 in
        let an = if_some _ _ _ m.2 in
        let n = map_some _ _ _ an.1 in
        let y = sound 4 (m.0.2 + 1) n.0 (omega arith) n.1 in
        let deep = x.1 in
        let deeper = y.1 in
        subst (Reads tokens (suc b) 5 i) n.2
        (g.between left (to_mark tokens mark.Between (past_not tokens a.2) refl t) x.0 (to_mark tokens mark.And m.0.2 refl an.0) y.0, omega arith))
        (λ s f. either _ _ _ _ f
        (λ t h.
        let m = map_some _ _ _ h in
        let x = sound 4 (past_not tokens a.2 + 1) m.0 (omega arith) m.1 in
        let deep = x.1 in
        subst (Reads tokens (suc b) 5 i) m.2 (g.like left (to_mark tokens mark.Like (past_not tokens a.2) refl t) x.0, omega arith))
        (λ t h.
        let w = if_some _ _ _ h in
        let both = and_both _ _ w.0 in
        let m = bind_some _ _ _ w.1 in
        let l = list_sound tokens b sound (past_not tokens a.2 + 2) m.0 m.1 in
        let z = if_some _ _ _ m.2 in
        let deep = l.1 in
        subst (Reads tokens (suc b) 5 i) (some_same _ _ z.1) (
          g.within left (to_mark tokens mark.In (past_not tokens a.2) refl both.0) (to_mark tokens mark.Open (past_not tokens a.2 + 1) refl both.1)
              l.0 (to_mark tokens mark.Close m.0.2 refl z.0),
          omega arith,
        )))

    null_sound : mark_at tokens a.2 ≡ Some mark.Is → Derives tokens 4 i a.0 a.1 a.2 → null_test tokens a ≡ Some r → Reads tokens (suc b) 5 i r
    null_sound c left e =
        let z = if_some _ _ _ e in
        subst (Reads tokens (suc b) 5 i) (some_same _ _ z.1)
        (g.is_null left c (to_mark tokens mark.Null (past_not tokens (a.2 + 1)) refl z.0), omega arith)

    -- a step at the level of the comparisons
    once_sound : level_of (mark_at tokens a.2) ≡ 5 → Derives tokens 4 i a.0 a.1 a.2 → (found : Option Operator) → operator_of (mark_at tokens a.2) ≡ found
        → goes_on tokens (read tokens b) 4 a found ≡ Some r → Reads tokens (suc b) 5 i r
    once_sound here left (Some op) is e =
        made_sound 4 op (omega arith) (λ c e l right. g.compared left here is right) e
    once_sound here left None is e =
        either _ _ _ _ e
        (λ t h. null_sound (to_mark tokens mark.Is a.2 refl t) left h)
        (λ t h. either _ _ _ _ h
        (λ u j. let five : 5 ≡ 1 = sym here ∙ ap level_of (to_mark tokens mark.Cast a.2 refl u) in absurd (omega arith))
        (λ u j. tested_sound left j))

    -- a step at a level that groups
    grouped_sound : (k : ℕ) → k ≤ 7 → groups (suc k) ≡ true → level_of (mark_at tokens a.2) ≡ suc k → Derives tokens (suc k) i a.0 a.1 a.2
        → (found : Option Operator) → operator_of (mark_at tokens a.2) ≡ found
        → goes_on tokens (read tokens b) k a found ≡ Some r → Reads tokens (suc b) (suc k) i r
    grouped_sound k few gr here left (Some op) is e =
        made_sound k op (omega arith) (λ c e l right. g.grouped left gr here is right) e
    grouped_sound k few gr here left None is e =
        either _ _ _ _ e
        (λ t h. absurd (no_five (sym here ∙ ap level_of (to_mark tokens mark.Is a.2 refl t))))
        (λ t h. either _ _ _ _ h
        (λ u j. on_cast (to_mark tokens mark.Cast a.2 refl u) j)
        (λ u j. absurd (no_five (sym here ∙ tested_level j))))
      where
        no_five : suc k ≡ 5 → ⊥
        no_five five = true_false gr (ap groups five)

        on_cast : mark_at tokens a.2 ≡ Some mark.Cast → cast_after tokens a ≡ Some r → Reads tokens (suc b) (suc k) i r
        on_cast c j =
            let one : 1 ≡ suc k = sym (ap level_of c) ∙ here in
            subst (λ x. Reads tokens (suc b) x i r) one (cast_sound c (subst (λ x. Derives tokens x i a.0 a.1 a.2) (sym one) left) j)

        tested_level : tested tokens (read tokens b) k a ≡ Some r → level_of (mark_at tokens a.2) ≡ 5
        tested_level j =
            either _ _ _ _ j
            (λ t h. past_not_level tokens a.2 mark.Between refl (to_mark tokens mark.Between (past_not tokens a.2) refl t))
            (λ s f. either _ _ _ _ f
            (λ t h. past_not_level tokens a.2 mark.Like refl (to_mark tokens mark.Like (past_not tokens a.2) refl t))
            (λ t h. let w = if_some _ _ _ h in let both = and_both _ _ w.0 in past_not_level tokens a.2 mark.In refl (to_mark tokens mark.In (past_not tokens a.2) refl both.0)))

  -- as many steps as there are
  chain_sound : (i k : ℕ) (r : Found) → k ≤ 7 → groups (suc k) ≡ true → (limit : ℕ) (a : Found) → Reads tokens (suc b) (suc k) i a
      → chain tokens (read tokens b) (suc b) (suc k) limit a ≡ Some r → Reads tokens (suc b) (suc k) i r
  chain_sound i k r few gr zero a left e = subst (Reads tokens (suc b) (suc k) i) (some_same _ _ e) left
  chain_sound i k r few gr (suc limit) a left e =
      either _ _ _ _ e
      (λ t h.
      let z = if_some _ _ _ h in
      let m = bind_some _ _ _ z.1 in
      let less = ltb-true a.1 (suc b) z.0 in
      chain_sound i k r few gr limit m.0
      (grouped_sound i a m.0 (omega arith) k few gr (eqb-true (level_of (mark_at tokens a.2)) (suc k) t) left.0 (operator_of (mark_at tokens a.2)) refl m.1) m.2)
      (λ t h. subst (Reads tokens (suc b) (suc k) i) (some_same _ _ h) left)

  abbrev OneStep : ℕ → Found → Found → ℕ → Type 0
  OneStep i a x k =
      level_of (mark_at tokens a.2) ≡ suc k → Derives tokens k i a.0 a.1 a.2
      → goes_on tokens (read tokens b) k a (operator_of (mark_at tokens a.2)) ≡ Some x → Reads tokens (suc b) (suc k) i x

  single_sound : (i k : ℕ) (a r : Found) → k ≤ 7 → groups (suc k) ≡ false → Reads tokens (suc b) k i a
      → chain tokens (read tokens b) (suc b) (suc k) 1 a ≡ Some r → Reads tokens (suc b) (suc k) i r
  single_sound i k a r few gr left e =
      either _ _ _ _ e
      (λ t h.
      let z = if_some _ _ _ h in
      let m = bind_some _ _ _ z.1 in
      let less = ltb-true a.1 (suc b) z.0 in
      let here = eqb-true (level_of (mark_at tokens a.2)) (suc k) t in
      let four = single_is_five (mark_at tokens a.2) k few here gr in
      subst (Reads tokens (suc b) (suc k) i) (some_same _ _ m.2)
      (at_four m.0 (omega arith) k four here left.0 m.1))
      (λ t h. subst (Reads tokens (suc b) (suc k) i) (some_same _ _ h) (g.tighter left.0 few, left.1))
    where
      at_four : (x : Found) → a.1 ≤ b → (k : ℕ) → k ≡ 4 → OneStep i a x k
      at_four x low k four = subst (OneStep i a x) (sym four) (λ here left e. once_sound i a x low here left (operator_of (mark_at tokens a.2)) refl e)

  layer_sound : (i k : ℕ) (a r : Found) → k ≤ 7 → Reads tokens (suc b) k i a
      → (t : Bool) → groups (suc k) ≡ t → chain tokens (read tokens b) (suc b) (suc k) (if t then suc b else 1) a ≡ Some r → Reads tokens (suc b) (suc k) i r
  layer_sound i k a r few left true gr e = chain_sound i k r few gr (suc b) a (g.tighter left.0 few, left.1) e
  layer_sound i k a r few left false gr e = single_sound i k a r few gr left e

  abbrev Tight : ℕ → Type 0
  Tight k = (i : ℕ) (r : Found) → read tokens (suc b) k i ≡ Some r → Reads tokens (suc b) k i r

  before_sound : (i k : ℕ) (r : Found) → k ≤ 7 → Tight k
      → (t : Bool) → (prefix_level (mark_at tokens i) == suc k) ≡ t → read tokens (suc b) (suc k) i ≡ Some r → Reads tokens (suc b) (suc k) i r
  before_sound i k r few tight true t e =
      let p = eqb-true (prefix_level (mark_at tokens i)) (suc k) t in
      let m = map_some _ _ _ (sym (unroll_prefix tokens (suc b) k i (omega arith) p) ∙ e) in
      let x = sound (suc k) (i + 1) m.0 (omega arith) m.1 in
      let deep = x.1 in
      subst (Reads tokens (suc b) (suc k) i) m.2 (g.prefixed p x.0, omega arith)
  before_sound i k r few tight false t e =
      let m = bind_some _ _ _ (sym (unroll tokens (suc b) k i (omega arith) (λ p. true_false (eq-eqb (prefix_level (mark_at tokens i)) (suc k) p) t)) ∙ e) in
      layer_sound i k m.0 r few (tight i m.0 m.1) (groups (suc k)) refl m.2

  pub level_sound : (k : ℕ) → k ≤ 8 → (i : ℕ) (r : Found) → read tokens (suc b) k i ≡ Some r → Reads tokens (suc b) k i r
  level_sound zero few i r e =
      atom_sound tokens b sound i r (name_at tokens i) refl (sym (unroll_atom tokens (suc b) i (omega arith)) ∙ e)
  level_sound (suc k) few i r e =
      before_sound i k r (omega arith) (level_sound k (omega arith)) (prefix_level (mark_at tokens i) == suc k) refl e

-- what is read of an expression is derived
pub read_is_derived : (tokens : List Token) (b : ℕ) → IsSound tokens b
unfolding read
read_is_derived tokens zero k i r few e = cc
read_is_derived tokens (suc b) k i r few e = level_sound tokens b (read_is_derived tokens b) k few i r e
