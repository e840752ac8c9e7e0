-- What is read is derived.
use Rattle.std.proofs.Common.{◌≡◌, ℕ, zero, suc, ◌+◌, ◌≤◌, max, Bool, true, false, if◌then◌else◌, Option, Some, None, List, [], ◌∷◌, ◌++◌, length, refl, sym, ◌∙◌, ap, subst, append_assoc, arith}
use Rattle.std.specs.Option.{option_map, option_and_then}
use Rattle.dw_lex.specs.declared.token.Token.{Token}
use Rattle.dw_expr.specs.declared.trees.Aggregate.{Aggregate}
use Rattle.dw_expr.specs.Tree.{Tree}
use Rattle.dw_parse_words.specs.Words.{name_at}
use Rattle.dw_parse_words.specs.Literals.{digits_at, text_at}
use Rattle.dw_parse_words.proofs.FoundLemmas.{and_both}
use Rattle.dw_parse_words.proofs.KindLemmas.{kind_sound}
use Rattle.dw_parse_expr.specs.declared.marks.Mark.TheVariants as mark
use Rattle.dw_parse_expr.specs.Marks.{marked, mark_at, aggregate_at}
use Rattle.dw_parse_expr.specs.Grammar.{Derives, Listed, Branched}
use Rattle.dw_parse_expr.specs.Grammar as g
use Rattle.dw_parse_expr.specs.Reading.{Found, Several, Arms, trees, branches, listed, arm_at, armed, case_at, call_at, count_at, date_at, named, marked_atom, text_or_marked, number_or_other, atom_by, read}
use Rattle.dw_parse_expr.proofs.MarkLemmas.{to_mark}

-- what a test or an option gave
pub either : {B C : Type 0} (b : Bool) (p q : Option B) (r : B) → (if b then p else q) ≡ Some r → (b ≡ true → p ≡ Some r → C) → (b ≡ false → q ≡ Some r → C) → C
either true p q r e f g = f refl e
either false p q r e f g = g refl e

pub if_some : {B : Type 0} (b : Bool) (o : Option B) (r : B) → (if b then o else None) ≡ Some r → (b ≡ true) × (o ≡ Some r)
if_some true o r e = (refl, e)
if_some false o r e = cc

pub map_some : {A B : Type 0} (f : A → B) (o : Option A) (y : B) → option_map f o ≡ Some y → (x : A) × (o ≡ Some x) × (f x ≡ y)
map_some f None y e = cc
map_some f (Some x) y e = (x, refl, cc)

pub bind_some : {A B : Type 0} (f : A → Option B) (o : Option A) (y : B) → option_and_then f o ≡ Some y → (x : A) × (o ≡ Some x) × (f x ≡ Some y)
bind_some f None y e = cc
bind_some f (Some x) y e = (x, refl, e)

pub some_same : {A : Type 0} (a b : A) → Some a ≡ Some b → a ≡ b
some_same a b e = cc

pub true_false : {x : Bool} → x ≡ true → x ≡ false → ⊥
true_false g h = cc

-- what was found is derived, and no deeper than the budget
abbrev pub Reads : List Token → ℕ → ℕ → ℕ → Found → Type 0
Reads tokens b k i r = Derives tokens k i r.0 r.1 r.2 × (r.1 ≤ b)

record ReadsAll (tokens : List Token) (b i d : ℕ) (done : List Tree) (all : Several) : Type 0 where
  pub items : List Tree
  pub whole : all.0 ≡ done ++ items
  pub deep : ℕ
  pub depth : all.1 ≡ max d deep
  pub derived : Listed tokens i (trees items) deep all.2
  pub room : deep ≤ b

record ReadsArm (tokens : List Token) (b i : ℕ) (one : (Tree × Tree) × ℕ × ℕ) : Type 0 where
  pub first : ℕ
  pub middle : ℕ
  pub second : ℕ
  pub condition : Derives tokens 8 i one.0.0 first middle
  pub then_there : mark_at tokens middle ≡ Some mark.Then
  pub result : Derives tokens 8 (middle + 1) one.0.1 second one.2
  pub depth : one.1 ≡ max first second
  pub room : max first second ≤ b

record ReadsArms (tokens : List Token) (b i d : ℕ) (done : List (Tree × Tree)) (all : Arms) : Type 0 where
  pub items : List (Tree × Tree)
  pub whole : all.0 ≡ done ++ items
  pub deep : ℕ
  pub depth : all.1 ≡ max d deep
  pub derived : Branched tokens i (branches items) deep all.2
  pub room : deep ≤ b

abbrev pub IsSound : List Token → ℕ → Type 0
IsSound tokens b = (k i : ℕ) (r : Found) → k ≤ 8 → read tokens b k i ≡ Some r → Reads tokens b k i r

module _ (tokens : List Token) (b : ℕ) (sound : IsSound tokens b) where
  listed_sound : (limit d i : ℕ) (done : List Tree) (all : Several)
      → listed tokens (read tokens b 8) limit done d i ≡ Some all → ReadsAll tokens b i d done all
  listed_sound zero d i done all e = cc
  listed_sound (suc limit) d i done all e =
      let m = bind_some _ _ _ e in
      let head = sound 8 i m.0 (omega arith) m.1 in
      let low = head.1 in
      either _ _ _ _ m.2
      (λ t h.
      let rest = listed_sound limit (max d m.0.1) (m.0.2 + 1) (done ++ m.0.0 ∷ []) all h in
      record {
        items = m.0.0 ∷ rest.items;
        whole = rest.whole ∙ append_assoc done (m.0.0 ∷ []) rest.items;
        deep = max m.0.1 rest.deep;
        depth = let c = rest.depth in omega arith;
        derived = g.more head.0 (to_mark tokens mark.Comma m.0.2 refl t) rest.derived;
        room = let y = rest.room in omega arith;
      })
      (λ t h. subst (ReadsAll tokens b i d done) (some_same _ _ h)
      (record {
        items = m.0.0 ∷ [];
        whole = refl;
        deep = m.0.1;
        depth = refl;
        derived = g.one head.0;
        room = head.1;
      }))

  all_listed : (i : ℕ) (all : Several) → ReadsAll tokens b i 0 [] all → Listed tokens i (trees all.0) all.1 all.2 × (all.1 ≤ b)
  all_listed i all l =
      let e : l.deep ≡ all.1 = let x = l.depth in omega arith in
      let x = l.room in (
        subst (λ items. Listed tokens i (trees items) all.1 all.2) (sym l.whole)
            (subst (λ d. Listed tokens i (trees l.items) d all.2) e l.derived),
        omega arith,
      )

  pub list_sound : (i : ℕ) (all : Several) → listed tokens (read tokens b 8) (length tokens) [] 0 i ≡ Some all
      → Listed tokens i (trees all.0) all.1 all.2 × (all.1 ≤ b)
  list_sound i all e = all_listed i all (listed_sound (length tokens) 0 i [] all e)

  -- the branches of CASE
  arm_sound : (i : ℕ) (one : (Tree × Tree) × ℕ × ℕ) → arm_at tokens (read tokens b) i ≡ Some one → ReadsArm tokens b i one
  arm_sound i one e =
      let m = bind_some _ _ _ e in
      let a = sound 8 i m.0 (omega arith) m.1 in
      let z = if_some _ _ _ m.2 in
      let n = map_some _ _ _ z.1 in
      let c = sound 8 (m.0.2 + 1) n.0 (omega arith) n.1 in
      let low = a.1 in
      let lower = c.1 in
      subst (ReadsArm tokens b i) n.2
      (record {
        first = m.0.1;
        middle = m.0.2;
        second = n.0.1;
        condition = a.0;
        then_there = to_mark tokens mark.Then m.0.2 refl z.0;
        result = c.0;
        depth = refl;
        room = omega arith;
      })

  armed_sound : (limit d i : ℕ) (done : List (Tree × Tree)) (all : Arms)
      → armed tokens (read tokens b) limit done d i ≡ Some all → ReadsArms tokens b i d done all
  armed_sound zero d i done all e = cc
  armed_sound (suc limit) d i done all e =
      let m = bind_some _ _ _ e in
      let head = arm_sound i m.0 m.1 in
      let low = head.room in
      let deep_here = head.depth in
      either _ _ _ _ m.2
      (λ t h.
      let rest = armed_sound limit (max d m.0.1) (m.0.2 + 1) (done ++ m.0.0 ∷ []) all h in
      record {
        items = m.0.0 ∷ rest.items;
        whole = rest.whole ∙ append_assoc done (m.0.0 ∷ []) rest.items;
        deep = max (max head.first head.second) rest.deep;
        depth = let c = rest.depth in omega arith;
        derived = g.more_branches head.condition head.then_there head.result (to_mark tokens mark.When m.0.2 refl t) rest.derived;
        room = let y = rest.room in omega arith;
      })
      (λ t h. subst (ReadsArms tokens b i d done) (some_same _ _ h)
      (record {
        items = m.0.0 ∷ [];
        whole = refl;
        deep = max head.first head.second;
        depth = ap (max d) head.depth;
        derived = g.one_branch head.condition head.then_there head.result;
        room = head.room;
      }))

  all_armed : (i : ℕ) (all : Arms) → ReadsArms tokens b i 0 [] all → Branched tokens i (branches all.0) all.1 all.2 × (all.1 ≤ b)
  all_armed i all l =
      let e : l.deep ≡ all.1 = let x = l.depth in omega arith in
      let x = l.room in (
        subst (λ items. Branched tokens i (branches items) all.1 all.2) (sym l.whole)
            (subst (λ d. Branched tokens i (branches l.items) d all.2) e l.derived),
        omega arith,
      )

  case_sound : (i : ℕ) (r : Found) → mark_at tokens i ≡ Some mark.Case → case_at tokens (read tokens b) i ≡ Some r → Reads tokens (suc b) 0 i r
  case_sound i r c e =
      let w = if_some _ _ _ e in
      let m = bind_some _ _ _ w.1 in
      let l = all_armed (i + 2) m.0 (armed_sound (length tokens) 0 (i + 2) [] m.0 m.1) in
      let low = l.1 in
      let when = to_mark tokens mark.When (i + 1) refl w.0 in
      either _ _ _ _ m.2
      (λ t h. subst (Reads tokens (suc b) 0 i) (some_same _ _ h)
      (g.choice c when l.0 (to_mark tokens mark.End m.0.2 refl t), omega arith))
      (λ t h.
      let z = if_some _ _ _ h in
      let o = bind_some _ _ _ z.1 in
      let other = sound 8 (m.0.2 + 1) o.0 (omega arith) o.1 in
      let y = if_some _ _ _ o.2 in
      let lower = other.1 in
      subst (Reads tokens (suc b) 0 i) (some_same _ _ y.1)
      (g.choice_else c when l.0 (to_mark tokens mark.Else m.0.2 refl z.0) other.0 (to_mark tokens mark.End o.0.2 refl y.0), omega arith))

  -- calls
  count_sound : (i : ℕ) (r : Found) (f : Aggregate) → aggregate_at tokens i ≡ Some f → mark_at tokens (i + 1) ≡ Some mark.Open
      → count_at tokens (read tokens b) i f ≡ Some r → Reads tokens (suc b) 0 i r
  count_sound i r f is opening e =
      either _ _ _ _ e
      (λ t h.
      let both = and_both _ _ t in
      let z = if_some _ _ _ h in
      subst (Reads tokens (suc b) 0 i) (some_same _ _ z.1)
      (g.count_rows both.0 opening (to_mark tokens mark.Star (i + 2) refl both.1) (to_mark tokens mark.Close (i + 3) refl z.0), omega arith))
      (λ t h. either _ _ _ _ h
      (λ u j.
      let both = and_both _ _ u in
      let m = bind_some _ _ _ j in
      let a = sound 8 (i + 3) m.0 (omega arith) m.1 in
      let z = if_some _ _ _ m.2 in
      let low = a.1 in
      subst (Reads tokens (suc b) 0 i) (some_same _ _ z.1)
      (g.count_distinct both.0 opening (to_mark tokens mark.Distinct (i + 2) refl both.1) a.0 (to_mark tokens mark.Close m.0.2 refl z.0), omega arith))
      (λ u j.
      let m = bind_some _ _ _ j in
      let a = sound 8 (i + 2) m.0 (omega arith) m.1 in
      let z = if_some _ _ _ m.2 in
      let low = a.1 in
      subst (Reads tokens (suc b) 0 i) (some_same _ _ z.1)
      (g.aggregate is opening a.0 (to_mark tokens mark.Close m.0.2 refl z.0), omega arith)))

  call_sound : (i : ℕ) (r : Found) → mark_at tokens (i + 1) ≡ Some mark.Open → call_at tokens (read tokens b) i ≡ Some r → Reads tokens (suc b) 0 i r
  call_sound i r opening e =
      either _ _ _ _ e
      (λ w h.
      let m = bind_some _ _ _ h in
      let a = sound 8 (i + 2) m.0 (omega arith) m.1 in
      let s = if_some _ _ _ m.2 in
      let n = bind_some _ _ _ s.1 in
      let z = if_some _ _ _ n.2 in
      let low = a.1 in
      subst (Reads tokens (suc b) 0 i) (some_same _ _ z.1)
      (g.cast_as w opening a.0 (to_mark tokens mark.As m.0.2 refl s.0) (kind_sound tokens (m.0.2 + 1) n.0 n.1) (to_mark tokens mark.Close n.0.1 refl z.0), omega arith))
      (λ w h. either _ _ _ _ h
      (λ u j.
      let m = bind_some _ _ _ j in
      let l = list_sound (i + 2) m.0 m.1 in
      let z = if_some _ _ _ m.2 in
      let low = l.1 in
      subst (Reads tokens (suc b) 0 i) (some_same _ _ z.1)
      (g.coalesce u opening l.0 (to_mark tokens mark.Close m.0.2 refl z.0), omega arith))
      (λ u j. let m = bind_some _ _ _ j in count_sound i r m.0 m.1 opening m.2))

  -- the atoms
  date_sound : (i : ℕ) (r : Found) → date_at tokens i ≡ Some r → Reads tokens (suc b) 0 i r
  date_sound i r e =
      let w = if_some _ _ _ e in
      let m = map_some _ _ _ w.1 in
      subst (Reads tokens (suc b) 0 i) m.2 (g.date w.0 m.1, omega arith)

  named_sound : (name : List ℕ) (i : ℕ) (r : Found) → name_at tokens i ≡ Some name → named tokens (read tokens b) i name ≡ Some r → Reads tokens (suc b) 0 i r
  named_sound name i r is e =
      either _ _ _ _ e
      (λ t h.
      let m = map_some _ _ _ h in
      subst (Reads tokens (suc b) 0 i) m.2 (g.qualified is (to_mark tokens mark.Dot (i + 1) refl t) m.1, omega arith))
      (λ t h. either _ _ _ _ h
      (λ u j. call_sound i r (to_mark tokens mark.Open (i + 1) refl u) j)
      (λ u j. either _ _ _ _ j
      (λ v f. date_sound i r f)
      (λ v f. subst (Reads tokens (suc b) 0 i) (some_same _ _ f) (g.column is, omega arith))))

  inside_sound : (i : ℕ) (r : Found) → mark_at tokens i ≡ Some mark.Open
      → option_and_then (λ (a : Found). if marked tokens mark.Close a.2 then Some (a.0, suc a.1, a.2 + 1) else None) (read tokens b 8 (i + 1)) ≡ Some r
      → Reads tokens (suc b) 0 i r
  inside_sound i r opening e =
      let m = bind_some _ _ _ e in
      let a = sound 8 (i + 1) m.0 (omega arith) m.1 in
      let z = if_some _ _ _ m.2 in
      let low = a.1 in
      subst (Reads tokens (suc b) 0 i) (some_same _ _ z.1)
      (g.inside opening a.0 (to_mark tokens mark.Close m.0.2 refl z.0), omega arith)

  marked_sound : (i : ℕ) (r : Found) → marked_atom tokens (read tokens b) i ≡ Some r → Reads tokens (suc b) 0 i r
  marked_sound i r e =
      either _ _ _ _ e
      (λ t h. subst (Reads tokens (suc b) 0 i) (some_same _ _ h) (g.null (to_mark tokens mark.Null i refl t), omega arith))
      (λ t h. either _ _ _ _ h
      (λ u j. subst (Reads tokens (suc b) 0 i) (some_same _ _ j) (g.true_word (to_mark tokens mark.True i refl u), omega arith))
      (λ u j. either _ _ _ _ j
      (λ v f. subst (Reads tokens (suc b) 0 i) (some_same _ _ f) (g.false_word (to_mark tokens mark.False i refl v), omega arith))
      (λ v f. either _ _ _ _ f
      (λ w n. inside_sound i r (to_mark tokens mark.Open i refl w) n)
      (λ w n. let z = if_some _ _ _ n in case_sound i r (to_mark tokens mark.Case i refl z.0) z.1))))

  text_sound : (i : ℕ) (r : Found) (found : Option (List ℕ)) → text_at tokens i ≡ found → text_or_marked tokens (read tokens b) i found ≡ Some r → Reads tokens (suc b) 0 i r
  text_sound i r None is e = marked_sound i r e
  text_sound i r (Some said) is e = subst (Reads tokens (suc b) 0 i) (some_same _ _ e) (g.text is, omega arith)

  number_sound : (i : ℕ) (r : Found) (found : Option (ℕ × ℕ)) → digits_at tokens i ≡ found → number_or_other tokens (read tokens b) i found ≡ Some r → Reads tokens (suc b) 0 i r
  number_sound i r None is e = text_sound i r (text_at tokens i) refl e
  number_sound i r (Some n) is e = subst (Reads tokens (suc b) 0 i) (some_same _ _ e) (g.number is, omega arith)

  pub atom_sound : (i : ℕ) (r : Found) (found : Option (List ℕ)) → name_at tokens i ≡ found → atom_by tokens (read tokens b) i found ≡ Some r → Reads tokens (suc b) 0 i r
  atom_sound i r None is e = number_sound i r (digits_at tokens i) refl e
  atom_sound i r (Some name) is e = named_sound name i r is e
