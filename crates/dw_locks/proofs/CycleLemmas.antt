-- Cycles are walks that close, so the first walk that closes is a shortest cycle.
use Rattle.std.proofs.Common.{◌≡◌, ℕ, zero, suc, ◌+◌, ◌<◌, ◌≤◌, Bool, true, false, ◌&&◌, ◌||◌, ◌==◌, List, [], ◌∷◌, ◌++◌, length, map, ap, sym, refl, ◌∙◌, subst, arith, inl, inr}
use Rattle.std.specs.Prelude.{Option, Some, None, flat_map, if◌then◌else◌}
use Rattle.std.specs.List.{find, range_with_len}
use Rattle.std.specs.Option.{option_or}
use Rattle.std.proofs.lemmas.Bool.{eqb-true, cases_lt}
use Rattle.dw_journal.specs.Locks.{walks, contains, all_differ, last_waits_for, closes, first_cycle}
use Rattle.dw_locks.specs.Cycles.{IsFirst, each_waits, IsCycle}
use Rattle.dw_locks.proofs.WalkLemmas.{IsWalk, here, step, Each, each_walk}

-- an element stands in a list
pub data Among {A : Type 0} (one : A) : List A → Type 0 where
  front : {rest : List A} → Among one (one ∷ rest)
  further : {other : A} {rest : List A} → Among one rest → Among one (other ∷ rest)

among_left : {A : Type 0} {one : A} (ones more : List A) → Among one ones → Among one (ones ++ more)
among_left [] more there = elim there [ ]
among_left (one ∷ ones) more front = front
among_left (other ∷ ones) more (further rest) = further (among_left ones more rest)

among_right : {A : Type 0} {one : A} (ones more : List A) → Among one more → Among one (ones ++ more)
among_right [] more there = there
among_right (other ∷ ones) more there = further (among_right ones more there)

among_map : {A B : Type 0} {one : A} (f : A → B) (ones : List A) → Among one ones → Among (f one) (map f ones)
among_map f [] there = elim there [ ]
among_map f (one ∷ ones) front = front
among_map f (other ∷ ones) (further rest) = further (among_map f ones rest)

among_flat : {A B : Type 0} {one : A} {two : B} (f : A → List B) (ones : List A) → Among one ones → Among two (f one) → Among two (flat_map f ones)
among_flat f [] stands there = elim stands [ ]
among_flat f (one ∷ ones) front there = among_left (f one) (flat_map f ones) there
among_flat f (other ∷ ones) (further rest) there = among_right (f other) (flat_map f ones) (among_flat f ones rest there)

pub each_among : {A : Type 0} {one : A} (P : A → Type 0) (ones : List A) → Each P ones → Among one ones → P one
each_among P [] each there = elim there [ ]
each_among P (one ∷ ones) each front = each.0
each_among P (other ∷ ones) each (further rest) = each_among P ones each.1 rest

and_left : (a b : Bool) → (a && b) ≡ true → a ≡ true
and_left true b is = refl
and_left false b is = cc

and_right : (a b : Bool) → (a && b) ≡ true → b ≡ true
and_right true b is = is
and_right false b is = cc

pub and_both : (a b : Bool) → a ≡ true → b ≡ true → (a && b) ≡ true
and_both a b one two = rw (one, two) refl

pub inside : {A : Type 0} (a b : A) → Some a ≡ Some b → a ≡ b
inside a b same = cc

-- what is found passes the test and is one of them; where nothing is found, none of them passes
found_by : {A : Type 0} (p : A → Bool) (one other : A) (ones : List A) (b : Bool) → p other ≡ b → find p (other ∷ ones) ≡ Some one
    → (find p ones ≡ Some one → (p one ≡ true) × Among one ones) → (p one ≡ true) × Among one (other ∷ ones)
found_by p one other ones true is found rest =
    let same : Some other ≡ Some one = sym (ap (λ b. if b then Some other else find p ones) is) ∙ found in
    (ap p (sym (inside other one same)) ∙ is, subst (λ one. Among one (other ∷ ones)) (inside other one same) front)
found_by p one other ones false is found rest =
    let there = rest (sym (ap (λ b. if b then Some other else find p ones) is) ∙ found) in (there.0, further there.1)

found_among : {A : Type 0} (p : A → Bool) (one : A) (ones : List A) → find p ones ≡ Some one → (p one ≡ true) × Among one ones
found_among p one [] found = absurd (cc)
found_among p one (other ∷ ones) found = found_by p one other ones (p other) refl found (found_among p one ones)

none_by : {A : Type 0} (p : A → Bool) (other : A) (ones : List A) (b : Bool) → p other ≡ b → find p (other ∷ ones) ≡ None → (b ≡ false) × (find p ones ≡ None)
none_by p other ones true is none =
    let found : Some other ≡ None = sym (ap (λ b. if b then Some other else find p ones) is) ∙ none in cc
none_by p other ones false is none = (refl, sym (ap (λ b. if b then Some other else find p ones) is) ∙ none)

none_among : {A : Type 0} {one : A} (p : A → Bool) (ones : List A) → find p ones ≡ None → Among one ones → p one ≡ false
none_among p [] none there = elim there [ ]
none_among p (one ∷ ones) none front = (none_by p one ones (p one) refl none).0
none_among p (other ∷ ones) none (further rest) = none_among p ones (none_by p other ones (p other) refl none).1 rest

contained_by : (one other : ℕ) (ones : List ℕ) (b : Bool) → (other == one) ≡ b → contains (other ∷ ones) one ≡ true → (contains ones one ≡ true → Among one ones)
    → Among one (other ∷ ones)
contained_by one other ones true same there rest = subst (λ one. Among one (other ∷ ones)) (eqb-true other one same) front
contained_by one other ones false differ there rest = further (rest (or_rest (other == one) (contains ones one) differ there))
  where
    or_rest : (a b : Bool) → a ≡ false → (a || b) ≡ true → b ≡ true
    or_rest true b none is = cc
    or_rest false b none is = is

contained : (one : ℕ) (ones : List ℕ) → contains ones one ≡ true → Among one ones
contained one [] there = absurd (cc)
contained one (other ∷ ones) there = contained_by one other ones (other == one) refl there (contained one ones)

module _ (next : ℕ → List ℕ) (session : ℕ) where
  -- a list in which each waits for the next is one of the walks
  pub walk_among : (from : ℕ) (rest : List ℕ) → each_waits next (from ∷ rest) ≡ true → Among (from ∷ rest) (walks next (length rest) from)
  walk_among from [] waits = front
  walk_among from (second ∷ rest) waits =
      among_map (λ walk. from ∷ walk) (flat_map (walks next (length rest)) (next from))
      (among_flat (walks next (length rest)) (next from)
      (contained second (next from) (and_left (contains (next from) second) (each_waits next (second ∷ rest)) waits))
      (walk_among second rest (and_right (contains (next from) second) (each_waits next (second ∷ rest)) waits)))

  -- and a walk is such a list
  waits_on : (from one : ℕ) (walk : List ℕ) → IsFirst one walk → contains (next from) one ≡ true → each_waits next walk ≡ true → each_waits next (from ∷ walk) ≡ true
  waits_on from one [] begins there waits = absurd begins
  waits_on from one (second ∷ rest) begins there waits =
      and_both (contains (next from) second) (each_waits next (second ∷ rest)) (ap (contains (next from)) begins ∙ there) waits

  walk_is : {steps from : ℕ} {walk : List ℕ} → IsWalk next session steps from walk → IsFirst from walk × (each_waits next walk ≡ true) × (length walk ≡ suc steps)
  walk_is here = (refl, refl, refl)
  walk_is {from = from} (step {one = one} {walk = walk} there rest) =
      let is = walk_is rest in (refl, waits_on from one walk is.0 there is.1, ap suc is.2)

  -- so what is found is a cycle, and where nothing is found there is none of so many sessions
  pub found_cycle : (steps : ℕ) (cycle : List ℕ) → find (closes next session) (walks next steps session) ≡ Some cycle
      → IsCycle next session cycle × (length cycle ≡ suc steps)
  found_cycle steps cycle found =
      let there = found_among (closes next session) cycle (walks next steps session) found in
      let is = walk_is (each_among (IsWalk next session steps session) (walks next steps session) (each_walk next session steps session) there.1) in (
        record {
          begins = is.0;
          differ = and_left (all_differ cycle) (last_waits_for next session cycle) there.0;
          waits = is.1;
          closes = and_right (all_differ cycle) (last_waits_for next session cycle) there.0;
        },
        is.2,
      )

  no_cycle : (steps : ℕ) (other : List ℕ) → find (closes next session) (walks next steps session) ≡ None → IsCycle next session other → length other ≡ suc steps → ⊥
  no_cycle steps [] none is long = absurd is.begins
  no_cycle steps (from ∷ rest) none is long =
      let fewer : length rest ≡ steps = omega (arith, long) in
      let there : Among (from ∷ rest) (walks next steps session) =
      subst (λ steps. Among (from ∷ rest) (walks next steps session)) fewer
      (subst (λ start. Among (from ∷ rest) (walks next (length rest) start)) is.begins (walk_among from rest is.waits)) in
      let unclosed = none_among (closes next session) (walks next steps session) none there in
      let closed = and_both (all_differ (from ∷ rest)) (last_waits_for next session (from ∷ rest)) is.differ is.closes in cc

  -- the first cycle among walks of these many steps and more
  pub record IsShortest (from count : ℕ) (cycle : List ℕ) : Type 0 where
    pub cycle_is : IsCycle next session cycle
    pub most : length cycle ≤ from + count
    pub least : (other : List ℕ) → IsCycle next session other → from < length other → length cycle ≤ length other

  shortest_by : (from count : ℕ) (cycle : List ℕ) (found : Option (List ℕ)) → find (closes next session) (walks next from session) ≡ found
      → option_or found (first_cycle next session (range_with_len (from + 1) count)) ≡ Some cycle
      → (first_cycle next session (range_with_len (from + 1) count) ≡ Some cycle → IsShortest (from + 1) count cycle)
      → IsShortest from (suc count) cycle
  shortest_by from count cycle (Some walk) is found rest =
      let same : walk ≡ cycle = cc in
      let one = found_cycle from cycle (is ∙ ap Some same) in record {
        cycle_is = one.0;
        most = omega (arith, one.1);
        least = λ other is below. omega (arith, one.1, below);
      }
  shortest_by from count cycle None is found rest =
      let later = rest found in record {
        cycle_is = later.cycle_is;
        most = omega (arith, later.most);
        least = λ other other_is below. elim (cases_lt (from + 1) (length other)) [
          | inl past ↦ later.least other other_is past
          | inr same ↦ absurd (no_cycle from other is other_is (omega (arith, below, same)))
        ];
      }

  pub shortest : (from count : ℕ) (cycle : List ℕ) → first_cycle next session (range_with_len from count) ≡ Some cycle → IsShortest from count cycle
  shortest from zero cycle found = absurd (cc)
  shortest from (suc count) cycle found =
      shortest_by from count cycle (find (closes next session) (walks next from session)) refl found (shortest (from + 1) count cycle)

  absent_by : (from count : ℕ) (other : List ℕ) (found : Option (List ℕ)) → find (closes next session) (walks next from session) ≡ found
      → option_or found (first_cycle next session (range_with_len (from + 1) count)) ≡ None → IsCycle next session other → from < length other → length other ≤ from + suc count
      → (first_cycle next session (range_with_len (from + 1) count) ≡ None → from + 1 < length other → ⊥) → ⊥
  absent_by from count other (Some walk) is none other_is below within rest = cc
  absent_by from count other None is none other_is below within rest = elim (cases_lt (from + 1) (length other)) [
    | inl past ↦ rest none past
    | inr same ↦ no_cycle from other is other_is (omega (arith, below, same))
  ]

  pub absent : (from count : ℕ) (other : List ℕ) → first_cycle next session (range_with_len from count) ≡ None → IsCycle next session other → from < length other
      → length other ≤ from + count → ⊥
  absent from zero other none is below within = absurd (omega (arith, below, within))
  absent from (suc count) other none is below within =
      absent_by from count other (find (closes next session) (walks next from session)) refl none is below within
      (λ none past. absent (from + 1) count other none is past (omega (arith, within)))

-- a list that begins with a session isn't empty
pub positive : (session : ℕ) (other : List ℕ) → IsFirst session other → 0 < length other
positive session [] begins = absurd begins
positive session (one ∷ rest) begins = omega arith
