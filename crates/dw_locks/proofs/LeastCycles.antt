-- Where each session waits for an ascending list, walks are told in ascending order, so the first that closes is the
-- least of those that do.
use Rattle.std.proofs.Common.{◌≡◌, ◌≢◌, ◌⊎◌, inl, inr, ℕ, zero, suc, ◌+◌, ◌<◌, ◌≤◌, Bool, true, false, not, ◌&&◌, ◌==◌, List, [], ◌∷◌, ◌++◌, length, map, ap, sym, refl, ◌∙◌, subst, arith}
use Rattle.std.specs.Prelude.{Option, Some, None, flat_map, if◌then◌else◌}
use Rattle.std.specs.List.{filter, find, range_with_len}
use Rattle.std.specs.Option.{option_or}
use Rattle.std.specs.Ordering.{nat_cmp}
use Rattle.std.specs.Cmp.Lexicographic.{slice_cmp}
use Rattle.std.specs.Cmp.{nat_cmp_is}
use Rattle.std.specs.declared.cmp.Ordering.TheVariants.{Less, Equal, Greater}
use Rattle.dw_journal.specs.declared.locks.Want.{Want}
use Rattle.dw_journal.specs.declared.Event.{Event}
use Rattle.dw_journal.specs.declared.Event.TheVariants.{Wait}
use Rattle.dw_journal.specs.History.{newest_event}
use Rattle.dw_journal.specs.Locks.{LockState, walks, all_differ, last_waits_for, closes, first_cycle, deadlock_cycle, blockers, has_conflict, waits_by, waits_for, would_wait_for}
use Rattle.dw_locks.specs.Cycles.{IsCycle}
use Rattle.dw_locks.proofs.WalkLemmas.{Each, each_append, each_map, each_weaken}
use Rattle.dw_locks.proofs.CycleLemmas.{Among, front, further, each_among, and_both, walk_among, found_cycle}

-- a list is no greater than another: where they first differ it has the lesser number, or it ends
abbrev AtMost : List ℕ → List ℕ → Type 0
AtMost [] other = Unit {0}
AtMost (x ∷ list) [] = ⊥
AtMost (x ∷ list) (y ∷ other) = (x < y) ⊎ ((x ≡ y) × AtMost list other)

at_most_itself : (list : List ℕ) → AtMost list list
at_most_itself [] = tt
at_most_itself (x ∷ list) = inr (refl, at_most_itself list)

-- so the other isn't less
compared : (x y : ℕ) → (x < y) ⊎ (x ≡ y) → nat_cmp y x ≢ Less
compared x y (inl below) is = let e : Greater ≡ nat_cmp y x = nat_cmp_is y x Greater below in cc
compared x y (inr same) is = let e : Equal ≡ nat_cmp y x = nat_cmp_is y x Equal (sym same) in cc

pub none_less : (list other : List ℕ) → AtMost list other → slice_cmp nat_cmp other list ≢ Less
none_less [] [] most is = cc
none_less [] (y ∷ other) most is = cc
none_less (x ∷ list) [] most is = absurd most
none_less (x ∷ list) (y ∷ other) (inl below) is =
    let e : nat_cmp y x ≡ Greater = sym (nat_cmp_is y x Greater below) in cc (is, e)
none_less (x ∷ list) (y ∷ other) (inr same) is =
    let e : nat_cmp y x ≡ Equal = sym (nat_cmp_is y x Equal (sym same.0)) in
    none_less list other same.1 (rw e at is)

-- ---- walks in ascending order
abbrev AreSorted : List (List ℕ) → Type 0
AreSorted [] = Unit {0}
AreSorted (list ∷ lists) = Each (AtMost list) lists × AreSorted lists

abbrev Ascends : List ℕ → Type 0
Ascends [] = Unit {0}
Ascends (one ∷ ones) = Each (λ (other : ℕ). one < other) ones × Ascends ones

sorted_append : (lists more : List (List ℕ)) → AreSorted lists → AreSorted more → Each (λ (list : List ℕ). Each (AtMost list) more) lists → AreSorted (lists ++ more)
sorted_append [] more sorted later each = later
sorted_append (list ∷ lists) more sorted later each =
    (each_append (AtMost list) lists more sorted.0 each.0, sorted_append lists more sorted.1 later each.1)

sorted_map : (from : ℕ) (lists : List (List ℕ)) → AreSorted lists → AreSorted (map (λ (list : List ℕ). from ∷ list) lists)
sorted_map from [] sorted = tt
sorted_map from (list ∷ lists) sorted =
    (each_map (AtMost list) (AtMost (from ∷ list)) (λ (list : List ℕ). from ∷ list) (λ other most. inr (refl, most)) lists sorted.0, sorted_map from lists sorted.1)

-- a list begins with a number that passes a test
abbrev Begins : (ℕ → Type 0) → List ℕ → Type 0
Begins P [] = ⊥
Begins P (one ∷ rest) = P one

begins_map : (P : ℕ → Type 0) (from : ℕ) → P from → (lists : List (List ℕ)) → Each (Begins P) (map (λ (list : List ℕ). from ∷ list) lists)
begins_map P from is [] = tt
begins_map P from is (list ∷ lists) = (is, begins_map P from is lists)

begins_before : (one : ℕ) (list other : List ℕ) → Begins (λ (n : ℕ). n ≡ one) list → Begins (λ (n : ℕ). one < n) other → AtMost list other
begins_before one [] other begins above = absurd begins
begins_before one (x ∷ list) [] begins above = absurd above
begins_before one (x ∷ list) (y ∷ other) begins above = inl (omega (arith, begins, above))

-- what is found first among sorted lists is at most each other that passes the test
least_by : (p : List ℕ → Bool) (found other first : List ℕ) (lists : List (List ℕ)) (b : Bool) → p first ≡ b → find p (first ∷ lists) ≡ Some found
    → Each (AtMost first) lists → Among other (first ∷ lists) → p other ≡ true
    → (find p lists ≡ Some found → Among other lists → AtMost found other) → AtMost found other
least_by p found other first lists true is finds each front passes later =
    let same : Some first ≡ Some found = sym (ap (λ (b : Bool). if b then Some first else find p lists) is) ∙ finds in
    subst (λ (list : List ℕ). AtMost list other) (list_inside first found same) (at_most_itself other)
  where
    list_inside : (a b : List ℕ) → Some a ≡ Some b → a ≡ b
    list_inside a b same = cc
least_by p found other first lists true is finds each (further there) passes later =
    let same : Some first ≡ Some found = sym (ap (λ (b : Bool). if b then Some first else find p lists) is) ∙ finds in
    subst (λ (list : List ℕ). AtMost list other) (list_inside first found same) (each_among (AtMost first) lists each there)
  where
    list_inside : (a b : List ℕ) → Some a ≡ Some b → a ≡ b
    list_inside a b same = cc
least_by p found other first lists false is finds each front passes later = cc (is, passes)
least_by p found other first lists false is finds each (further there) passes later =
    later (sym (ap (λ (b : Bool). if b then Some first else find p lists) is) ∙ finds) there

least_found : (p : List ℕ → Bool) (found other : List ℕ) (lists : List (List ℕ)) → AreSorted lists → find p lists ≡ Some found → Among other lists → p other ≡ true → AtMost found other
least_found p found other [] sorted finds there passes = absurd (cc)
least_found p found other (first ∷ lists) sorted finds there passes =
    least_by p found other first lists (p first) refl finds sorted.0 there passes
    (λ finds there. least_found p found other lists sorted.1 finds there passes)

module _ (next : ℕ → List ℕ) (ascending : (from : ℕ) → Ascends (next from)) (session : ℕ) where
  begins_walk : (P : ℕ → Type 0) (steps from : ℕ) → P from → Each (Begins P) (walks next steps from)
  begins_walk P zero from is = (is, tt)
  begins_walk P (suc steps) from is = begins_map P from is (flat_map (walks next steps) (next from))

  begins_over : (P : ℕ → Type 0) (steps : ℕ) (ones : List ℕ) → Each P ones → Each (Begins P) (flat_map (walks next steps) ones)
  begins_over P steps [] each = tt
  begins_over P steps (one ∷ ones) each =
      each_append (Begins P) (walks next steps one) (flat_map (walks next steps) ones) (begins_walk P steps one each.0) (begins_over P steps ones each.1)

  sorted_over : (steps : ℕ) → ((from : ℕ) → AreSorted (walks next steps from)) → (ones : List ℕ) → Ascends ones → AreSorted (flat_map (walks next steps) ones)
  sorted_over steps sorted [] ascends = tt
  sorted_over steps sorted (one ∷ ones) ascends =
      let later = flat_map (walks next steps) ones in
      let above = begins_over (λ (n : ℕ). one < n) steps ones ascends.0 in
      sorted_append (walks next steps one) later (sorted one) (sorted_over steps sorted ones ascends.1)
      (each_weaken (Begins (λ (n : ℕ). n ≡ one)) (λ (list : List ℕ). Each (AtMost list) later)
      (λ list begins. each_weaken (Begins (λ (n : ℕ). one < n)) (AtMost list) (λ other over. begins_before one list other begins over) later above)
      (walks next steps one) (begins_walk (λ (n : ℕ). n ≡ one) steps one refl))

  sorted_walks : (steps from : ℕ) → AreSorted (walks next steps from)
  sorted_walks zero from = (tt, tt)
  sorted_walks (suc steps) from =
      sorted_map from (flat_map (walks next steps) (next from)) (sorted_over steps (sorted_walks steps) (next from) (ascending from))

  -- the cycle is the first that closes among the walks of so many steps
  found_by : (from count : ℕ) (cycle : List ℕ) (found : Option (List ℕ)) → find (closes next session) (walks next from session) ≡ found
      → option_or found (first_cycle next session (range_with_len (from + 1) count)) ≡ Some cycle
      → (first_cycle next session (range_with_len (from + 1) count) ≡ Some cycle → (steps : ℕ) × (find (closes next session) (walks next steps session) ≡ Some cycle))
      → (steps : ℕ) × (find (closes next session) (walks next steps session) ≡ Some cycle)
  found_by from count cycle (Some walk) is found rest = (from, is ∙ found)
  found_by from count cycle None is found rest = rest found

  found_at : (from count : ℕ) (cycle : List ℕ) → first_cycle next session (range_with_len from count) ≡ Some cycle
      → (steps : ℕ) × (find (closes next session) (walks next steps session) ≡ Some cycle)
  found_at from zero cycle found = absurd (cc)
  found_at from (suc count) cycle found =
      found_by from count cycle (find (closes next session) (walks next from session)) refl found (found_at (from + 1) count cycle)

  least_at : (steps : ℕ) (cycle other : List ℕ) → find (closes next session) (walks next steps session) ≡ Some cycle → IsCycle next session other
      → length other ≡ suc steps → AtMost cycle other
  least_at steps cycle [] finds is long = absurd is.begins
  least_at steps cycle (from ∷ rest) finds is long =
      let fewer : length rest ≡ steps = omega (arith, long) in
      let there : Among (from ∷ rest) (walks next steps session) =
      subst (λ steps. Among (from ∷ rest) (walks next steps session)) fewer
      (subst (λ start. Among (from ∷ rest) (walks next (length rest) start)) is.begins (walk_among next session from rest is.waits)) in
      least_found (closes next session) cycle (from ∷ rest) (walks next steps session) (sorted_walks steps session) finds there
      (and_both (all_differ (from ∷ rest)) (last_waits_for next session (from ∷ rest)) is.differ is.closes)

  -- so none of its length is less
  pub least_cycle : (count : ℕ) (cycle other : List ℕ) → first_cycle next session (range_with_len 0 count) ≡ Some cycle → IsCycle next session other
      → length other ≡ length cycle → slice_cmp nat_cmp other cycle ≢ Less
  least_cycle count cycle other found is long =
      let at = found_at 0 count cycle found in
      let one = found_cycle next session at.0 cycle at.1 in
      none_less cycle other (least_at at.0 cycle other at.1 is (long ∙ one.1))

-- ---- who blocks a session is told in ascending order
range_above : (from count : ℕ) → Each (λ (n : ℕ). from ≤ n) (range_with_len from count)
range_above from zero = tt
range_above from (suc count) =
    (omega arith, each_weaken (λ (n : ℕ). from + 1 ≤ n) (λ (n : ℕ). from ≤ n) (λ n above. omega (arith, above)) (range_with_len (from + 1) count) (range_above (from + 1) count))

each_filter_by : (P : ℕ → Type 0) (p : ℕ → Bool) (one : ℕ) (ones : List ℕ) (b : Bool) → p one ≡ b → P one → Each P (filter p ones) → Each P (filter p (one ∷ ones))
each_filter_by P p one ones true is holds each = rw is (holds, each)
each_filter_by P p one ones false is holds each = rw is each

each_filter : (P : ℕ → Type 0) (p : ℕ → Bool) (ones : List ℕ) → Each P ones → Each P (filter p ones)
each_filter P p [] each = tt
each_filter P p (one ∷ ones) each = each_filter_by P p one ones (p one) refl each.0 (each_filter P p ones each.1)

ascends_by : (p : ℕ → Bool) (from count : ℕ) (b : Bool) → p from ≡ b → Ascends (filter p (range_with_len (from + 1) count)) → Ascends (filter p (range_with_len from (suc count)))
ascends_by p from count true is later =
    let above = each_weaken (λ (n : ℕ). from + 1 ≤ n) (λ (n : ℕ). from < n) (λ n above. omega (arith, above)) (filter p (range_with_len (from + 1) count))
    (each_filter (λ (n : ℕ). from + 1 ≤ n) p (range_with_len (from + 1) count) (range_above (from + 1) count)) in
    rw is (above, later)
ascends_by p from count false is later = rw is later

filter_ascends : (p : ℕ → Bool) (from count : ℕ) → Ascends (filter p (range_with_len from count))
filter_ascends p from zero = tt
filter_ascends p from (suc count) = ascends_by p from count (p from) refl (filter_ascends p (from + 1) count)

module _ (state : LockState) where
  blockers_ascend : (session : ℕ) (asked : List Want) → Ascends (blockers state session asked)
  blockers_ascend session asked = filter_ascends (λ (other : ℕ). not (other == session) && has_conflict state asked other) 0 (suc state.sessions)

  waits_ascend_by : (session : ℕ) (newest : Option Event) → Ascends (waits_by state session newest)
  waits_ascend_by session (Some (Wait other statement holders)) = blockers_ascend session (state.wants session statement)
  waits_ascend_by session newest = tt

  would_ascend_by : (session : ℕ) (asked : List Want) (other : ℕ) (b : Bool) → Ascends (if b then blockers state session asked else waits_for state other)
  would_ascend_by session asked other true = blockers_ascend session asked
  would_ascend_by session asked other false = waits_ascend_by other (newest_event other state.events)

  pub would_ascend : (session : ℕ) (asked : List Want) (other : ℕ) → Ascends (would_wait_for state session asked other)
  would_ascend session asked other = would_ascend_by session asked other (other == session)

  pub least_deadlock : (session : ℕ) (asked : List Want) (cycle other : List ℕ) → deadlock_cycle state session asked ≡ Some cycle
      → IsCycle (would_wait_for state session asked) session other → length other ≡ length cycle → slice_cmp nat_cmp other cycle ≢ Less
  least_deadlock session asked cycle other found is long =
      least_cycle (would_wait_for state session asked) (would_ascend session asked) session (suc state.sessions) cycle other found is long
