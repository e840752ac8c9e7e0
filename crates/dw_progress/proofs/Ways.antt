-- Ways along the waits: where each comes to an end nobody is met twice, and one more session that waits leaves that so.
use Rattle.std.proofs.Common.{◌≡◌, ◌⊎◌, inl, inr, ℕ, zero, suc, ◌<◌, ◌≤◌, Bool, true, false, ◌==◌, List, [], ◌∷◌, length, sym, refl, ◌∙◌, subst, arith}
use Rattle.std.specs.Prelude.{Option, Some, None, is_some}
use Rattle.std.specs.List.{range_with_len}
use Rattle.std.proofs.lemmas.Bool.{eqb-true}
use Rattle.dw_journal.specs.Locks.{contains, last_waits_for, first_cycle}
use Rattle.dw_locks.specs.Cycles.{each_waits, IsCycle}
use Rattle.dw_locks.specs.Walks.{reaches, first_walk}
use Rattle.dw_locks.proofs.WalkLemmas.{is_reached, first_closing}
use Rattle.dw_locks.proofs.CycleLemmas.{found_cycle, absent, positive}
use Rattle.dw_progress.proofs.Counting.{and_left, and_right, not_both, any_of, any_there, AreBelow, at_most}

-- each way along the waits from here comes to an end
pub data Ends (next : ℕ → List ℕ) : ℕ → Type 0 where
  ends : {one : ℕ} → ((other : ℕ) → contains (next one) other ≡ true → Ends next other) → Ends next one

-- a way leads from one to another
pub data Leads (next : ℕ → List ℕ) (from : ℕ) : ℕ → Type 0 where
  first : {to : ℕ} → contains (next from) to ≡ true → Leads next from to
  onward : {over to : ℕ} → Leads next from over → contains (next over) to ≡ true → Leads next from to

-- with fewer waits ways end, too, and more of them lead on
pub ends_less : (fewer more : ℕ → List ℕ) → ((one other : ℕ) → contains (fewer one) other ≡ true → contains (more one) other ≡ true)
    → (one : ℕ) → Ends more one → Ends fewer one
ends_less fewer more some one (ends later) = ends (λ other there. ends_less fewer more some other (later other (some one other there)))

pub leads_more : (fewer more : ℕ → List ℕ) → ((one other : ℕ) → contains (fewer one) other ≡ true → contains (more one) other ≡ true)
    → (from to : ℕ) → Leads fewer from to → Leads more from to
leads_more fewer more some from to (first there) = first (some from to there)
leads_more fewer more some from to (onward {over = over} leads there) = onward (leads_more fewer more some from over leads) (some over to there)

module _ (next : ℕ → List ℕ) where
  -- who is led to one that reaches a session reaches it
  leads_reaches : (session from to steps : ℕ) → Leads next from to → reaches next session steps to ≡ true
      → (more : ℕ) × (reaches next session more from ≡ true)
  leads_reaches session from to steps (first there) reached = (suc steps, any_of (reaches next session steps) to (next from) there reached)
  leads_reaches session from to steps (onward {over = over} leads there) reached =
      leads_reaches session from over (suc steps) leads (any_of (reaches next session steps) to (next over) there reached)

  pub leads_back : (session from to : ℕ) → to ≡ session → Leads next from to → (steps : ℕ) × (reaches next session steps from ≡ true)
  leads_back session from to same (first there) = (0, subst (λ (n : ℕ). contains (next from) n ≡ true) same there)
  leads_back session from to same (onward {over = over} leads there) =
      leads_reaches session from over 0 leads (subst (λ (n : ℕ). contains (next over) n ≡ true) same there)

  -- where ways end, none leads to a session again and again
  never_again : (session loop : ℕ) → reaches next session loop session ≡ true → (one steps : ℕ) → Ends next one → reaches next session steps one ≡ true → ⊥
  never_again session loop again one zero (ends later) reached =
      never_again session loop again session loop (later session reached) again
  never_again session loop again one (suc steps) (ends later) reached =
      let found = any_there (reaches next session steps) (next one) reached in
      never_again session loop again found.0 steps (later found.0 found.1) found.2

  -- a cycle comes back to its first
  cycle_reaches : (session one : ℕ) (rest : List ℕ) → each_waits next (one ∷ rest) ≡ true → last_waits_for next session (one ∷ rest) ≡ true
      → reaches next session (length rest) one ≡ true
  cycle_reaches session one [] waits last = last
  cycle_reaches session one (second ∷ rest) waits last =
      any_of (reaches next session (length rest)) second (next one)
      (and_left (contains (next one) second) (each_waits next (second ∷ rest)) waits)
      (cycle_reaches session second rest (and_right (contains (next one) second) (each_waits next (second ∷ rest)) waits) last)

  pub no_cycle : ((one : ℕ) → Ends next one) → (session : ℕ) (cycle : List ℕ) → IsCycle next session cycle → ⊥
  no_cycle ended session [] is = absurd is.begins
  no_cycle ended session (one ∷ rest) is =
      let reached : reaches next session (length rest) session ≡ true =
      subst (λ (n : ℕ). reaches next session (length rest) n ≡ true) is.begins (cycle_reaches session one rest is.waits is.closes) in
      never_again session (length rest) reached session (length rest) (ended session) reached

  -- ---- where no cycle of so many sessions as there are is closed, none comes back
  module _ (session most : ℕ) (within : session ≤ most) (members : (one other : ℕ) → contains (next one) other ≡ true → other ≤ most)
      (none : first_cycle next session (range_with_len 0 (suc most)) ≡ None) where
    all_below : (one : ℕ) (rest : List ℕ) → one ≤ most → each_waits next (one ∷ rest) ≡ true → AreBelow (suc most) (one ∷ rest)
    all_below one [] below waits = (omega (arith, below), tt)
    all_below one (second ∷ rest) below waits = (
      omega (arith, below),
      all_below second rest
          (members one second (and_left (contains (next one) second) (each_waits next (second ∷ rest)) waits))
          (and_right (contains (next one) second) (each_waits next (second ∷ rest)) waits),
    )

    cycle_below : (cycle : List ℕ) → IsCycle next session cycle → AreBelow (suc most) cycle
    cycle_below [] is = tt
    cycle_below (one ∷ rest) is =
        let small : one ≤ most = omega (arith, within, is.begins) in all_below one rest small is.waits

    not_found : (cycle : List ℕ) → IsCycle next session cycle → ⊥
    not_found cycle is =
        let few = at_most (suc most) cycle is.differ (cycle_below cycle is) in
        absent next session 0 (suc most) cycle none is (positive session cycle is.begins) (omega (arith, few))

    some_there : (found : Option (List ℕ)) → is_some found ≡ true → (walk : List ℕ) × (found ≡ Some walk)
    some_there None is = absurd (cc)
    some_there (Some walk) is = (walk, refl)

    unreached_by : (steps : ℕ) (b : Bool) → reaches next session steps session ≡ b → ((fewer : ℕ) → fewer < steps → reaches next session fewer session ≡ false) → b ≡ false
    unreached_by steps false is fewer = refl
    unreached_by steps true is fewer =
        let walk = some_there (first_walk next session steps session) (is_reached next session steps session ∙ is) in
        let cycle = found_cycle next session steps walk.0 (first_closing next session steps fewer ∙ walk.1) in
        absurd (not_found walk.0 cycle.0)

    unreached_below : (bound steps : ℕ) → steps < bound → reaches next session steps session ≡ false
    unreached_below zero steps below = absurd (omega (arith, below))
    unreached_below (suc bound) steps below =
        unreached_by steps (reaches next session steps session) refl (λ fewer lt. unreached_below bound fewer (omega (arith, below, lt)))

    pub comes_not_back : Leads next session session → ⊥
    comes_not_back leads =
        let back = leads_back session session session refl leads in
        not_both (reaches next session back.0 session) back.1 (unreached_below (suc back.0) back.0 (omega arith))

-- ---- one session's waits change
module _ (old new : ℕ → List ℕ) (session : ℕ) (ended : (one : ℕ) → Ends old one) where
  -- it waits for nobody any more, and the others wait for whom they did, and maybe for it
  module _ (rests : (other : ℕ) → contains (new session) other ≡ true → ⊥)
      (others : (one other : ℕ) → (session == one) ≡ false → contains (new one) other ≡ true → (session ≡ other) ⊎ (contains (old one) other ≡ true)) where
    here_ends : Ends new session
    here_ends = ends (λ other there. absurd (rests other there))

    still_next : (other : ℕ) (is : Type 0) → (session ≡ other) ⊎ is → (is → Ends new other) → Ends new other
    still_next other is (inl same) later = subst (Ends new) same here_ends
    still_next other is (inr old_one) later = later old_one

    still_by : (one : ℕ) (b : Bool) → (session == one) ≡ b → ((other : ℕ) → contains (old one) other ≡ true → Ends new other) → Ends new one
    still_by one true same later = subst (Ends new) (eqb-true session one same) here_ends
    still_by one false apart later =
        ends (λ other there. still_next other (contains (old one) other ≡ true) (others one other apart there) (later other))

    still_from : (one : ℕ) → Ends old one → Ends new one
    still_from one (ends later) = still_by one (session == one) refl (λ other there. still_from other (later other there))

    pub still_ends : (one : ℕ) → Ends new one
    still_ends one = still_from one (ended one)

  -- it begins to wait, the others wait for whom they did, and no way leads from it back to it
  module _ (others : (one other : ℕ) → (session == one) ≡ false → contains (new one) other ≡ true → contains (old one) other ≡ true)
      (never : Leads new session session → ⊥) where
    led_by : (one : ℕ) (b : Bool) → (session == one) ≡ b → Leads new session one
        → ((other : ℕ) → contains (old one) other ≡ true → contains (new one) other ≡ true → Ends new other) → Ends new one
    led_by one true same leads later = absurd (never (subst (Leads new session) (sym (eqb-true session one same)) leads))
    led_by one false apart leads later = ends (λ other there. later other (others one other apart there) there)

    led : (one : ℕ) → Ends old one → Leads new session one → Ends new one
    led one (ends later) leads =
        led_by one (session == one) refl leads (λ other there now. led other (later other there) (onward leads now))

    waiting_ends : Ends new session
    waiting_ends = ends (λ other there. led other (ended other) (first there))

    more_by : (one : ℕ) (b : Bool) → (session == one) ≡ b → ((other : ℕ) → contains (old one) other ≡ true → Ends new other) → Ends new one
    more_by one true same later = subst (Ends new) (eqb-true session one same) waiting_ends
    more_by one false apart later = ends (λ other there. later other (others one other apart there))

    more_from : (one : ℕ) → Ends old one → Ends new one
    more_from one (ends later) = more_by one (session == one) refl (λ other there. more_from other (later other there))

    pub more_ends : (one : ℕ) → Ends new one
    more_ends one = more_from one (ended one)
