-- Walks that close a cycle: the first one of so many steps, found by what can be reached from where in fewer steps.
use Rattle.std.proofs.Common.{rules, tests, ◌≡◌, ℕ, zero, suc, ◌+◌, ◌<◌, ◌≤◌, Bool, true, false, not, ◌&&◌, ◌||◌, ◌==◌, List, [], ◌∷◌, ◌++◌, map, ap, sym, refl, ◌∙◌, subst, arith}
use Rattle.std.specs.Prelude.{Option, Some, None, is_some, option_map, flat_map, if◌then◌else◌}
use Rattle.std.specs.List.{list_any, find, range_with_len}
use Rattle.std.specs.Option.{option_or}
use Rattle.std.proofs.lemmas.Bool.{eqb-true}
use Rattle.std.proofs.lemmas.List.Folds.{find-append}
use Rattle.dw_locks.specs.Walks.{reaches, first_of, first_walk}
use Rattle.dw_journal.specs.Locks.{walks, contains, all_differ, last_waits_for, closes, first_cycle}

-- what is found among walks that all begin alike
found_first : (p : List ℕ → Bool) (first : ℕ) (walk : List ℕ) (all : List (List ℕ)) (b : Bool) → p (first ∷ walk) ≡ b
    → find p (map (λ walk. first ∷ walk) all) ≡ option_map (λ walk. first ∷ walk) (find (λ walk. p (first ∷ walk)) all)
    → find p (map (λ walk. first ∷ walk) (walk ∷ all)) ≡ option_map (λ walk. first ∷ walk) (find (λ walk. p (first ∷ walk)) (walk ∷ all))
found_first p first walk all true is later = rw is refl
found_first p first walk all false is later = rw is later

found_after : (p : List ℕ → Bool) (first : ℕ) (all : List (List ℕ))
    → find p (map (λ walk. first ∷ walk) all) ≡ option_map (λ walk. first ∷ walk) (find (λ walk. p (first ∷ walk)) all)
found_after p first [] = refl
found_after p first (walk ∷ all) = found_first p first walk all (p (first ∷ walk)) refl (found_after p first all)

-- two tests that agree on all walks from here find the same
alike_first : (p q : List ℕ → Bool) (first : ℕ) (walk : List ℕ) (all : List (List ℕ)) (b : Bool) → p (first ∷ walk) ≡ b → q (first ∷ walk) ≡ b
    → find p (map (λ walk. first ∷ walk) all) ≡ find q (map (λ walk. first ∷ walk) all)
    → find p (map (λ walk. first ∷ walk) (walk ∷ all)) ≡ find q (map (λ walk. first ∷ walk) (walk ∷ all))
alike_first p q first walk all true is same later = rw (is, same) refl
alike_first p q first walk all false is same later = rw (is, same) later

found_alike : (p q : List ℕ → Bool) (first : ℕ) → ((rest : List ℕ) → p (first ∷ rest) ≡ q (first ∷ rest)) → (all : List (List ℕ))
    → find p (map (λ walk. first ∷ walk) all) ≡ find q (map (λ walk. first ∷ walk) all)
found_alike p q first same [] = refl
found_alike p q first same (walk ∷ all) =
    alike_first p q first walk all (q (first ∷ walk)) (same walk) refl (found_alike p q first same all)

walks_alike : (next : ℕ → List ℕ) (p q : List ℕ → Bool) (steps from : ℕ) → ((rest : List ℕ) → p (from ∷ rest) ≡ q (from ∷ rest))
    → find p (walks next steps from) ≡ find q (walks next steps from)
walks_alike next p q zero from same = found_alike p q from same ([] ∷ [])
walks_alike next p q (suc steps) from same = found_alike p q from same (flat_map (walks next steps) (next from))

or_left : (a b : Bool) → a ≡ true → (a || b) ≡ true
or_left a b is = rw is refl

or_right : (a b : Bool) → b ≡ true → (a || b) ≡ true
or_right true b is = refl
or_right false b is = is

or_rest : (a b : Bool) → a ≡ false → (a || b) ≡ true → b ≡ true
or_rest true b none is = cc
or_rest false b none is = is

and_none : (a b : Bool) → b ≡ false → (a && b) ≡ false
and_none true b none = none
and_none false b none = refl

and_rest : (a b : Bool) → a ≡ false → (not a && b) ≡ false → b ≡ false
and_rest true b none is = cc
and_rest false b none is = is

not_both : (b : Bool) → b ≡ true → b ≡ false → ⊥
not_both b holds fails = cc

-- who is among these does where one of them does
any_by : (p : ℕ → Bool) (one other : ℕ) (ones : List ℕ) (b : Bool) → (other == one) ≡ b → contains (other ∷ ones) one ≡ true → p one ≡ true
    → (contains ones one ≡ true → list_any p ones ≡ true) → list_any p (other ∷ ones) ≡ true
any_by p one other ones true same among is later = or_left (p other) (list_any p ones) (ap p (eqb-true other one same) ∙ is)
any_by p one other ones false differ among is later =
    or_right (p other) (list_any p ones) (later (or_rest (other == one) (contains ones one) differ among))

any_of : (p : ℕ → Bool) (one : ℕ) (ones : List ℕ) → contains ones one ≡ true → p one ≡ true → list_any p ones ≡ true
any_of p one [] among is = absurd (cc)
any_of p one (other ∷ ones) among is =
    any_by p one other ones (other == one) refl among is (λ there. any_of p one ones there is)

same_itself : (n : ℕ) → (n == n) ≡ true
same_itself n = search (rules, tests)

-- each of these does
abbrev pub Each : {A : Type 0} → (A → Type 0) → List A → Type 0
Each P [] = Unit {0}
Each P (one ∷ ones) = P one × Each P ones

pub each_append : {A : Type 0} (P : A → Type 0) (ones more : List A) → Each P ones → Each P more → Each P (ones ++ more)
each_append P [] more each rest = rest
each_append P (one ∷ ones) more each rest = (each.0, each_append P ones more each.1 rest)

pub each_map : {A B : Type 0} (P : A → Type 0) (Q : B → Type 0) (f : A → B) → ((one : A) → P one → Q (f one)) → (ones : List A) → Each P ones → Each Q (map f ones)
each_map P Q f so [] each = tt
each_map P Q f so (one ∷ ones) each = (so one each.0, each_map P Q f so ones each.1)

pub each_weaken : {A : Type 0} (P Q : A → Type 0) → ((one : A) → P one → Q one) → (ones : List A) → Each P ones → Each Q ones
each_weaken P Q so [] each = tt
each_weaken P Q so (one ∷ ones) each = (so one each.0, each_weaken P Q so ones each.1)

module _ (next : ℕ → List ℕ) (session : ℕ) where
  -- it is the one that is found among all walks
  found_single : (from : ℕ) (b : Bool) → contains (next from) session ≡ b
      → find (last_waits_for next session) ((from ∷ []) ∷ []) ≡ (if b then Some (from ∷ []) else None)
  found_single from true is = rw is refl
  found_single from false is = rw is refl

  found_over : (steps from : ℕ) → ((one : ℕ) → find (last_waits_for next session) (walks next steps one) ≡ first_walk next session steps one) → (ones : List ℕ)
      → find (λ walk. last_waits_for next session (from ∷ walk)) (flat_map (walks next steps) ones) ≡ first_of (first_walk next session steps) ones
  found_over steps from is [] = refl
  found_over steps from is (one ∷ ones) =
      find-append (λ walk. last_waits_for next session (from ∷ walk)) (walks next steps one) (flat_map (walks next steps) ones)
      ∙ ap (λ found. option_or found (find (λ walk. last_waits_for next session (from ∷ walk)) (flat_map (walks next steps) ones)))
      (walks_alike next (λ walk. last_waits_for next session (from ∷ walk)) (last_waits_for next session) steps one (λ rest. refl) ∙ is one)
      ∙ ap (λ found. option_or (first_walk next session steps one) found) (found_over steps from is ones)

  pub first_walk_is : (steps from : ℕ) → find (last_waits_for next session) (walks next steps from) ≡ first_walk next session steps from
  first_walk_is zero from = found_single from (contains (next from) session) refl
  first_walk_is (suc steps) from =
      found_after (last_waits_for next session) from (flat_map (walks next steps) (next from))
      ∙ ap (option_map (λ walk. from ∷ walk)) (found_over steps from (first_walk_is steps) (next from))

  -- there is one exactly where one who waits for the session is reached
  some_kept : (from : ℕ) (found : Option (List ℕ)) → is_some (option_map (λ walk. from ∷ walk) found) ≡ is_some found
  some_kept from None = refl
  some_kept from (Some walk) = refl

  some_either : (a b : Option (List ℕ)) → is_some (option_or a b) ≡ (is_some a || is_some b)
  some_either None b = refl
  some_either (Some walk) b = refl

  some_single : (from : ℕ) (b : Bool) → is_some (if b then Some (from ∷ []) else None) ≡ b
  some_single from true = refl
  some_single from false = refl

  some_over : (steps : ℕ) → ((one : ℕ) → is_some (first_walk next session steps one) ≡ reaches next session steps one) → (ones : List ℕ)
      → is_some (first_of (first_walk next session steps) ones) ≡ list_any (reaches next session steps) ones
  some_over steps is [] = refl
  some_over steps is (one ∷ ones) =
      some_either (first_walk next session steps one) (first_of (first_walk next session steps) ones)
      ∙ ap (λ b. b || is_some (first_of (first_walk next session steps) ones)) (is one)
      ∙ ap (λ b. reaches next session steps one || b) (some_over steps is ones)

  pub is_reached : (steps from : ℕ) → is_some (first_walk next session steps from) ≡ reaches next session steps from
  is_reached zero from = some_single from (contains (next from) session)
  is_reached (suc steps) from =
      some_kept from (first_of (first_walk next session steps) (next from)) ∙ some_over steps (is_reached steps) (next from)

  -- a walk of so many steps from here
  pub data IsWalk : ℕ → ℕ → List ℕ → Type 0 where
    here : {from : ℕ} → IsWalk zero from (from ∷ [])
    step : {steps from one : ℕ} {walk : List ℕ} → contains (next from) one ≡ true → IsWalk steps one walk → IsWalk (suc steps) from (from ∷ walk)

  last_is : {steps one : ℕ} {walk : List ℕ} (from : ℕ) → IsWalk steps one walk
      → last_waits_for next session (from ∷ walk) ≡ last_waits_for next session walk
  last_is from here = refl
  last_is from (step among rest) = refl

  reached_by : {steps from : ℕ} {walk : List ℕ} → IsWalk steps from walk → last_waits_for next session walk ≡ true → reaches next session steps from ≡ true
  reached_by here waits = waits
  reached_by {steps = suc steps} {from = from} (step {one = one} among rest) waits =
      any_of (reaches next session steps) one (next from) among (reached_by rest (sym (last_is from rest) ∙ waits))

  -- whoever stands on such a walk is reached by it in no more steps
  standing_here : (from one : ℕ) → (from == one || false) ≡ true → contains (next from) session ≡ true → (fewer : ℕ) × (fewer ≤ 0) × (reaches next session fewer one ≡ true)
  standing_here from one among waits = (0, omega arith, subst (λ one. reaches next session 0 one ≡ true) (eqb-true from one (or_only (from == one) among)) waits)
    where
      or_only : (b : Bool) → (b || false) ≡ true → b ≡ true
      or_only true is = refl
      or_only false is = is

  standing_by : (steps from one : ℕ) (walk : List ℕ) (b : Bool) → (from == one) ≡ b → contains (from ∷ walk) one ≡ true → reaches next session (suc steps) from ≡ true
      → (contains walk one ≡ true → (fewer : ℕ) × (fewer ≤ steps) × (reaches next session fewer one ≡ true))
      → (fewer : ℕ) × (fewer ≤ suc steps) × (reaches next session fewer one ≡ true)
  standing_by steps from one walk true same among reached later =
      (suc steps, omega arith, subst (λ one. reaches next session (suc steps) one ≡ true) (eqb-true from one same) reached)
  standing_by steps from one walk false differ among reached later =
      let rest = later (or_rest (from == one) (contains walk one) differ among) in (rest.0, omega (arith, rest.1), rest.2)

  standing : {steps from : ℕ} {walk : List ℕ} → IsWalk steps from walk → last_waits_for next session walk ≡ true → (one : ℕ) → contains walk one ≡ true
      → (fewer : ℕ) × (fewer ≤ steps) × (reaches next session fewer one ≡ true)
  standing {from = from} here waits one among = standing_here from one among waits
  standing {steps = suc steps} {from = from} (step {walk = walk} there rest) waits one among =
      standing_by steps from one walk (from == one) refl among (reached_by (step there rest) waits)
      (λ later. standing rest (sym (last_is from rest) ∙ waits) one later)

  -- so a walk on which somebody stands twice can be cut short
  shorter_by : (steps from : ℕ) (walk : List ℕ) (b : Bool) → contains walk from ≡ b → all_differ (from ∷ walk) ≡ false
      → (contains walk from ≡ true → (fewer : ℕ) × (fewer ≤ steps) × (reaches next session fewer from ≡ true))
      → (all_differ walk ≡ false → (fewer : ℕ) × (fewer < suc steps) × (reaches next session fewer from ≡ true))
      → (fewer : ℕ) × (fewer < suc steps) × (reaches next session fewer from ≡ true)
  shorter_by steps from walk true again differ twice later = let found = twice again in (found.0, omega (arith, found.1), found.2)
  shorter_by steps from walk false once differ twice later = later (and_rest (contains walk from) (all_differ walk) once differ)

  shorter : {steps from : ℕ} {walk : List ℕ} → IsWalk steps from walk → last_waits_for next session walk ≡ true → all_differ walk ≡ false
      → (fewer : ℕ) × (fewer < steps) × (reaches next session fewer from ≡ true)
  shorter here waits differ = absurd (cc)
  shorter {steps = suc steps} {from = from} (step {one = one} {walk = walk} there rest) waits differ =
      shorter_by steps from walk (contains walk from) refl differ (λ again. standing rest (sym (last_is from rest) ∙ waits) from again)
      (λ later. let found = shorter rest (sym (last_is from rest) ∙ waits) later in
      (suc found.0, omega (arith, found.1), any_of (reaches next session found.0) one (next from) there found.2))

  -- each of the walks is one
  each_over : (steps from : ℕ) → ((one : ℕ) → Each (IsWalk steps one) (walks next steps one)) → (ones : List ℕ)
      → ((one : ℕ) → contains ones one ≡ true → contains (next from) one ≡ true)
      → Each (λ walk. IsWalk (suc steps) from (from ∷ walk)) (flat_map (walks next steps) ones)
  each_over steps from each [] among = tt
  each_over steps from each (one ∷ ones) among =
      each_append (λ walk. IsWalk (suc steps) from (from ∷ walk)) (walks next steps one) (flat_map (walks next steps) ones)
      (each_weaken (IsWalk steps one) (λ walk. IsWalk (suc steps) from (from ∷ walk)) (λ walk is. step (among one (or_left (one == one) (contains ones one) (same_itself one))) is) (walks next steps one) (each one))
      (each_over steps from each ones (λ other there. among other (or_right (one == other) (contains ones other) there)))

  pub each_walk : (steps from : ℕ) → Each (IsWalk steps from) (walks next steps from)
  each_walk zero from = (here, tt)
  each_walk (suc steps) from =
      each_map (λ walk. IsWalk (suc steps) from (from ∷ walk)) (IsWalk (suc steps) from) (λ walk. from ∷ walk) (λ walk is. is)
      (flat_map (walks next steps) (next from)) (each_over steps from (each_walk steps) (next from) (λ one there. there))

  -- where nobody who waits for the session is reached in fewer steps, the walks that lead to one close
  closing_by : (steps : ℕ) (walk : List ℕ) (all : List (List ℕ)) (b d : Bool) → last_waits_for next session walk ≡ b → all_differ walk ≡ d → IsWalk steps session walk
      → ((fewer : ℕ) → fewer < steps → reaches next session fewer session ≡ false)
      → find (closes next session) all ≡ find (last_waits_for next session) all
      → find (closes next session) (walk ∷ all) ≡ find (last_waits_for next session) (walk ∷ all)
  closing_by steps walk all true true waits differ is none later = rw (waits, differ) refl
  closing_by steps walk all true false waits differ is none later =
      let found = shorter is waits differ in absurd (not_both (reaches next session found.0 session) found.2 (none found.0 found.1))
  closing_by steps walk all false d waits differ is none later = rw (waits, and_none (all_differ walk) false refl) later

  closing : (steps : ℕ) → ((fewer : ℕ) → fewer < steps → reaches next session fewer session ≡ false) → (all : List (List ℕ)) → Each (IsWalk steps session) all
      → find (closes next session) all ≡ find (last_waits_for next session) all
  closing steps none [] each = refl
  closing steps none (walk ∷ all) each =
      closing_by steps walk all (last_waits_for next session walk) (all_differ walk) refl refl each.0 none (closing steps none all each.1)

  -- so the first walk is the first one that closes
  pub first_closing : (steps : ℕ) → ((fewer : ℕ) → fewer < steps → reaches next session fewer session ≡ false)
      → find (closes next session) (walks next steps session) ≡ first_walk next session steps session
  first_closing steps none = closing steps none (walks next steps session) (each_walk steps session) ∙ first_walk_is steps session

  -- the first cycle of so many steps or more, where there is none of fewer
  pub cycle_here : (steps more : ℕ) → ((fewer : ℕ) → fewer < steps → reaches next session fewer session ≡ false)
      → reaches next session steps session ≡ true
      → first_cycle next session (range_with_len steps (suc more)) ≡ first_walk next session steps session
  cycle_here steps more none reached =
      ap (λ found. option_or found (first_cycle next session (range_with_len (steps + 1) more))) (first_closing steps none)
      ∙ alone (first_walk next session steps session) (is_reached steps session ∙ reached)
    where
      alone : (found : Option (List ℕ)) → is_some found ≡ true
          → option_or found (first_cycle next session (range_with_len (steps + 1) more)) ≡ found
      alone None some = cc
      alone (Some walk) some = refl

  pub cycle_later : (steps more : ℕ) → ((fewer : ℕ) → fewer < steps → reaches next session fewer session ≡ false)
      → reaches next session steps session ≡ false
      → first_cycle next session (range_with_len steps (suc more)) ≡ first_cycle next session (range_with_len (steps + 1) more)
  cycle_later steps more none unreached =
      ap (λ found. option_or found (first_cycle next session (range_with_len (steps + 1) more))) (first_closing steps none)
      ∙ past (first_walk next session steps session) (is_reached steps session ∙ unreached)
    where
      past : (found : Option (List ℕ)) → is_some found ≡ false
          → option_or found (first_cycle next session (range_with_len (steps + 1) more)) ≡ first_cycle next session (range_with_len (steps + 1) more)
      past None some = refl
      past (Some walk) some = cc
