-- Levels: who is reached in so many steps, session by session.
use Rattle.std.proofs.Common.{◌≡◌, ℕ, zero, suc, ◌+◌, ◌-◌, ◌<◌, Bool, true, false, ◌||◌, List, [], ◌∷◌, ◌++◌, length, map, get_or, ap, sym, refl, subst, ◌∙◌, arith}
use Rattle.std.specs.Prelude.{Option, Some, None, is_some, option_map, if◌then◌else◌, All, IfSome}
use Rattle.std.specs.List.{list_any, find, range_with_len}
use Rattle.std.proofs.lemmas.List.Elements.{All-get_or, All-tail}
use Rattle.std.proofs.lemmas.List.FromFn.{map-range_with_len_more, get_or-map-range_with_len, length-map-range_with_len}
use Rattle.std.proofs.lemmas.List.{append_assoc}
use Rattle.dw_locks.specs.Walks.{waits_in, AreSessions, reaches, reached_level, AreLevels, first_of, first_walk, walk_over}
use Rattle.dw_locks.proofs.WalkLemmas.{is_reached}

-- one more session is told
pub level_more : (f : ℕ → Bool) (level pushed : List Bool) (count : ℕ) (told : Bool) → pushed ≡ level ++ told ∷ []
    → level ≡ map f (range_with_len 0 count) → told ≡ f count → pushed ≡ map f (range_with_len 0 (count + 1))
level_more f level pushed count told pushes is same =
    pushes ∙ ap (λ level. level ++ told ∷ []) is ∙ ap (λ told. map f (range_with_len 0 count) ++ told ∷ []) same
    ∙ sym (map-range_with_len_more f 0 count count (omega arith))

-- tests that agree on the sessions of a line
any_alike : (p q : ℕ → Bool) (count : ℕ) → ((one : ℕ) → one < count → p one ≡ q one) → (ones : List ℕ) → All (λ one. one < count) ones
    → list_any p ones ≡ list_any q ones
any_alike p q count same [] within = refl
any_alike p q count same (one ∷ ones) within =
    ap (λ b. b || list_any p ones) (same one (All-get_or (λ one. one < count) (one ∷ ones) 0 one (omega arith) within))
    ∙ ap (λ b. q one || b) (any_alike p q count same ones (All-tail (λ one. one < count) one ones within))

-- functions that agree on the first numbers
map_alike : {X : Type 0} (f g : ℕ → X) (from count : ℕ) → ((one : ℕ) → one < from + count → f one ≡ g one)
    → map f (range_with_len from count) ≡ map g (range_with_len from count)
map_alike f g from zero same = refl
map_alike f g from (suc count) same =
    ap (λ first. first ∷ map f (range_with_len (from + 1) count)) (same from (omega arith))
    ∙ ap (λ rest. g from ∷ rest) (map_alike f g (from + 1) count (λ one below. same one (omega (arith, below))))

-- one step more
pub level_next : (waits : List (List ℕ)) (fewer : List Bool) (session steps : ℕ) → AreSessions waits
    → fewer ≡ reached_level (waits_in waits) session (length waits) steps
    → map (λ from. list_any (λ one. get_or fewer one false) (waits_in waits from)) (range_with_len 0 (length waits))
    ≡ reached_level (waits_in waits) session (length waits) (suc steps)
level_next waits fewer session steps each is =
    map_alike (λ from. list_any (λ one. get_or fewer one false) (waits_in waits from)) (reaches (waits_in waits) session (suc steps)) 0 (length waits)
    (λ from below. any_alike (λ one. get_or fewer one false) (reaches (waits_in waits) session steps) (length waits)
    (λ one within. ap (λ level. get_or level one false) is ∙ get_or-map-range_with_len (reaches (waits_in waits) session steps) 0 (length waits) one one false within (omega arith))
    (waits_in waits from) (All-get_or (All (λ other. other < length waits)) waits from [] (omega (arith, below)) each))

-- tests that agree on the sessions of a line find the same
found_on : (p q : ℕ → Bool) (one : ℕ) (ones : List ℕ) (b : Bool) → p one ≡ b → q one ≡ b → find p ones ≡ find q ones → find p (one ∷ ones) ≡ find q (one ∷ ones)
found_on p q one ones true is same later = rw (is, same) refl
found_on p q one ones false is same later = rw (is, same) later

pub find_alike : (p q : ℕ → Bool) (count : ℕ) → ((one : ℕ) → one < count → p one ≡ q one) → (ones : List ℕ) → All (λ one. one < count) ones
    → find p ones ≡ find q ones
find_alike p q count same [] within = refl
find_alike p q count same (one ∷ ones) within =
    found_on p q one ones (q one) (same one (All-get_or (λ one. one < count) (one ∷ ones) 0 one (omega arith) within)) refl
    (find_alike p q count same ones (All-tail (λ one. one < count) one ones within))

-- what is found is one of them
found_by : (p : ℕ → Bool) (count one first : ℕ) (ones : List ℕ) (b : Bool) → p first ≡ b → first < count → find p (first ∷ ones) ≡ Some one
    → (find p ones ≡ Some one → one < count) → one < count
found_by p count one first ones true is below found later =
    let same : Some first ≡ Some one = sym (ap (λ b. if b then Some first else find p ones) is) ∙ found in subst (λ one. one < count) (inside first one same) below
  where
    inside : (a b : ℕ) → Some a ≡ Some b → a ≡ b
    inside a b same = cc
found_by p count one first ones false is below found later = later (sym (ap (λ b. if b then Some first else find p ones) is) ∙ found)

pub found_within : (p : ℕ → Bool) (count one : ℕ) (ones : List ℕ) → All (λ one. one < count) ones → find p ones ≡ Some one → one < count
found_within p count one [] within found = absurd (cc)
found_within p count one (first ∷ ones) within found =
    found_by p count one first ones (p first) refl (All-get_or (λ one. one < count) (first ∷ ones) 0 first (omega arith) within) found
    (λ later. found_within p count one ones (All-tail (λ one. one < count) first ones within) later)

module _ (next : ℕ → List ℕ) (session : ℕ) where
  over_by : (steps one : ℕ) (ones : List ℕ) (b : Bool) (walk : Option (List ℕ)) → reaches next session steps one ≡ b → first_walk next session steps one ≡ walk → is_some walk ≡ b
      → first_of (first_walk next session steps) ones ≡ walk_over next session steps (find (reaches next session steps) ones)
      → first_of (first_walk next session steps) (one ∷ ones) ≡ walk_over next session steps (find (reaches next session steps) (one ∷ ones))
  over_by steps one ones true None is walks some later = cc
  over_by steps one ones true (Some walk) is walks some later = rw (is, walks) refl
  over_by steps one ones false None is walks some later = rw (is, walks) later
  over_by steps one ones false (Some walk) is walks some later = cc

  pub first_over : (steps : ℕ) (ones : List ℕ) → first_of (first_walk next session steps) ones ≡ walk_over next session steps (find (reaches next session steps) ones)
  first_over steps [] = refl
  first_over steps (one ∷ ones) =
      over_by steps one ones (reaches next session steps one) (first_walk next session steps one) refl refl (is_reached next session steps one) (first_over steps ones)

-- the level of so many steps
pub level_at : (waits : List (List ℕ)) (session : ℕ) (levels : List (List Bool)) (steps : ℕ) (level : List Bool) → AreLevels waits session levels → steps < length levels
    → level ≡ get_or levels steps level → level ≡ reached_level (waits_in waits) session (length waits) steps
level_at waits session levels steps level are within is =
    is ∙ ap (λ levels. get_or levels steps level) are
    ∙ get_or-map-range_with_len (reached_level (waits_in waits) session (length waits)) 0 (length levels) steps steps level within (omega arith)

-- a step of the walk
pub step_over : (waits : List (List ℕ)) (session steps : ℕ) (level : List Bool) (ones : List ℕ) (found : Option ℕ) → level ≡ reached_level (waits_in waits) session (length waits) steps
    → All (λ one. one < length waits) ones → found ≡ find (λ one. get_or level one false) ones
    → first_of (first_walk (waits_in waits) session steps) ones ≡ walk_over (waits_in waits) session steps found
step_over waits session steps level ones found is within finds =
    first_over (waits_in waits) session steps ones
    ∙ ap (walk_over (waits_in waits) session steps)
    (sym (finds ∙ find_alike (λ one. get_or level one false) (reaches (waits_in waits) session steps) (length waits)
    (λ one below. ap (λ level. get_or level one false) is ∙ get_or-map-range_with_len (reaches (waits_in waits) session steps) 0 (length waits) one one false below (omega arith)) ones within))

pub length-level : (waits : List (List ℕ)) (session steps : ℕ) (level : List Bool) → level ≡ reached_level (waits_in waits) session (length waits) steps → length level ≡ length waits
length-level waits session steps level is =
    ap length is ∙ length-map-range_with_len (reaches (waits_in waits) session steps) 0 (length waits)

pub found_is_within : (p : ℕ → Bool) (count : ℕ) (ones : List ℕ) (found : Option ℕ) → All (λ one. one < count) ones → found ≡ find p ones → IfSome found (λ one. one < count)
found_is_within p count ones None within finds = tt
found_is_within p count ones (Some one) within finds = found_within p count one ones within (sym finds)

-- the walk goes on over one more session
append_on : (walk : List ℕ) (from : ℕ) (rest : Option (List ℕ))
    → option_map (λ rest. walk ++ rest) (option_map (λ rest. from ∷ rest) rest) ≡ option_map (λ rest. (walk ++ from ∷ []) ++ rest) rest
append_on walk from None = refl
append_on walk from (Some rest) = ap Some (sym (append_assoc walk (from ∷ []) rest))

pub walk_on : (next : ℕ → List ℕ) (session steps turn from one : ℕ) (walk pushed : List ℕ) (whole : Option (List ℕ)) → turn < steps → pushed ≡ walk ++ from ∷ []
    → whole ≡ option_map (λ rest. walk ++ rest) (first_walk next session (steps - turn) from)
    → first_of (first_walk next session (steps - turn - 1)) (next from) ≡ first_walk next session (steps - turn - 1) one
    → whole ≡ option_map (λ rest. pushed ++ rest) (first_walk next session (steps - (turn + 1)) one)
walk_on next session steps turn from one walk pushed whole within pushes is over =
    let left : steps - turn ≡ suc (steps - turn - 1) = omega (arith, within) in
    let fewer : steps - turn - 1 ≡ steps - (turn + 1) = omega (arith, within) in
    is ∙ ap (λ left. option_map (λ rest. walk ++ rest) (first_walk next session left from)) left
    ∙ ap (λ found. option_map (λ rest. walk ++ rest) (option_map (λ rest. from ∷ rest) found)) over
    ∙ append_on walk from (first_walk next session (steps - turn - 1) one)
    ∙ ap (λ front. option_map (λ rest. front ++ rest) (first_walk next session (steps - turn - 1) one)) (sym pushes)
    ∙ ap (λ left. option_map (λ rest. pushed ++ rest) (first_walk next session left one)) fewer
