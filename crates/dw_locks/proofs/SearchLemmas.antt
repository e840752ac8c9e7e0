-- The search for a cycle, level by level.
use Rattle.std.proofs.Common.{◌≡◌, ℕ, suc, ◌+◌, ◌-◌, ◌<◌, ◌≤◌, Bool, true, false, List, [], ◌∷◌, ◌++◌, length, map, get_or, ap, sym, refl, ◌∙◌, ◌⊎◌, inl, inr, arith}
use Rattle.std.specs.Prelude.{None}
use Rattle.std.specs.List.{range_with_len}
use Rattle.std.proofs.lemmas.Bool.{cases_lt}
use Rattle.std.proofs.lemmas.List.{length_push}
use Rattle.std.proofs.lemmas.List.FromFn.{map-range_with_len_more, get_or-map-range_with_len}
use Rattle.dw_journal.specs.Locks.{first_cycle}
use Rattle.dw_locks.specs.Walks.{waits_in, AreLevels, reaches, reached_level, first_walk}
use Rattle.dw_locks.proofs.WalkLemmas.{cycle_here, cycle_later}

-- the levels below so many steps are known, and that of so many; no walk of fewer closes a cycle
pub record HasSearched (waits : List (List ℕ)) (session steps : ℕ) (levels : List (List Bool)) (level : List Bool) : Type 0 where
  pub are : AreLevels waits session levels
  pub counted : length levels ≡ steps
  pub is : level ≡ reached_level (waits_in waits) session (length waits) steps
  pub none : (fewer : ℕ) → fewer < steps → reaches (waits_in waits) session fewer session ≡ false
  pub rest : first_cycle (waits_in waits) session (range_with_len 0 (length waits))
      ≡ first_cycle (waits_in waits) session (range_with_len steps (length waits - steps))

whole : (count : ℕ) → count ≡ count - 0
whole count = omega arith

pub search_begins : (waits : List (List ℕ)) (session : ℕ) (level : List Bool) → level ≡ reached_level (waits_in waits) session (length waits) 0
    → HasSearched waits session 0 [] level
search_begins waits session level is = record {
  are = refl;
  counted = refl;
  is = is;
  none = λ fewer below. absurd (omega (arith, below));
  rest = ap (λ count. first_cycle (waits_in waits) session (range_with_len 0 count)) (whole (length waits));
}

module _ (waits : List (List ℕ)) (session steps : ℕ) (levels pushed : List (List Bool)) (level : List Bool) (so_far : HasSearched waits session steps levels level)
    (among : session < length waits) (left : steps < length waits) (pushes : pushed ≡ levels ++ level ∷ []) where
  one_more : length pushed ≡ steps + 1
  one_more = ap length pushes ∙ length_push levels level ∙ ap (λ count. count + 1) so_far.counted

  pub pushed_are : AreLevels waits session pushed
  pushed_are =
      pushes
      ∙ ap (λ levels. levels ++ level ∷ []) (so_far.are ∙ ap (λ count. map (reached_level (waits_in waits) session (length waits)) (range_with_len 0 count)) so_far.counted)
      ∙ ap (λ level. map (reached_level (waits_in waits) session (length waits)) (range_with_len 0 steps) ++ level ∷ []) so_far.is
      ∙ sym (map-range_with_len_more (reached_level (waits_in waits) session (length waits)) 0 steps steps (omega arith))
      ∙ ap (λ count. map (reached_level (waits_in waits) session (length waits)) (range_with_len 0 count)) (sym one_more)

  told : get_or level session false ≡ reaches (waits_in waits) session steps session
  told = ap (λ level. get_or level session false) so_far.is
      ∙ get_or-map-range_with_len (reaches (waits_in waits) session steps) 0 (length waits) session session false among (omega arith)

  some_left : (more : ℕ) × (length waits - steps ≡ suc more)
  some_left = (length waits - steps - 1, omega (arith, left))

  pub search_ends : get_or level session false ≡ true
      → first_walk (waits_in waits) session (length pushed - 1) session ≡ first_cycle (waits_in waits) session (range_with_len 0 (length waits))
  search_ends closes =
      let last : length pushed - 1 ≡ steps = omega (arith, one_more) in
      ap (λ steps. first_walk (waits_in waits) session steps session) last
      ∙ sym (so_far.rest ∙ ap (λ count. first_cycle (waits_in waits) session (range_with_len steps count)) some_left.1
      ∙ cycle_here (waits_in waits) session steps some_left.0 so_far.none (sym told ∙ closes))

  none_by : (fewer : ℕ) → reaches (waits_in waits) session steps session ≡ false → (fewer < steps) ⊎ (fewer ≡ steps) → reaches (waits_in waits) session fewer session ≡ false
  none_by fewer unreached (inl below) = so_far.none fewer below
  none_by fewer unreached (inr same) = ap (λ fewer. reaches (waits_in waits) session fewer session) same ∙ unreached

  at_most : (fewer : ℕ) → fewer < steps + 1 → (fewer < steps) ⊎ (fewer ≡ steps)
  at_most fewer below = elim (cases_lt fewer steps) [ inl less ↦ inl less | inr least ↦ inr (omega (arith, below, least)) ]

  pub search_goes_on : (next : List Bool) → get_or level session false ≡ false → next ≡ reached_level (waits_in waits) session (length waits) (suc steps)
      → HasSearched waits session (steps + 1) pushed next
  search_goes_on next unclosed is =
      let unreached = sym told ∙ unclosed in
      let fewer : some_left.0 ≡ length waits - (steps + 1) = omega (arith, some_left.1) in
      let same : suc steps ≡ steps + 1 = omega arith in record {
        are = pushed_are;
        counted = one_more;
        is = is ∙ ap (reached_level (waits_in waits) session (length waits)) same;
        none = λ fewer below. none_by fewer unreached (at_most fewer below);
        rest = so_far.rest ∙ ap (λ count. first_cycle (waits_in waits) session (range_with_len steps count)) some_left.1
            ∙ cycle_later (waits_in waits) session steps some_left.0 so_far.none unreached
            ∙ ap (λ count. first_cycle (waits_in waits) session (range_with_len (steps + 1) count)) fewer;
      }

-- past the last level there is no cycle
pub search_past : (waits : List (List ℕ)) (session steps : ℕ) (levels : List (List Bool)) (level : List Bool) → HasSearched waits session steps levels level
    → length waits ≤ steps → None ≡ first_cycle (waits_in waits) session (range_with_len 0 (length waits))
search_past waits session steps levels level so_far past =
    let none : length waits - steps ≡ 0 = omega (arith, past) in
    sym (so_far.rest ∙ ap (λ count. first_cycle (waits_in waits) session (range_with_len steps count)) none)
