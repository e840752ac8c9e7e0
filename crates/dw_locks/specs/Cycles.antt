-- Cycles of sessions that wait for one another.
use Rattle.std.specs.Prelude.{◌≡◌, ℕ, Bool, true, ◌&&◌, List, [], ◌∷◌}
use Rattle.dw_journal.specs.Locks.{contains, all_differ, last_waits_for}

-- the list begins with the session
abbrev pub IsFirst : ℕ → List ℕ → Type 0
IsFirst session [] = ⊥
IsFirst session (first ∷ rest) = first ≡ session

-- each but the last waits for the next
abbrev pub each_waits : (ℕ → List ℕ) → List ℕ → Bool
each_waits next [] = true
each_waits next (last ∷ []) = true
each_waits next (first ∷ second ∷ rest) = contains (next first) second && each_waits next (second ∷ rest)

-- Different sessions, of which this one is the first: each waits for the next, and the last for the first.
pub record IsCycle (next : ℕ → List ℕ) (session : ℕ) (cycle : List ℕ) : Type 0 where
  pub begins : IsFirst session cycle
  pub differ : all_differ cycle ≡ true
  pub waits : each_waits next cycle ≡ true
  pub closes : last_waits_for next session cycle ≡ true
