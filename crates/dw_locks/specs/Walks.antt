-- For whom each session waits, as a table, and who is reached from where by walks over it.
use Rattle.std.specs.Prelude.{◌≡◌, ℕ, zero, suc, ◌<◌, Bool, if◌then◌else◌, List, [], ◌∷◌, length, map, get_or, Option, Some, None, option_map, All}
use Rattle.std.specs.List.{list_any, range_with_len}
use Rattle.std.specs.Option.{option_or}
use Rattle.dw_journal.specs.Locks.{contains}

-- for whom a session waits, by a table with a line for each session, the background worker's first
abbrev pub waits_in : List (List ℕ) → ℕ → List ℕ
waits_in waits session = get_or waits session []

-- each of them is a session of the table
abbrev pub AreSessions : List (List ℕ) → Type 0
AreSessions waits = All (All (λ other. other < length waits)) waits

-- whether a walk of so many steps leads from a session to one who waits for this one
abbrev pub reaches : (ℕ → List ℕ) → ℕ → ℕ → ℕ → Bool
reaches next session zero from = contains (next from) session
reaches next session (suc steps) from = list_any (reaches next session steps) (next from)

-- that of each of so many sessions
abbrev pub reached_level : (ℕ → List ℕ) → ℕ → ℕ → ℕ → List Bool
reached_level next session count steps = map (reaches next session steps) (range_with_len 0 count)

-- the first of the answers that is one
abbrev pub first_of : {A : Type 0} → (ℕ → Option A) → List ℕ → Option A
first_of answer [] = None
first_of answer (one ∷ more) = option_or (answer one) (first_of answer more)

-- the first walk of so many steps from a session to one who waits for this one
abbrev pub first_walk : (ℕ → List ℕ) → ℕ → ℕ → ℕ → Option (List ℕ)
first_walk next session zero from = if contains (next from) session then Some (from ∷ []) else None
first_walk next session (suc steps) from =
    option_map (λ walk. from ∷ walk) (first_of (first_walk next session steps) (next from))

-- the first walk from a session, if there is one
abbrev pub walk_over : (ℕ → List ℕ) → ℕ → ℕ → Option ℕ → Option (List ℕ)
walk_over next session steps None = None
walk_over next session steps (Some one) = first_walk next session steps one

-- the levels of so few steps, from the lowest on
abbrev pub AreLevels : List (List ℕ) → ℕ → List (List Bool) → Type 0
AreLevels waits session levels =
    levels ≡ map (reached_level (waits_in waits) session (length waits)) (range_with_len 0 (length levels))
