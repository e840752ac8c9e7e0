-- Histories: lists of entries, the oldest first, each entry with a number.
use Rattle.std.specs.Prelude.{◌≡◌, ℕ, ◌==◌, List, ◌++◌, length, filter, All, cond, leb}

module _ {E : Type 0} where
  -- the history begins with the front
  abbrev pub IsFront : List E → List E → Type 0
  IsFront front history = (rest : List E) × (history ≡ front ++ rest)

  -- the longer of two histories
  abbrev pub longer : List E → List E → List E
  longer one other = cond (leb (length other) (length one)) one other

module _ {E : Type 0} (number_of : E → ℕ) where
  -- the entries of one number, in their order
  abbrev pub entries_of : ℕ → List E → List E
  entries_of number history = filter (λ entry. number_of entry == number) history

  abbrev pub AreOf : ℕ → List E → Type 0
  AreOf number entries = All (λ entry. number_of entry ≡ number) entries

  -- the history after is the one before with entries of this number after it
  abbrev pub AppendsOnly : ℕ → List E → List E → Type 0
  AppendsOnly number before after = (entries : List E) × (after ≡ before ++ entries) × AreOf number entries
