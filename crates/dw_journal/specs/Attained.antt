-- What the watermarks are, said from outside: bounds that some commit attains.
use Rattle.std.specs.Prelude.{◌≡◌, ℕ, ◌+◌, ◌≤◌, ◌⊎◌, Bool, true, List, ◌∷◌, ◌++◌, length}
use Rattle.dw_journal.specs.declared.Certified.{Certified}
use Rattle.dw_journal.specs.declared.Taken.{Taken}
use Rattle.dw_journal.specs.Watermarks.{counts_for_low, counts_for_high}

-- one of these commits, newest first, that counts by a test of its stamp and itself
pub record CountedCommit (counts : ℕ → Certified → Bool) (commits : List Certified) : Type 0 where
  pub between : List Certified
  pub commit : Certified
  pub older : List Certified
  pub stands : commits ≡ between ++ commit ∷ older
  pub counted : counts (length older + 1) commit ≡ true

-- the least of a transaction's own stamp and the low watermarks of the commits that count for it
pub record IsLeastLow (taken : Taken) (commits : List Certified) (low : ℕ) : Type 0 where
  pub within : low ≤ length commits + 1
  pub least : (c : CountedCommit (λ stamp commit. counts_for_low stamp taken commit) commits) → low ≤ c.commit.low
  pub attained : (low ≡ length commits + 1)
      ⊎ ((c : CountedCommit (λ stamp commit. counts_for_low stamp taken commit) commits) × (low ≡ c.commit.low))

-- the greatest of 0 and the stamps of the commits that count for it
pub record IsGreatestStamp (taken : Taken) (commits : List Certified) (high : ℕ) : Type 0 where
  pub greatest : (c : CountedCommit (λ stamp commit. counts_for_high stamp taken commit) commits) → length c.older + 1 ≤ high
  pub attained : (high ≡ 0)
      ⊎ ((c : CountedCommit (λ stamp commit. counts_for_high stamp taken commit) commits) × (high ≡ length c.older + 1))
