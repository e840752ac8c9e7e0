-- The edge lemma: pure arithmetic on certified commits. And how the watermarks are attained.
use Rattle.std.proofs.Common.{◌≡◌, ℕ, ◌+◌, ◌≤◌, ◌<◌, true, List, [], ◌∷◌, ◌++◌, length, subst, arith}
use Rattle.std.proofs.lemmas.Bool.Decides.{nat_tests}
use Rattle.dw_journal.specs.declared.Certified.{Certified}
use Rattle.dw_journal.specs.declared.Taken.{Taken}
use Rattle.dw_journal.specs.Watermarks.{overlaps, low_over, high_over, counts_for_low, counts_for_high, high_watermark}
use Rattle.dw_journal.specs.Edges.{IsCertified}

-- a low watermark is at most the stamp
pub low_over-le : (stamp : ℕ) (taken : Taken) (commits : List Certified) → low_over stamp taken commits ≤ stamp
low_over-le stamp taken [] = omega arith
low_over-le stamp taken (commit ∷ older) = grind (arith, nat_tests, low_over-le stamp taken older)

-- a high watermark is no greater than the number of commits
pub high_over-le : (taken : Taken) (commits : List Certified) → high_over taken commits ≤ length commits
high_over-le taken [] = omega arith
high_over-le taken (commit ∷ older) = grind (arith, nat_tests, high_over-le taken older)

-- a commit that counts is at most the high watermark
pub high_over-counts : (taken : Taken) (between : List Certified) (commit : Certified) (older : List Certified)
    → counts_for_high (length (commit ∷ older)) taken commit ≡ true → length older + 1 ≤ high_over taken (between ++ commit ∷ older)
high_over-counts taken [] commit older counts = rw counts (omega arith)
high_over-counts taken (first ∷ between) commit older counts =
    grind (arith, nat_tests, high_over-counts taken between commit older counts)

-- the low watermark is at most that of a commit that counts
pub low_over-counts : (stamp : ℕ) (taken : Taken) (between : List Certified) (commit : Certified) (older : List Certified)
    → counts_for_low (length (commit ∷ older)) taken commit ≡ true → low_over stamp taken (between ++ commit ∷ older) ≤ commit.low
low_over-counts stamp taken [] commit older counts = rw counts (omega arith)
low_over-counts stamp taken (first ∷ between) commit older counts =
    grind (arith, nat_tests, low_over-counts stamp taken between commit older counts)

-- the older part of a list of certified commits is certified
pub certified_part : (between older : List Certified) → IsCertified (between ++ older) → IsCertified older
certified_part [] older is = is
certified_part (first ∷ between) older is = certified_part between older is.3

low_le_stamp : (commit : Certified) (older : List Certified) → IsCertified (commit ∷ older) → commit.low ≤ length older + 1
low_le_stamp commit older is = omega (arith, is.1, low_over-le (length older + 1) commit.taken older)

module _ (later earlier : Certified) (between older : List Certified) (is : IsCertified (later ∷ between ++ earlier ∷ older)) where
  pub forward : counts_for_high (length older + 1) later.taken earlier ≡ true
      → (earlier.low ≤ length older + 1) × (length older + 1 ≤ high_watermark later.taken (between ++ earlier ∷ older))
      × (high_watermark later.taken (between ++ earlier ∷ older) < later.low)
  forward counts =
      let part : IsCertified (earlier ∷ older) = certified_part between (earlier ∷ older) is.3 in
      let place : length older + 1 ≡ length (earlier ∷ older) = omega arith in
      let here = subst (λ (n : ℕ). counts_for_high n later.taken earlier ≡ true) place counts in
      (low_le_stamp earlier older part, high_over-counts later.taken between earlier older here, is.2)

  pub backward : later.taken.snapshot < length older + 1 → overlaps earlier.taken.writes later.taken.reads ≡ true → later.low ≤ earlier.low
  backward after written =
      let counts : counts_for_low (length (earlier ∷ older)) later.taken earlier ≡ true = grind (arith, nat_tests, after, written) in
      let low = low_over-counts (length (between ++ earlier ∷ older) + 1) later.taken between earlier older counts in
      omega (arith, is.1, low)

  pub writers : overlaps earlier.taken.writes later.taken.writes ≡ true → earlier.low < later.low
  writers both =
      let counts : counts_for_high (length older + 1) later.taken earlier ≡ true = grind (arith, both) in
      let rise = forward counts in
      omega (arith, rise.0, rise.1, rise.2)
