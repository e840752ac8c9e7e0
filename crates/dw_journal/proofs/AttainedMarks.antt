-- The watermarks are bounds that are attained.
use Rattle.std.proofs.Common.{inl, inr, ◌≡◌, ℕ, ◌+◌, ◌≤◌, ◌<◌, Bool, true, false, List, [], ◌∷◌, length, refl, sym, ap, subst, arith}
use Rattle.std.specs.Prelude.{◌⊎◌, if◌then◌else◌, min, max}
use Rattle.std.proofs.lemmas.Bool.{cases_lt}
use Rattle.dw_journal.specs.declared.Certified.{Certified}
use Rattle.dw_journal.specs.declared.Taken.{Taken}
use Rattle.dw_journal.specs.Attained.{CountedCommit, IsLeastLow, IsGreatestStamp}
use Rattle.dw_journal.specs.Watermarks.{low_over, high_over, counts_for_low, counts_for_high, low_watermark, high_watermark}
use Rattle.dw_journal.proofs.EdgeLemmas.{low_over-le, low_over-counts, high_over-counts}

module _ (taken : Taken) where
  abbrev Low : List Certified → Type 0
  Low commits = CountedCommit (λ stamp commit. counts_for_low stamp taken commit) commits

  abbrev High : List Certified → Type 0
  High commits = CountedCommit (λ stamp commit. counts_for_high stamp taken commit) commits

  -- one of the older commits is one of all
  abbrev further : (counts : ℕ → Certified → Bool) (first : Certified) (older : List Certified) → CountedCommit counts older → CountedCommit counts (first ∷ older)
  further counts first older c = record {
    between = first ∷ c.between;
    commit = c.commit;
    older = c.older;
    stands = ap (λ (rest : List Certified). first ∷ rest) c.stands;
    counted = c.counted;
  }

  abbrev here : (counts : ℕ → Certified → Bool) (commit : Certified) (older : List Certified) → counts (length (commit ∷ older)) commit ≡ true → CountedCommit counts (commit ∷ older)
  here counts commit older is = record {
    between = [];
    commit = commit;
    older = older;
    stands = refl;
    counted = let place : length (commit ∷ older) ≡ length older + 1 = omega arith in subst (λ (n : ℕ). counts n commit ≡ true) place is;
  }

  -- ---- low
  abbrev LowAttained : ℕ → List Certified → ℕ → Type 0
  LowAttained stamp commits low = (low ≡ stamp) ⊎ ((c : Low commits) × (low ≡ c.commit.low))

  low_older : (stamp : ℕ) (first : Certified) (older : List Certified) (low : ℕ) → LowAttained stamp older low → LowAttained stamp (first ∷ older) low
  low_older stamp first older low (inl is) = inl is
  low_older stamp first older low (inr c) = inr (further (λ n commit. counts_for_low n taken commit) first older c.0, c.1)

  low_min : (stamp : ℕ) (commit : Certified) (older : List Certified) (low : ℕ) → counts_for_low (length (commit ∷ older)) taken commit ≡ true
      → LowAttained stamp older low → (low < commit.low) ⊎ (commit.low ≤ low) → LowAttained stamp (commit ∷ older) (min commit.low low)
  low_min stamp commit older low counts attained (inl lower) =
      let e : min commit.low low ≡ low = omega (arith, lower) in
      subst (LowAttained stamp (commit ∷ older)) (sym e) (low_older stamp commit older low attained)
  low_min stamp commit older low counts attained (inr at_most) =
      let e : min commit.low low ≡ commit.low = omega (arith, at_most) in
      inr (here (λ n c. counts_for_low n taken c) commit older counts, e)

  low_by : (stamp : ℕ) (commit : Certified) (older : List Certified) (low : ℕ) (counted : Bool) → counts_for_low (length (commit ∷ older)) taken commit ≡ counted
      → LowAttained stamp older low → LowAttained stamp (commit ∷ older) (if counted then min commit.low low else low)
  low_by stamp commit older low true is attained = low_min stamp commit older low is attained (cases_lt low commit.low)
  low_by stamp commit older low false is attained = low_older stamp commit older low attained

  low_attained : (stamp : ℕ) (commits : List Certified) → LowAttained stamp commits (low_over stamp taken commits)
  low_attained stamp [] = inl refl
  low_attained stamp (commit ∷ older) =
      low_by stamp commit older (low_over stamp taken older) (counts_for_low (length (commit ∷ older)) taken commit) refl (low_attained stamp older)

  low_least : (stamp : ℕ) (commits : List Certified) (c : Low commits) → low_over stamp taken commits ≤ c.commit.low
  low_least stamp commits c =
      let place : length c.older + 1 ≡ length (c.commit ∷ c.older) = omega arith in
      let counts = subst (λ (n : ℕ). counts_for_low n taken c.commit ≡ true) place c.counted in
      subst (λ (cs : List Certified). low_over stamp taken cs ≤ c.commit.low) (sym c.stands) (low_over-counts stamp taken c.between c.commit c.older counts)

  pub least_low : (commits : List Certified) → IsLeastLow taken commits (low_watermark taken commits)
  least_low commits = record {
    within = low_over-le (length commits + 1) taken commits;
    least = low_least (length commits + 1) commits;
    attained = low_attained (length commits + 1) commits;
  }

  -- ---- high
  abbrev HighAttained : List Certified → ℕ → Type 0
  HighAttained commits high = (high ≡ 0) ⊎ ((c : High commits) × (high ≡ length c.older + 1))

  high_older : (first : Certified) (older : List Certified) (high : ℕ) → HighAttained older high → HighAttained (first ∷ older) high
  high_older first older high (inl is) = inl is
  high_older first older high (inr c) = inr (further (λ n commit. counts_for_high n taken commit) first older c.0, c.1)

  high_max : (commit : Certified) (older : List Certified) (high : ℕ) → counts_for_high (length (commit ∷ older)) taken commit ≡ true
      → HighAttained older high → (length (commit ∷ older) < high) ⊎ (high ≤ length (commit ∷ older)) → HighAttained (commit ∷ older) (max (length (commit ∷ older)) high)
  high_max commit older high counts attained (inl lower) =
      let e : max (length (commit ∷ older)) high ≡ high = omega (arith, lower) in
      subst (HighAttained (commit ∷ older)) (sym e) (high_older commit older high attained)
  high_max commit older high counts attained (inr at_most) =
      let e : max (length (commit ∷ older)) high ≡ length older + 1 = omega (arith, at_most) in
      inr (here (λ n c. counts_for_high n taken c) commit older counts, e)

  high_by : (commit : Certified) (older : List Certified) (high : ℕ) (counted : Bool) → counts_for_high (length (commit ∷ older)) taken commit ≡ counted
      → HighAttained older high → HighAttained (commit ∷ older) (if counted then max (length (commit ∷ older)) high else high)
  high_by commit older high true is attained = high_max commit older high is attained (cases_lt (length (commit ∷ older)) high)
  high_by commit older high false is attained = high_older commit older high attained

  high_attained : (commits : List Certified) → HighAttained commits (high_over taken commits)
  high_attained [] = inl refl
  high_attained (commit ∷ older) =
      high_by commit older (high_over taken older) (counts_for_high (length (commit ∷ older)) taken commit) refl (high_attained older)

  high_greatest : (commits : List Certified) (c : High commits) → length c.older + 1 ≤ high_over taken commits
  high_greatest commits c =
      let place : length c.older + 1 ≡ length (c.commit ∷ c.older) = omega arith in
      let counts = subst (λ (n : ℕ). counts_for_high n taken c.commit ≡ true) place c.counted in
      subst (λ (cs : List Certified). length c.older + 1 ≤ high_over taken cs) (sym c.stands) (high_over-counts taken c.between c.commit c.older counts)

  pub greatest_stamp : (commits : List Certified) → IsGreatestStamp taken commits (high_watermark taken commits)
  greatest_stamp commits = record { greatest = high_greatest commits; attained = high_attained commits }
