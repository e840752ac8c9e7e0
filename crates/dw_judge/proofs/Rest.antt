-- The watermarks over the commits that are left, when one looks from the newest commit back.
use Rattle.std.proofs.Common.{refl, ◌≡◌, ℕ, ◌+◌, ◌<◌, ◌≤◌, min, max, List, [], ◌∷◌, length, get_or, take, reverse, sym, ap, subst, ◌∙◌, arith, Bool, true, false}
use Rattle.std.proofs.lemmas.List.{take_more, reverse-append, length-reverse, length-take}
use Rattle.std.proofs.lemmas.Bool.Decides.{nat_tests}
use Rattle.dw_journal.specs.declared.Certified.{Certified}
use Rattle.dw_journal.specs.declared.Taken.{Taken}
use Rattle.std.proofs.Math.Seq.{take-length}
use Rattle.std.specs.Prelude.{if◌then◌else◌}
use Rattle.dw_journal.specs.Watermarks.{low_over, high_over, counts_for_low, counts_for_high}

-- with one more commit left, that one comes first
pub left_more : (commits : List Certified) (left : ℕ) (default : Certified) → left < length commits
    → reverse (take (left + 1) commits) ≡ get_or commits left default ∷ reverse (take left commits)
left_more commits left default within =
    ap reverse (take_more commits left default within) ∙ reverse-append (take left commits) (get_or commits left default ∷ [])

pub length_left : (commits : List Certified) (left : ℕ) → left ≤ length commits → length (reverse (take left commits)) ≡ left
length_left commits left within = length-reverse (take left commits) ∙ length-take left commits ∙ (omega arith)

-- the low watermark of a transaction that sees all commits is its stamp
low_over-all_seen : (stamp : ℕ) (taken : Taken) (commits : List Certified) → length commits ≤ taken.snapshot → low_over stamp taken commits ≡ stamp
low_over-all_seen stamp taken [] seen = refl
low_over-all_seen stamp taken (commit ∷ older) seen =
    grind (arith, nat_tests, low_over-all_seen stamp taken older (omega arith))

-- a high watermark is no greater than the number of commits
pub high_over-le : (taken : Taken) (commits : List Certified) → high_over taken commits ≤ length commits
high_over-le taken [] = omega arith
high_over-le taken (commit ∷ older) = grind (arith, nat_tests, high_over-le taken older)

-- a low watermark is at most the stamp
pub low_over-le : (stamp : ℕ) (taken : Taken) (commits : List Certified) → low_over stamp taken commits ≤ stamp
low_over-le stamp taken [] = omega arith
low_over-le stamp taken (commit ∷ older) = grind (arith, nat_tests, low_over-le stamp taken older)

-- the least so far with what is left gives the low watermark, and the same of the high one
pub record Marked (commits : List Certified) (left low high : ℕ) (taken : Taken) : Type 0 where
  pub within : left ≤ length commits
  pub low_bound : low ≤ length commits + 1
  pub low_left : min low (low_over (length commits + 1) taken (reverse (take left commits))) ≡ low_over (length commits + 1) taken (reverse commits)
  pub high_left : max high (high_over taken (reverse (take left commits))) ≡ high_over taken (reverse commits)

pub Marked-init : (commits : List Certified) (taken : Taken)
    → Marked commits (length commits) (length commits + 1) 0 taken
Marked-init commits taken = record {
  within = omega arith;
  low_bound = omega arith;
  low_left = rw take-length (omega (arith, low_over-le (length commits + 1) taken (reverse commits)));
  high_left = rw take-length (omega arith);
}

low_turn : (b : Bool) (low here rest all : ℕ) → min low (if b then min here rest else rest) ≡ all
    → min (if b then min here low else low) rest ≡ all
low_turn true low here rest all h = omega arith
low_turn false low here rest all h = h

low_turn_le : (b : Bool) (low here bound : ℕ) → low ≤ bound → (if b then min here low else low) ≤ bound
low_turn_le true low here bound h = omega arith
low_turn_le false low here bound h = h

high_turn : (b : Bool) (high here rest all : ℕ) → max high (if b then max here rest else rest) ≡ all
    → max (if b then max here high else high) rest ≡ all
high_turn true high here rest all h = omega arith
high_turn false high here rest all h = h

-- the watermarks with one more commit left
module _ (commits : List Certified) (left : ℕ) (commit : Certified) (taken : Taken)
    (within : left < length commits) (is : commit ≡ get_or commits left commit) where
  first_left : reverse (take (left + 1) commits) ≡ commit ∷ reverse (take left commits)
  first_left = left_more commits left commit within ∙ ap (λ first. first ∷ reverse (take left commits)) (sym is)

  stamp_left : length (commit ∷ reverse (take left commits)) ≡ left + 1
  stamp_left = omega (arith, length_left commits left (omega arith))

  low_more : (stamp : ℕ) → low_over stamp taken (reverse (take (left + 1) commits))
      ≡ (if counts_for_low (left + 1) taken commit then min commit.low (low_over stamp taken (reverse (take left commits))) else low_over stamp taken (reverse (take left commits)))
  low_more stamp =
      let rest = low_over stamp taken (reverse (take left commits)) in
      ap (low_over stamp taken) first_left
      ∙ ap (λ (n : ℕ). if counts_for_low n taken commit then min commit.low rest else rest) stamp_left

  high_more : high_over taken (reverse (take (left + 1) commits))
      ≡ (if counts_for_high (left + 1) taken commit then max (left + 1) (high_over taken (reverse (take left commits))) else high_over taken (reverse (take left commits)))
  high_more =
      let rest = high_over taken (reverse (take left commits)) in
      ap (high_over taken) first_left
      ∙ ap (λ (n : ℕ). if counts_for_high n taken commit then max n rest else rest) stamp_left

  marked_more : (low high : ℕ) → Marked commits (left + 1) low high taken
      → Marked commits left (if counts_for_low (left + 1) taken commit then min commit.low low else low) (if counts_for_high (left + 1) taken commit then max (left + 1) high else high) taken
  marked_more low high marked = record {
    within = omega arith;
    low_bound = low_turn_le (counts_for_low (left + 1) taken commit) low commit.low (length commits + 1) marked.low_bound;
    low_left = low_turn (counts_for_low (left + 1) taken commit) low commit.low _ _ (ap (min low) (sym (low_more (length commits + 1))) ∙ marked.low_left);
    high_left = high_turn (counts_for_high (left + 1) taken commit) high (left + 1) _ _ (ap (max high) (sym high_more) ∙ marked.high_left);
  }

-- the same, where the number left and the new watermarks are given by equations
pub Marked-more : (commits : List Certified) (left before : ℕ) (commit : Certified) (taken : Taken) (low high low' high' : ℕ)
    → before ≡ left + 1 → left < length commits → commit ≡ get_or commits left commit → Marked commits before low high taken
    → low' ≡ (if counts_for_low before taken commit then min commit.low low else low)
    → high' ≡ (if counts_for_high before taken commit then max before high else high)
    → Marked commits left low' high' taken
Marked-more commits left before commit taken low high low' high' e within is marked low_is high_is =
    let m : Marked commits (left + 1) low high taken = subst (λ (n : ℕ). Marked commits n low high taken) e marked in
    let l : low' ≡ (if counts_for_low (left + 1) taken commit then min commit.low low else low) = subst (λ (n : ℕ). low' ≡ (if counts_for_low n taken commit then min commit.low low else low)) e low_is in
    let h : high' ≡ (if counts_for_high (left + 1) taken commit then max (left + 1) high else high) = subst (λ (n : ℕ). high' ≡ (if counts_for_high n taken commit then max n high else high)) e high_is in
    subst (λ (n : ℕ). Marked commits left n high' taken) (sym l) (subst (λ (n : ℕ). Marked commits left (if counts_for_low (left + 1) taken commit then min commit.low low else low) n taken) (sym h) (marked_more commits left commit taken within is low high m))

-- where no commit that is left can count, the watermarks are found
pub Marked-low : (commits : List Certified) (left low high : ℕ) (taken : Taken)
    → Marked commits left low high taken → left ≤ taken.snapshot → low ≡ low_over (length (reverse commits) + 1) taken (reverse commits)
Marked-low commits left low high taken marked seen =
    let rest = reverse (take left commits) in
    let none : low_over (length commits + 1) taken rest ≡ length commits + 1 = low_over-all_seen (length commits + 1) taken rest (omega (arith, length_left commits left marked.within)) in
    let same : low_over (length (reverse commits) + 1) taken (reverse commits) ≡ low_over (length commits + 1) taken (reverse commits) = ap (λ (n : ℕ). low_over (n + 1) taken (reverse commits)) (length-reverse commits) in
    omega (arith, none, same, marked.low_left, marked.low_bound)

pub Marked-high : (commits : List Certified) (left low high : ℕ) (taken : Taken)
    → Marked commits left low high taken → left ≤ high → high ≡ high_over taken (reverse commits)
Marked-high commits left low high taken marked above =
    let rest = reverse (take left commits) in
    omega (arith, high_over-le taken rest, length_left commits left marked.within, marked.high_left)
