-- The watermarks are put together from what single objects add.
use Rattle.std.proofs.Common.{refl, ◌≡◌, ℕ, ◌≤◌, min, max, List, [], ◌∷◌, length, ap, ◌∙◌, arith, Bool, true, false}
use Rattle.std.specs.Prelude.{◌&&◌, ◌||◌, nat_lt, nat_le, if◌then◌else◌}
use Rattle.std.proofs.lemmas.Bool.Decides.{nat_tests}
use Rattle.dw_model.specs.declared.objects.Object.{Object}
use Rattle.dw_model.specs.Objects.{is_among, same_object}
use Rattle.dw_model.proofs.ObjectSets.{same_object-back}
use Rattle.dw_journal.specs.declared.Certified.{Certified}
use Rattle.dw_journal.specs.declared.Taken.{Taken}
use Rattle.dw_journal.specs.Watermarks.{overlaps, low_over, high_over}
use Rattle.dw_ssn.specs.CommitList.{newest_writer, newest_reader}
use Rattle.dw_ssn.specs.OneObject.{low_at, seen_at}

-- ---- what sets have in common
or_swapped : (p q r s : Bool) → ((p || q) || (r || s)) ≡ ((p || r) || (q || s))
or_swapped true q r s = refl
or_swapped false true true s = refl
or_swapped false true false s = refl
or_swapped false false r s = refl

-- a set overlaps another with one object more
overlaps-more : (a : List Object) (object : Object) (b : List Object) → overlaps a (object ∷ b) ≡ (is_among object a || overlaps a b)
overlaps-more [] object b = refl
overlaps-more (first ∷ a) object b =
    ap (λ (t : Bool). (same_object first object || is_among first b) || t) (overlaps-more a object b)
    ∙ or_swapped (same_object first object) (is_among first b) (is_among object a) (overlaps a b)
    ∙ ap (λ (t : Bool). (t || is_among object a) || (is_among first b || overlaps a b)) (same_object-back first object)

overlaps-none : (a : List Object) → overlaps a [] ≡ false
overlaps-none [] = refl
overlaps-none (first ∷ a) = overlaps-none a

-- ---- bounds
pub high_over-le : (taken : Taken) (commits : List Certified) → high_over taken commits ≤ length commits
high_over-le taken [] = omega arith
high_over-le taken (commit ∷ older) = grind (arith, nat_tests, high_over-le taken older)

pub low_over-le : (stamp : ℕ) (taken : Taken) (commits : List Certified) → low_over stamp taken commits ≤ stamp
low_over-le stamp taken [] = omega arith
low_over-le stamp taken (commit ∷ older) = grind (arith, nat_tests, low_over-le stamp taken older)

if_le : (b : Bool) (m n bound : ℕ) → m ≤ bound → n ≤ bound → (if b then m else n) ≤ bound
if_le true m n bound here other = here
if_le false m n bound here other = other

pub seen_at-le : (snapshot : ℕ) (object : Object) (commits : List Certified) → seen_at snapshot object commits ≤ length commits
seen_at-le snapshot object [] = omega arith
seen_at-le snapshot object (commit ∷ older) =
    if_le (nat_le (length (commit ∷ older)) snapshot && is_among object commit.taken.writes) _ _ _ (omega arith) (omega (arith, seen_at-le snapshot object older))

pub newest_writer-le : (object : Object) (commits : List Certified) → newest_writer object commits ≤ length commits
newest_writer-le object [] = omega arith
newest_writer-le object (commit ∷ older) =
    if_le (is_among object commit.taken.writes) _ _ _ (omega arith) (omega (arith, newest_writer-le object older))

pub newest_reader-le : (object : Object) (commits : List Certified) → newest_reader object commits ≤ length commits
newest_reader-le object [] = omega arith
newest_reader-le object (commit ∷ older) =
    if_le (is_among object commit.taken.reads) _ _ _ (omega arith) (omega (arith, newest_reader-le object older))

pub low_at-le : (stamp snapshot : ℕ) (object : Object) (commits : List Certified) → low_at stamp snapshot object commits ≤ stamp
low_at-le stamp snapshot object [] = omega arith
low_at-le stamp snapshot object (commit ∷ older) =
    if_le (nat_lt snapshot (length (commit ∷ older)) && is_among object commit.taken.writes) _ _ _ (omega (arith, low_at-le stamp snapshot object older)) (low_at-le stamp snapshot object older)

-- ---- the low watermark
low_joined : (late here others : Bool) (low x y z : ℕ) → z ≡ min x y
    → (if late && (here || others) then min low z else z) ≡ min (if late && here then min low x else x) (if late && others then min low y else y)
low_joined true true true low x y z e = omega arith
low_joined true true false low x y z e = omega arith
low_joined true false true low x y z e = omega arith
low_joined true false false low x y z e = e
low_joined false here others low x y z e = e

module _ (stamp snapshot : ℕ) (writes : List Object) where
  pub low_none : (commits : List Certified) → low_over stamp (record { snapshot = snapshot; reads = []; writes = writes }) commits ≡ stamp
  low_none [] = refl
  low_none (commit ∷ older) =
      ap (λ (b : Bool). if nat_lt snapshot (length (commit ∷ older)) && b then min commit.low (low_over stamp (record { snapshot = snapshot; reads = []; writes = writes }) older) else low_over stamp (record { snapshot = snapshot; reads = []; writes = writes }) older) (overlaps-none commit.taken.writes)
      ∙ either (nat_lt snapshot (length (commit ∷ older))) _ _ (low_none older)
    where
      either : (b : Bool) (m n : ℕ) → n ≡ stamp → (if b && false then m else n) ≡ stamp
      either true m n e = e
      either false m n e = e

  pub low_more : (object : Object) (reads : List Object) (commits : List Certified)
      → low_over stamp (record { snapshot = snapshot; reads = object ∷ reads; writes = writes }) commits
      ≡ min (low_at stamp snapshot object commits) (low_over stamp (record { snapshot = snapshot; reads = reads; writes = writes }) commits)
  low_more object reads [] = omega arith
  low_more object reads (commit ∷ older) =
      let all = low_over stamp (record { snapshot = snapshot; reads = object ∷ reads; writes = writes }) older in
      ap (λ (b : Bool). if nat_lt snapshot (length (commit ∷ older)) && b then min commit.low all else all) (overlaps-more commit.taken.writes object reads)
      ∙ low_joined (nat_lt snapshot (length (commit ∷ older))) (is_among object commit.taken.writes) (overlaps commit.taken.writes reads) commit.low
      (low_at stamp snapshot object older) (low_over stamp (record { snapshot = snapshot; reads = reads; writes = writes }) older) all (low_more object reads older)

-- ---- the high watermark
high_joined : (early here others rest : Bool) (n x y z : ℕ) → z ≡ max x y → x ≤ n → y ≤ n
    → (if (early && (here || others)) || rest then max n z else z) ≡ max (if early && here then n else x) (if (early && others) || rest then max n y else y)
high_joined true true true rest n x y z e f g = omega arith
high_joined true true false true n x y z e f g = omega arith
high_joined true true false false n x y z e f g = omega arith
high_joined true false true rest n x y z e f g = omega arith
high_joined true false false true n x y z e f g = omega arith
high_joined true false false false n x y z e f g = e
high_joined false here others true n x y z e f g = omega arith
high_joined false here others false n x y z e f g = e

written_joined : (read a b c d : Bool) (n w r y z : ℕ) → z ≡ max (max w r) y → w ≤ n → r ≤ n → y ≤ n
    → (if read || ((a || b) || (c || d)) then max n z else z) ≡ max (max (if a then n else w) (if c then n else r)) (if read || (b || d) then max n y else y)
written_joined true true b true d n w r y z e f g h = omega arith
written_joined true true b false d n w r y z e f g h = omega arith
written_joined true false b true d n w r y z e f g h = omega arith
written_joined true false b false d n w r y z e f g h = omega arith
written_joined false true true true d n w r y z e f g h = omega arith
written_joined false true true false d n w r y z e f g h = omega arith
written_joined false true false true true n w r y z e f g h = omega arith
written_joined false true false true false n w r y z e f g h = omega arith
written_joined false true false false true n w r y z e f g h = omega arith
written_joined false true false false false n w r y z e f g h = omega arith
written_joined false false true true d n w r y z e f g h = omega arith
written_joined false false true false d n w r y z e f g h = omega arith
written_joined false false false true true n w r y z e f g h = omega arith
written_joined false false false true false n w r y z e f g h = omega arith
written_joined false false false false true n w r y z e f g h = omega arith
written_joined false false false false false n w r y z e f g h = e

module _ (snapshot : ℕ) where
  abbrev taking : List Object → List Object → Taken
  taking reads writes = record { snapshot = snapshot; reads = reads; writes = writes }

  pub high_more : (object : Object) (reads writes : List Object) (commits : List Certified)
      → high_over (taking (object ∷ reads) writes) commits ≡ max (seen_at snapshot object commits) (high_over (taking reads writes) commits)
  high_more object reads writes [] = omega arith
  high_more object reads writes (commit ∷ older) =
      let n = length (commit ∷ older) in
      let all = high_over (taking (object ∷ reads) writes) older in
      let rest = overlaps commit.taken.writes writes || overlaps commit.taken.reads writes in
      ap (λ (b : Bool). if (nat_le n snapshot && b) || rest then max n all else all) (overlaps-more commit.taken.writes object reads)
      ∙ high_joined (nat_le n snapshot) (is_among object commit.taken.writes) (overlaps commit.taken.writes reads) rest n
      (seen_at snapshot object older) (high_over (taking reads writes) older) all (high_more object reads writes older)
      (omega (arith, seen_at-le snapshot object older)) (omega (arith, high_over-le (taking reads writes) older))

  pub high_written : (object : Object) (reads writes : List Object) (commits : List Certified)
      → high_over (taking reads (object ∷ writes)) commits ≡ max (max (newest_writer object commits) (newest_reader object commits)) (high_over (taking reads writes) commits)
  high_written object reads writes [] = omega arith
  high_written object reads writes (commit ∷ older) =
      let n = length (commit ∷ older) in
      let all = high_over (taking reads (object ∷ writes)) older in
      let read = nat_le n snapshot && overlaps commit.taken.writes reads in
      ap (λ (b : Bool). if read || (b || overlaps commit.taken.reads (object ∷ writes)) then max n all else all) (overlaps-more commit.taken.writes object writes)
      ∙ ap (λ (b : Bool). if read || ((is_among object commit.taken.writes || overlaps commit.taken.writes writes) || b) then max n all else all) (overlaps-more commit.taken.reads object writes)
      ∙ written_joined read (is_among object commit.taken.writes) (overlaps commit.taken.writes writes) (is_among object commit.taken.reads) (overlaps commit.taken.reads writes) n
      (newest_writer object older) (newest_reader object older) (high_over (taking reads writes) older) all (high_written object reads writes older)
      (omega (arith, newest_writer-le object older)) (omega (arith, newest_reader-le object older)) (omega (arith, high_over-le (taking reads writes) older))

  pub high_none : (commits : List Certified) → high_over (taking [] []) commits ≡ 0
  high_none [] = refl
  high_none (commit ∷ older) =
      let all = high_over (taking [] []) older in
      let n = length (commit ∷ older) in
      ap (λ (b : Bool). if (nat_le n snapshot && b) || (b || overlaps commit.taken.reads []) then max n all else all) (overlaps-none commit.taken.writes)
      ∙ ap (λ (b : Bool). if (nat_le n snapshot && false) || (false || b) then max n all else all) (overlaps-none commit.taken.reads)
      ∙ either (nat_le n snapshot) _ _ (high_none older)
    where
      either : (b : Bool) (m n : ℕ) → n ≡ 0 → (if (b && false) || (false || false) then m else n) ≡ 0
      either true m n e = e
      either false m n e = e
