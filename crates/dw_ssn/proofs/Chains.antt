-- From a writer of an object to the one before it.
use Rattle.std.proofs.Common.{refl, ◌≡◌, ℕ, suc, ◌+◌, ◌-◌, ◌<◌, ◌≤◌, min, List, [], ◌∷◌, length, sym, ap, subst, ◌∙◌, arith, Bool, true, false}
use Rattle.std.specs.Prelude.{◌&&◌, ◌||◌, ◌==◌, nat_lt, nat_le, if◌then◌else◌, Some, slice_get}
use Rattle.std.proofs.lemmas.Bool.Decides.{nat_tests}
use Rattle.dw_model.specs.declared.objects.Object.{Object}
use Rattle.dw_model.specs.Objects.{is_among, IsAscendingObjects}
use Rattle.dw_journal.specs.declared.Certified.{Certified}
use Rattle.dw_journal.specs.Watermarks.{written_at_low}
use Rattle.dw_ssn.specs.CommitList.{newest_writer}
use Rattle.dw_ssn.specs.OneObject.{low_at, seen_at, up_to}
use Rattle.dw_ssn.specs.Summaries.{recent_of, recent_as, WriteSets}
use Rattle.dw_ssn.proofs.Parts.{newest_writer-le, low_at-le}

-- ---- parts of the commits
le_true : (m n : ℕ) → m ≤ n → nat_le m n ≡ true
le_true m n le = grind (arith, nat_tests)

le_false : (m n : ℕ) → n < m → nat_le m n ≡ false
le_false m n less = grind (arith, nat_tests)

lt_true : (m n : ℕ) → m < n → nat_lt m n ≡ true
lt_true m n less = grind (arith, nat_tests)

lt_false : (m n : ℕ) → n ≤ m → nat_lt m n ≡ false
lt_false m n le = grind (arith, nat_tests)

up_to-all : (stamp : ℕ) (commits : List Certified) → length commits ≤ stamp → up_to stamp commits ≡ commits
up_to-all stamp [] le = refl
up_to-all stamp (commit ∷ older) le =
    ap (λ (b : Bool). if b then commit ∷ older else up_to stamp older) (le_true (length (commit ∷ older)) stamp le)

pub up_to-less : (stamp : ℕ) (commit : Certified) (older : List Certified) → stamp ≤ length older → up_to stamp (commit ∷ older) ≡ up_to stamp older
up_to-less stamp commit older le =
    ap (λ (b : Bool). if b then commit ∷ older else up_to stamp older) (le_false (length (commit ∷ older)) stamp (omega arith))

up_to_by : (stamp : ℕ) (commit : Certified) (older : List Certified) (b : Bool) → nat_le (length (commit ∷ older)) stamp ≡ b
    → up_to stamp (commit ∷ older) ≡ (if b then commit ∷ older else up_to stamp older)
up_to_by stamp commit older b is = ap (λ (t : Bool). if t then commit ∷ older else up_to stamp older) is

le_from : (m n : ℕ) → nat_le m n ≡ true → m ≤ n
le_from m n e = grind (arith, nat_tests)

less_from : (m n : ℕ) → nat_le m n ≡ false → n < m
less_from m n e = grind (arith, nat_tests)

pub length-up_to : (stamp : ℕ) (commits : List Certified) → stamp ≤ length commits → length (up_to stamp commits) ≡ stamp
length-up_to stamp [] le = omega arith
length-up_to stamp (commit ∷ older) le = by_test (nat_le (length (commit ∷ older)) stamp) refl (length-up_to stamp older) where
  by_test : (b : Bool) → nat_le (length (commit ∷ older)) stamp ≡ b → (stamp ≤ length older → length (up_to stamp older) ≡ stamp) → length (up_to stamp (commit ∷ older)) ≡ stamp
  by_test true is rest = ap length (up_to_by stamp commit older true is) ∙ (omega (arith, le_from (length (commit ∷ older)) stamp is))
  by_test false is rest = ap length (up_to_by stamp commit older false is) ∙ rest (omega (arith, less_from (length (commit ∷ older)) stamp is))

-- a part of a part is a part
pub up_to-part : (less stamp : ℕ) (commits : List Certified) → less ≤ stamp → up_to less (up_to stamp commits) ≡ up_to less commits
up_to-part less stamp [] le = refl
up_to-part less stamp (commit ∷ older) le = by_test (nat_le (length (commit ∷ older)) stamp) refl (up_to-part less stamp older le) where
  by_test : (b : Bool) → nat_le (length (commit ∷ older)) stamp ≡ b → up_to less (up_to stamp older) ≡ up_to less older
      → up_to less (up_to stamp (commit ∷ older)) ≡ up_to less (commit ∷ older)
  by_test true is rest = ap (up_to less) (up_to_by stamp commit older true is)
  by_test false is rest =
      ap (up_to less) (up_to_by stamp commit older false is) ∙ rest
      ∙ sym (up_to-less less commit older (omega (arith, less_from (length (commit ∷ older)) stamp is)))

-- ---- what passes over commits that didn't write the object
module _ {X : Type 0} (object : Object) (of : List Certified → X)
    (passes : (commit : Certified) (older : List Certified) → is_among object commit.taken.writes ≡ false → of (commit ∷ older) ≡ of older) where
  pub at_newest : (commits : List Certified) → of commits ≡ of (up_to (newest_writer object commits) commits)
  at_newest [] = refl
  at_newest (commit ∷ older) = by_writes (is_among object commit.taken.writes) refl (at_newest older) where
    newest_by : (b : Bool) → is_among object commit.taken.writes ≡ b → newest_writer object (commit ∷ older) ≡ (if b then length (commit ∷ older) else newest_writer object older)
    newest_by b is = ap (λ (t : Bool). if t then length (commit ∷ older) else newest_writer object older) is

    by_writes : (b : Bool) → is_among object commit.taken.writes ≡ b → of older ≡ of (up_to (newest_writer object older) older)
        → of (commit ∷ older) ≡ of (up_to (newest_writer object (commit ∷ older)) (commit ∷ older))
    by_writes true is rest =
        sym (ap of (ap (λ (n : ℕ). up_to n (commit ∷ older)) (newest_by true is) ∙ up_to-all (length (commit ∷ older)) (commit ∷ older) (omega arith)))
    by_writes false is rest =
        passes commit older is ∙ rest
        ∙ sym (ap of (ap (λ (n : ℕ). up_to n (commit ∷ older)) (newest_by false is) ∙ up_to-less (newest_writer object older) commit older (newest_writer-le object older)))

newest_passes : (object : Object) (commit : Certified) (older : List Certified) → is_among object commit.taken.writes ≡ false
    → newest_writer object (commit ∷ older) ≡ newest_writer object older
newest_passes object commit older none = ap (λ (t : Bool). if t then length (commit ∷ older) else newest_writer object older) none

low_passes : (stamp snapshot : ℕ) (object : Object) (commit : Certified) (older : List Certified) → is_among object commit.taken.writes ≡ false
    → low_at stamp snapshot object (commit ∷ older) ≡ low_at stamp snapshot object older
low_passes stamp snapshot object commit older none =
    ap (λ (t : Bool). if nat_lt snapshot (length (commit ∷ older)) && t then min commit.low (low_at stamp snapshot object older) else low_at stamp snapshot object older) none
    ∙ either (nat_lt snapshot (length (commit ∷ older))) _ _
  where
    either : (b : Bool) (m n : ℕ) → (if b && false then m else n) ≡ n
    either true m n = refl
    either false m n = refl

seen_passes : (snapshot : ℕ) (object : Object) (commit : Certified) (older : List Certified) → is_among object commit.taken.writes ≡ false
    → seen_at snapshot object (commit ∷ older) ≡ seen_at snapshot object older
seen_passes snapshot object commit older none =
    ap (λ (t : Bool). if nat_le (length (commit ∷ older)) snapshot && t then length (commit ∷ older) else seen_at snapshot object older) none
    ∙ either (nat_le (length (commit ∷ older)) snapshot) _ _
  where
    either : (b : Bool) (m n : ℕ) → (if b && false then m else n) ≡ n
    either true m n = refl
    either false m n = refl

written_passes : (low snapshot : ℕ) (object : Object) (commit : Certified) (older : List Certified) → is_among object commit.taken.writes ≡ false
    → written_at_low low snapshot (commit ∷ older) object ≡ written_at_low low snapshot older object
written_passes low snapshot object commit older none =
    ap (λ (t : Bool). (nat_lt snapshot (length (commit ∷ older)) && (commit.low == low) && t) || written_at_low low snapshot older object) none
    ∙ either (nat_lt snapshot (length (commit ∷ older))) (commit.low == low) _
  where
    either : (a b c : Bool) → ((a && b && false) || c) ≡ c
    either true true c = refl
    either true false c = refl
    either false b c = refl

-- ---- a stamp on the chain of an object's writers
-- at a stamp of the chain the commits up to it hold all that is left to be looked at
pub record IsOnChain (object : Object) (commits : List Certified) (at : ℕ) : Type 0 where
  pub within : at ≤ length commits
  pub newest : newest_writer object (up_to at commits) ≡ at

pub chain_first : (object : Object) (commits : List Certified) → IsOnChain object commits (newest_writer object commits)
chain_first object commits = record {
  within = newest_writer-le object commits;
  newest = sym (at_newest object (newest_writer object) (newest_passes object) commits);
}

head_by : (commits : List Certified) → 0 < length commits → (commit : Certified) × (older : List Certified) × (commits ≡ commit ∷ older)
head_by [] some = absurd (omega arith)
head_by (commit ∷ older) some = (commit, older, refl)

-- the commit at a stamp of the chain, which wrote the object
pub record IsWriterAt (object : Object) (commits : List Certified) (at : ℕ) : Type 0 where
  pub commit : Certified
  pub older : List Certified
  pub is : up_to at commits ≡ commit ∷ older
  pub stamp : length (commit ∷ older) ≡ at
  pub wrote : is_among object commit.taken.writes ≡ true

pub chain_writer : (object : Object) (commits : List Certified) (at : ℕ) → IsOnChain object commits at → 0 < at → IsWriterAt object commits at
chain_writer object commits at on some =
    let long = length-up_to at commits on.within in
    let head = head_by (up_to at commits) (omega (arith, long)) in
    let stamp : length (head.0 ∷ head.1) ≡ at = sym (ap length head.2) ∙ long in
    record {
      commit = head.0;
      older = head.1;
      is = head.2;
      stamp = stamp;
      wrote = by_writes head.0 head.1 (is_among object head.0.taken.writes) refl stamp (sym (ap (newest_writer object) head.2) ∙ on.newest);
    }
  where
    by_writes : (commit : Certified) (older : List Certified) (b : Bool) → is_among object commit.taken.writes ≡ b → length (commit ∷ older) ≡ at
        → newest_writer object (commit ∷ older) ≡ at → is_among object commit.taken.writes ≡ true
    by_writes commit older true is stamp newest = is
    by_writes commit older false is stamp newest =
        absurd (omega (arith, newest_passes object commit older is, newest_writer-le object older, stamp, newest))

module _ (object : Object) (commits : List Certified) (at : ℕ) (w : IsWriterAt object commits at) (on : IsOnChain object commits at) where
  abbrev before : ℕ
  before = newest_writer object w.older

  before_less : before < at
  before_less = omega (arith, newest_writer-le object w.older, w.stamp)

  older_part : up_to before w.older ≡ up_to before commits
  older_part =
      sym (up_to-less before w.commit w.older (newest_writer-le object w.older)) ∙ ap (up_to before) (sym w.is) ∙ up_to-part before at commits (omega (arith, before_less))

  pub chain_next : IsOnChain object commits before
  chain_next = record {
    within = omega (arith, before_less, on.within);
    newest = ap (newest_writer object) (sym older_part) ∙ sym (at_newest object (newest_writer object) (newest_passes object) w.older);
  }

  pub low_next : (stamp snapshot : ℕ) → snapshot < at
      → low_at stamp snapshot object (up_to at commits) ≡ min w.commit.low (low_at stamp snapshot object (up_to before commits))
  low_next stamp snapshot late =
      ap (low_at stamp snapshot object) w.is
      ∙ ap (λ (b : Bool). if b && is_among object w.commit.taken.writes then min w.commit.low (low_at stamp snapshot object w.older) else low_at stamp snapshot object w.older)
      (lt_true snapshot (length (w.commit ∷ w.older)) (omega (arith, w.stamp)))
      ∙ ap (λ (b : Bool). if true && b then min w.commit.low (low_at stamp snapshot object w.older) else low_at stamp snapshot object w.older) w.wrote
      ∙ ap (min w.commit.low) (at_newest object (low_at stamp snapshot object) (low_passes stamp snapshot object) w.older ∙ ap (low_at stamp snapshot object) older_part)

  pub seen_next : (snapshot : ℕ) → snapshot < at → seen_at snapshot object (up_to at commits) ≡ seen_at snapshot object (up_to before commits)
  seen_next snapshot late =
      ap (seen_at snapshot object) w.is
      ∙ ap (λ (b : Bool). if b && is_among object w.commit.taken.writes then length (w.commit ∷ w.older) else seen_at snapshot object w.older)
      (le_false (length (w.commit ∷ w.older)) snapshot (omega (arith, w.stamp)))
      ∙ at_newest object (seen_at snapshot object) (seen_passes snapshot object) w.older ∙ ap (seen_at snapshot object) older_part

  pub written_next : (low snapshot : ℕ) → snapshot < at
      → written_at_low low snapshot (up_to at commits) object ≡ ((w.commit.low == low) || written_at_low low snapshot (up_to before commits) object)
  written_next low snapshot late =
      ap (λ (list : List Certified). written_at_low low snapshot list object) w.is
      ∙ ap (λ (b : Bool). (b && (w.commit.low == low) && is_among object w.commit.taken.writes) || written_at_low low snapshot w.older object)
      (lt_true snapshot (length (w.commit ∷ w.older)) (omega (arith, w.stamp)))
      ∙ ap (λ (b : Bool). (true && (w.commit.low == low) && b) || written_at_low low snapshot w.older object) w.wrote
      ∙ either (w.commit.low == low) _
      ∙ ap (λ (b : Bool). (w.commit.low == low) || b)
      (at_newest object (λ (list : List Certified). written_at_low low snapshot list object) (written_passes low snapshot object) w.older
      ∙ ap (λ (list : List Certified). written_at_low low snapshot list object) older_part)
    where
      either : (b c : Bool) → ((true && b && true) || c) ≡ (b || c)
      either true c = refl
      either false c = refl

-- ---- where the chain has come down to the snapshot
low_seen : (stamp snapshot : ℕ) (object : Object) (commits : List Certified) → length commits ≤ snapshot → low_at stamp snapshot object commits ≡ stamp
low_seen stamp snapshot object [] seen = refl
low_seen stamp snapshot object (commit ∷ older) seen =
    ap (λ (b : Bool). if b && is_among object commit.taken.writes then min commit.low (low_at stamp snapshot object older) else low_at stamp snapshot object older)
    (lt_false snapshot (length (commit ∷ older)) seen)
    ∙ low_seen stamp snapshot object older (omega arith)

seen_all : (snapshot : ℕ) (object : Object) (commits : List Certified) → length commits ≤ snapshot → seen_at snapshot object commits ≡ newest_writer object commits
seen_all snapshot object [] seen = refl
seen_all snapshot object (commit ∷ older) seen =
    ap (λ (b : Bool). if b && is_among object commit.taken.writes then length (commit ∷ older) else seen_at snapshot object older)
    (le_true (length (commit ∷ older)) snapshot seen)
    ∙ ap (λ (n : ℕ). if is_among object commit.taken.writes then length (commit ∷ older) else n) (seen_all snapshot object older (omega arith))

written_seen : (low snapshot : ℕ) (object : Object) (commits : List Certified) → length commits ≤ snapshot → written_at_low low snapshot commits object ≡ false
written_seen low snapshot object [] seen = refl
written_seen low snapshot object (commit ∷ older) seen =
    ap (λ (b : Bool). (b && (commit.low == low) && is_among object commit.taken.writes) || written_at_low low snapshot older object)
    (lt_false snapshot (length (commit ∷ older)) seen)
    ∙ written_seen low snapshot object older (omega arith)

module _ (object : Object) (commits : List Certified) (at : ℕ) (on : IsOnChain object commits at) (snapshot : ℕ) (down : at ≤ snapshot) where
  short : length (up_to at commits) ≤ snapshot
  short = omega (arith, length-up_to at commits on.within)

  pub low_down : (stamp : ℕ) → low_at stamp snapshot object (up_to at commits) ≡ stamp
  low_down stamp = low_seen stamp snapshot object (up_to at commits) short

  pub seen_down : seen_at snapshot object (up_to at commits) ≡ at
  seen_down = seen_all snapshot object (up_to at commits) short ∙ on.newest

  pub written_down : (low : ℕ) → written_at_low low snapshot (up_to at commits) object ≡ false
  written_down low = written_seen low snapshot object (up_to at commits) short

module _ (object : Object) (commits : List Certified) (snapshot : ℕ) where
  pub low_first : (stamp : ℕ) → low_at stamp snapshot object commits ≡ low_at stamp snapshot object (up_to (newest_writer object commits) commits)
  low_first stamp = at_newest object (low_at stamp snapshot object) (low_passes stamp snapshot object) commits

  pub seen_first : seen_at snapshot object commits ≡ seen_at snapshot object (up_to (newest_writer object commits) commits)
  seen_first = at_newest object (seen_at snapshot object) (seen_passes snapshot object) commits

  pub written_first : (low : ℕ) → written_at_low low snapshot commits object ≡ written_at_low low snapshot (up_to (newest_writer object commits) commits) object
  written_first low = at_newest object (λ (list : List Certified). written_at_low low snapshot list object) (written_passes low snapshot object) commits

-- ---- where the commit at a stamp is kept
pub recent_place : (oldest at : ℕ) (commits : List Certified) (commit : Certified) (older : List Certified) → oldest < at → at ≤ length commits
    → up_to at commits ≡ commit ∷ older → slice_get (recent_of oldest commits) (length commits - at) ≡ Some (recent_as commit older)
recent_place oldest at [] commit older past within is = absurd (omega arith)
recent_place oldest at (newest ∷ rest) commit older past within is = by_test (nat_le (length (newest ∷ rest)) at) refl (recent_place oldest at rest commit older past) where
  kept : recent_of oldest (newest ∷ rest) ≡ recent_as newest rest ∷ recent_of oldest rest
  kept = ap (λ (b : Bool). if b then recent_as newest rest ∷ recent_of oldest rest else []) (lt_true oldest (length (newest ∷ rest)) (omega arith))

  tops : (a b : Certified) (x y : List Certified) → a ∷ x ≡ b ∷ y → recent_as a x ≡ recent_as b y
  tops a b x y e = cc

  by_test : (b : Bool) → nat_le (length (newest ∷ rest)) at ≡ b
      → (at ≤ length rest → up_to at rest ≡ commit ∷ older → slice_get (recent_of oldest rest) (length rest - at) ≡ Some (recent_as commit older))
      → slice_get (recent_of oldest (newest ∷ rest)) (length (newest ∷ rest) - at) ≡ Some (recent_as commit older)
  by_test true test later =
      let zero_is : length (newest ∷ rest) - at ≡ 0 = omega (arith, le_from (length (newest ∷ rest)) at test) in
      ap (slice_get (recent_of oldest (newest ∷ rest))) zero_is ∙ ap (λ l. slice_get l 0) kept
      ∙ ap Some (tops newest commit rest older (sym (up_to_by at newest rest true test) ∙ is))
  by_test false test later =
      let less = less_from (length (newest ∷ rest)) at test in
      let next : length (newest ∷ rest) - at ≡ suc (length rest - at) = omega (arith, less) in
      ap (slice_get (recent_of oldest (newest ∷ rest))) next ∙ ap (λ l. slice_get l (suc (length rest - at))) kept
      ∙ later (omega (arith, less)) (sym (up_to_by at newest rest false test) ∙ is)

-- what it wrote is a set
pub set_at : (at : ℕ) (commits : List Certified) (commit : Certified) (older : List Certified) → WriteSets commits → up_to at commits ≡ commit ∷ older
    → IsAscendingObjects commit.taken.writes
set_at at [] commit older sets is = cc
set_at at (newest ∷ rest) commit older sets is = by_test (nat_le (length (newest ∷ rest)) at) refl (set_at at rest commit older sets.1) where
  tops : (a b : Certified) (x y : List Certified) → a ∷ x ≡ b ∷ y → a ≡ b
  tops a b x y e = cc

  by_test : (b : Bool) → nat_le (length (newest ∷ rest)) at ≡ b → (up_to at rest ≡ commit ∷ older → IsAscendingObjects commit.taken.writes)
      → IsAscendingObjects commit.taken.writes
  by_test true test later =
      subst (λ (c : Certified). IsAscendingObjects c.taken.writes) (tops newest commit rest older (sym (up_to_by at newest rest true test) ∙ is)) sets.0
  by_test false test later = later (sym (up_to_by at newest rest false test) ∙ is)

pub up_to-le : (stamp : ℕ) (commits : List Certified) → length (up_to stamp commits) ≤ length commits
up_to-le stamp [] = omega arith
up_to-le stamp (commit ∷ older) = by_test (nat_le (length (commit ∷ older)) stamp) refl (up_to-le stamp older) where
  by_test : (b : Bool) → nat_le (length (commit ∷ older)) stamp ≡ b → length (up_to stamp older) ≤ length older
      → length (up_to stamp (commit ∷ older)) ≤ length (commit ∷ older)
  by_test true is rest = omega (arith, ap length (up_to_by stamp commit older true is))
  by_test false is rest = omega (arith, ap length (up_to_by stamp commit older false is))

-- ---- the way from writer to writer
-- What is found so far, with what the commits up to the stamp add, is what all commits add.
pub record IsWalk (object : Object) (commits : List Certified) (snapshot at low : ℕ) : Type 0 where
  pub on : IsOnChain object commits at
  pub low_left : low_at (length commits + 1) snapshot object commits ≡ min low (low_at (length commits + 1) snapshot object (up_to at commits))
  pub seen_left : seen_at snapshot object commits ≡ seen_at snapshot object (up_to at commits)
  pub bound : low ≤ length commits + 1

module _ (object : Object) (commits : List Certified) (snapshot : ℕ) where
  pub walk_first : IsWalk object commits snapshot (newest_writer object commits) (length commits + 1)
  walk_first = record {
    on = chain_first object commits;
    low_left = omega (arith, low_first object commits snapshot (length commits + 1), low_at-le (length commits + 1) snapshot object (up_to (newest_writer object commits) commits));
    seen_left = seen_first object commits snapshot;
    bound = omega arith;
  }

  pub walk_next : (at low : ℕ) (w : IsWriterAt object commits at) → IsWalk object commits snapshot at low → snapshot < at
      → IsWalk object commits snapshot (newest_writer object w.older) (min low w.commit.low)
  walk_next at low w walk late = record {
    on = chain_next object commits at w walk.on;
    low_left = omega (arith, walk.low_left, low_next object commits at w walk.on (length commits + 1) snapshot late);
    seen_left = walk.seen_left ∙ seen_next object commits at w walk.on snapshot late;
    bound = omega (arith, walk.bound);
  }

  pub walk_low : (at low : ℕ) → IsWalk object commits snapshot at low → at ≤ snapshot → low ≡ low_at (length commits + 1) snapshot object commits
  walk_low at low walk down = omega (arith, walk.low_left, low_down object commits at walk.on snapshot down (length commits + 1), walk.bound)

  pub walk_seen : (at low : ℕ) → IsWalk object commits snapshot at low → at ≤ snapshot → at ≡ seen_at snapshot object commits
  walk_seen at low walk down = sym (walk.seen_left ∙ seen_down object commits at walk.on snapshot down)
