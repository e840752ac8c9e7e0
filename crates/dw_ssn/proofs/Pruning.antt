-- What is kept where the oldest number rises by one.
use Rattle.std.proofs.Common.{refl, ◌≡◌, ℕ, suc, ◌+◌, ◌<◌, ◌≤◌, List, [], ◌∷◌, ◌++◌, length, map, length-append, sym, ap, ◌∙◌, arith, Bool, true, false}
use Rattle.std.specs.Prelude.{◌||◌, ◌==◌, not, nat_lt, if◌then◌else◌}
use Rattle.std.specs.List.{filter}
use Rattle.std.proofs.lemmas.Bool.Decides.{nat_tests}
use Rattle.dw_model.specs.declared.objects.Object.{Object}
use Rattle.dw_journal.specs.declared.Certified.{Certified}
use Rattle.dw_ssn.specs.declared.summaries.Recent.{Recent}
use Rattle.dw_ssn.specs.CommitList.{newest_writer, entry_count}
use Rattle.dw_ssn.specs.Summaries.{recent_as, recent_of}

lt_true : (m n : ℕ) → m < n → nat_lt m n ≡ true
lt_true m n less = grind (arith, nat_tests)

lt_false : (m n : ℕ) → n ≤ m → nat_lt m n ≡ false
lt_false m n le = grind (arith, nat_tests)

lt_from : (m n : ℕ) → nat_lt m n ≡ true → m < n
lt_from m n e = grind (arith, nat_tests)

le_from : (m n : ℕ) → nat_lt m n ≡ false → n ≤ m
le_from m n e = grind (arith, nat_tests)

recent_by : (oldest : ℕ) (commit : Certified) (older : List Certified) (b : Bool) → nat_lt oldest (length (commit ∷ older)) ≡ b
    → recent_of oldest (commit ∷ older) ≡ (if b then recent_as commit older ∷ recent_of oldest older else [])
recent_by oldest commit older b is = ap (λ (t : Bool). if t then recent_as commit older ∷ recent_of oldest older else []) is

recent_none : (oldest : ℕ) (commits : List Certified) → length commits ≤ oldest → recent_of oldest commits ≡ []
recent_none oldest [] le = refl
recent_none oldest (commit ∷ older) le = recent_by oldest commit older false (lt_false oldest (length (commit ∷ older)) le)

-- the entries of one commit
own_entries : Bool → Certified → List Certified → ℕ
own_entries late commit older = length (filter (λ object. late || (newest_writer object older == 0)) commit.taken.writes)

-- how many of its objects had a writer before
later_entries : Certified → List Certified → ℕ
later_entries commit older = length (filter (λ stamp. not (stamp == 0)) (map (λ object. newest_writer object older) commit.taken.writes))

entries_more : (oldest : ℕ) (commit : Certified) (older : List Certified) → entry_count oldest (commit ∷ older) ≡ own_entries (nat_lt oldest (length (commit ∷ older))) commit older + entry_count oldest older
unfolding own_entries
entries_more oldest commit older = refl

pub entries_late : (oldest : ℕ) (commit : Certified) (older : List Certified) → oldest ≤ length older → entry_count oldest (commit ∷ older) ≡ length commit.taken.writes + entry_count oldest older
unfolding own_entries
entries_late oldest commit older le =
    ap (λ (b : Bool). length (filter (λ object. b || (newest_writer object older == 0)) commit.taken.writes) + entry_count oldest older) (lt_true oldest (length (commit ∷ older)) (omega arith))
    ∙ ap (λ (n : ℕ). n + entry_count oldest older) (all commit.taken.writes)
  where
    all : (writes : List Object) → length (filter (λ object. true || (newest_writer object older == 0)) writes) ≡ length writes
    all [] = refl
    all (object ∷ writes) = ap suc (all writes)

parted_by : (b : Bool) (object : Object) (stamp : ℕ) (first : List Object) (later : List ℕ) (whole : List Object) → length first + length later ≡ length whole
    → length (if false || b then object ∷ first else first) + length (if not b then stamp ∷ later else later) ≡ length (object ∷ whole)
parted_by true object stamp first later whole e = omega (arith, e)
parted_by false object stamp first later whole e = omega (arith, e)

-- each object had a writer before, or had none
parted : (older : List Certified) (writes : List Object)
    → length (filter (λ object. false || (newest_writer object older == 0)) writes) + length (filter (λ stamp. not (stamp == 0)) (map (λ object. newest_writer object older) writes))
    ≡ length (filter (λ object. true || (newest_writer object older == 0)) writes)
parted older [] = refl
parted older (object ∷ writes) =
    parted_by (newest_writer object older == 0) object (newest_writer object older) (filter (λ object. false || (newest_writer object older == 0)) writes)
    (filter (λ stamp. not (stamp == 0)) (map (λ object. newest_writer object older) writes)) (filter (λ object. true || (newest_writer object older == 0)) writes) (parted older writes)

own_parted : (commit : Certified) (older : List Certified) → own_entries false commit older + later_entries commit older ≡ own_entries true commit older
unfolding own_entries later_entries
own_parted commit older = parted older commit.taken.writes

-- at or before the oldest number nothing changes
entries_same : (oldest : ℕ) (commits : List Certified) → length commits ≤ oldest → entry_count (oldest + 1) commits ≡ entry_count oldest commits
entries_same oldest [] le = refl
entries_same oldest (commit ∷ older) le =
    let n = length (commit ∷ older) in
    entries_more (oldest + 1) commit older
    ∙ (λ k. own_entries (lt_false (oldest + 1) n (omega arith) k) commit older + entries_same oldest older (omega arith) k)
    ∙ (λ k. own_entries (sym (lt_false oldest n le) k) commit older + entry_count oldest older)
    ∙ sym (entries_more oldest commit older)

-- the commit that isn't past the oldest number any more
pub record IsDropped (oldest : ℕ) (commits : List Certified) : Type 0 where
  pub commit : Certified
  pub older : List Certified
  pub recent : recent_of oldest commits ≡ recent_of (oldest + 1) commits ++ recent_as commit older ∷ []
  pub entries : entry_count (oldest + 1) commits + length (filter (λ stamp. not (stamp == 0)) ((recent_as commit older).before)) ≡ entry_count oldest commits

pub dropped : (oldest : ℕ) (commits : List Certified) → oldest < length commits → IsDropped oldest commits
unfolding later_entries own_entries
dropped oldest [] within = absurd (omega arith)
dropped oldest (commit ∷ older) within = by_test (nat_lt (oldest + 1) (length (commit ∷ older))) refl (dropped oldest older) where
  kept : recent_of oldest (commit ∷ older) ≡ recent_as commit older ∷ recent_of oldest older
  kept = recent_by oldest commit older true (lt_true oldest (length (commit ∷ older)) within)

  by_test : (b : Bool) → nat_lt (oldest + 1) (length (commit ∷ older)) ≡ b → (oldest < length older → IsDropped oldest older) → IsDropped oldest (commit ∷ older)
  by_test true is rest =
      let n = length (commit ∷ older) in
      let less = lt_from (oldest + 1) n is in
      let one = rest (omega (arith, less)) in
      record {
        commit = one.commit;
        older = one.older;
        recent = kept ∙ ap (λ (l : List Recent). recent_as commit older ∷ l) one.recent
            ∙ ap (λ (l : List Recent). l ++ recent_as one.commit one.older ∷ []) (sym (recent_by (oldest + 1) commit older true is));
        entries = omega (
          arith,
          one.entries,
          entries_late (oldest + 1) commit older (omega (arith, less)),
          entries_late oldest commit older (omega (arith, less)),
        );
      }
  by_test false is rest =
      let n = length (commit ∷ older) in
      let last = le_from (oldest + 1) n is in
      let long : length older ≡ oldest = omega (arith, last) in
      record {
        commit = commit;
        older = older;
        recent = kept ∙ ap (λ (l : List Recent). recent_as commit older ∷ l) (recent_none oldest older (omega (arith, long)))
            ∙ ap (λ (l : List Recent). l ++ recent_as commit older ∷ []) (sym (recent_by (oldest + 1) commit older false is));
        entries = omega (
          arith,
          entries_more (oldest + 1) commit older ∙ ap (λ (b : Bool). own_entries b commit older + entry_count (oldest + 1) older) is,
          entries_more oldest commit older ∙ ap (λ (b : Bool). own_entries b commit older + entry_count oldest older) (lt_true oldest n within),
          entries_same oldest older (omega (arith, long)),
          own_parted commit older,
        );
      }

cons_same : (a b : Recent) (xs ys : List Recent) → a ∷ xs ≡ b ∷ ys → (a ≡ b) × (xs ≡ ys)
cons_same a b xs ys e = (cc, cc)

-- the last one is the same, and so are those before it
pub last_same : (xs ys : List Recent) (x y : Recent) → xs ++ x ∷ [] ≡ ys ++ y ∷ [] → (xs ≡ ys) × (x ≡ y)
last_same [] [] x y e = (refl, (cons_same x y [] [] e).0)
last_same [] (b ∷ ys) x y e = absurd (omega (arith, ap length e, length-append ys (y ∷ [])))
last_same (a ∷ xs) [] x y e = absurd (omega (arith, ap length e, length-append xs (x ∷ [])))
last_same (a ∷ xs) (b ∷ ys) x y e =
    let parts = cons_same a b (xs ++ x ∷ []) (ys ++ y ∷ []) e in
    let rest = last_same xs ys x y parts.1 in
    ((λ k. parts.0 k ∷ rest.0 k), rest.1)

pub recent_late : (oldest : ℕ) (commit : Certified) (older : List Certified) → oldest ≤ length older → recent_of oldest (commit ∷ older) ≡ recent_as commit older ∷ recent_of oldest older
recent_late oldest commit older le = recent_by oldest commit older true (lt_true oldest (length (commit ∷ older)) (omega arith))
