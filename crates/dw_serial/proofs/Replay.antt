-- The serial run, one transaction after another: what holds of the database before each of them.
use Rattle.std.proofs.Common.{inl, inr, ◌≡◌, ℕ, ◌-◌, ◌<◌, ◌≤◌, Bool, true, false, List, [], ◌∷◌, refl, sym, ap, subst, arith}
use Rattle.std.specs.Prelude.{◌⊎◌, ◌||◌}
use Rattle.std.proofs.lemmas.Bool.{cases_lt}
use Rattle.dw_model.specs.declared.objects.Object.{Object}
use Rattle.dw_model.specs.Databases.{Tables}
use Rattle.dw_model.specs.Objects.{is_among, same_object, SameAt, SameAtAll}
use Rattle.dw_journal.specs.declared.World.{World}
use Rattle.dw_journal.specs.Transactions.{CommittedTransaction, answered_statements, taken_by}
use Rattle.dw_journal.specs.Serial.{RunsAlone, RunsInOrder}
use Rattle.dw_model.proofs.ObjectSets.{same_object-self}
use Rattle.dw_journal.proofs.Frames.{sym_at, trans_at}
use Rattle.dw_serial.proofs.Sequence.{IsIn, Before, ComesBeforeAll, InOrder, before-low, before-stamp, before-not, before-at}

-- what a committed transaction read, and what it wrote
abbrev pub reads : World → CommittedTransaction → List Object
reads world x = (taken_by world x).reads

abbrev pub writes : World → CommittedTransaction → List Object
writes world x = (taken_by world x).writes

abbrev pub Reads : World → CommittedTransaction → Object → Type 0
Reads world x object = is_among object (reads world x) ≡ true

abbrev pub Writes : World → CommittedTransaction → Object → Type 0
Writes world x object = is_among object (writes world x) ≡ true

-- A transaction run alone on a database gives its answers. What it doesn't write stays. What it writes becomes what it is
-- after its commit, where it was what it is before that commit.
pub record Leaves (world : World) (at : ℕ → Tables) (x : CommittedTransaction) (before : Tables) : Type 0 where
  pub after : Tables
  pub runs : RunsAlone world.files (answered_statements world x.session x.answered) before after
  pub stays : (object : Object) → is_among object (writes world x) ≡ false → SameAt before after object
  pub puts : (object : Object) → Writes world x object → SameAt before (at (x.stamp - 1)) object → SameAt after (at x.stamp) object

-- What is known of the committed transactions, and of the databases after each number of commits.
pub record Facts (world : World) (commits : List CommittedTransaction) (count : ℕ) (at : ℕ → Tables) : Type 0 where
  pub within : (x : CommittedTransaction) → IsIn x commits → (0 < x.stamp) × (x.stamp ≤ count) × (x.snapshot < x.stamp)
  pub one : (x y : CommittedTransaction) → IsIn x commits → IsIn y commits → x.stamp ≡ y.stamp → x ≡ y
  -- the edges
  pub seen : (x y : CommittedTransaction) (object : Object) → IsIn x commits → IsIn y commits → x.stamp ≤ y.snapshot
      → Writes world x object → Reads world y object → x.low < y.low
  pub overwritten : (x y : CommittedTransaction) (object : Object) → IsIn x commits → IsIn y commits → x.stamp < y.stamp
      → Writes world x object → Writes world y object → x.low < y.low
  pub read_before : (x y : CommittedTransaction) (object : Object) → IsIn x commits → IsIn y commits → x.stamp < y.stamp
      → Reads world x object → Writes world y object → x.low < y.low
  pub missed : (x y : CommittedTransaction) (object : Object) → IsIn x commits → IsIn y commits → x.stamp < y.stamp → y.snapshot < x.stamp
      → Writes world x object → Reads world y object → y.low ≤ x.low
  -- an object stays where no transaction writes it
  pub quiet : (object : Object) (i j : ℕ) → i ≤ j → j ≤ count
      → ((x : CommittedTransaction) → IsIn x commits → i < x.stamp → x.stamp ≤ j → is_among object (writes world x) ≡ false)
      → SameAt (at i) (at j) object
  -- a transaction that finds what it read finds its answers
  pub alone : (x : CommittedTransaction) (before : Tables) → IsIn x commits → SameAtAll before (at x.snapshot) (reads world x)
      → Leaves world at x before

pub not_true : (b : Bool) → (b ≡ true → ⊥) → b ≡ false
not_true true never = absurd (never refl)
not_true false never = refl

both_ways : (b : Bool) → b ≡ true → b ≡ false → ⊥
both_ways true holds fails = cc
both_ways false holds fails = cc

or_true : (a b : Bool) → b ≡ true → (a || b) ≡ true
or_true true b e = refl
or_true false b e = e

-- what two databases have the same of each object of a list, they have of all
pub same_all : (a b : Tables) (objects : List Object) → ((object : Object) → is_among object objects ≡ true → SameAt a b object) → SameAtAll a b objects
same_all a b [] each = tt
same_all a b (object ∷ rest) each =
    let here : is_among object (object ∷ rest) ≡ true = rw (same_object-self object) refl in
    (each object here, same_all a b rest (λ other is. each other (or_true (same_object other object) (is_among other rest) is)))

same_low : (a b : CommittedTransaction) → a ≡ b → a.low ≡ b.low
same_low a b same = ap (λ (x : CommittedTransaction). x.low) same

same_stamp : (a b : CommittedTransaction) → a ≡ b → a.stamp ≡ b.stamp
same_stamp a b same = ap (λ (x : CommittedTransaction). x.stamp) same

module _ (world : World) (commits : List CommittedTransaction) (count : ℕ) (at : ℕ → Tables) (facts : Facts world commits count at) where
  -- of the writers of an object, those that are done have stamps up to this one, and those to come have greater ones
  abbrev IsUpTo : Object → ℕ → List CommittedTransaction → Type 0
  IsUpTo object stamp left =
      (x : CommittedTransaction) → IsIn x commits → Writes world x object → (ComesBeforeAll x left → x.stamp ≤ stamp) × (IsIn x left → stamp < x.stamp)

  -- each object is as after the commits up to the one up to which its writers are done
  abbrev Holds : List CommittedTransaction → Tables → Type 0
  Holds left tables = (object : Object) (stamp : ℕ) → stamp ≤ count → IsUpTo object stamp left → SameAt tables (at stamp) object

  -- the next transaction
  module _ (k : CommittedTransaction) (rest : List CommittedTransaction) (k_in : IsIn k commits) (after : ComesBeforeAll k rest)
      (split : (x : CommittedTransaction) → IsIn x commits → IsIn x (k ∷ rest) ⊎ ComesBeforeAll x (k ∷ rest))
      (tables : Tables) (holds : Holds (k ∷ rest) tables) where
    -- a transaction that is done has a stamp below that of k, where an edge would lead from k to it
    done_below_by : (x : CommittedTransaction) → IsIn x commits → Before x k → (k.stamp < x.stamp → k.low < x.low)
        → (x.stamp < k.stamp) ⊎ (k.stamp ≤ x.stamp) → (k.stamp < x.stamp) ⊎ (x.stamp ≤ k.stamp) → x.stamp < k.stamp
    done_below_by x x_in before edge (inl below) other = below
    done_below_by x x_in before edge (inr le) (inl later) = absurd (omega (arith, edge later, before-low x k before))
    done_below_by x x_in before edge (inr le) (inr ge) =
        let same : x ≡ k = facts.one x k x_in k_in (omega (arith, le, ge)) in
        absurd (before-not x k before (subst (λ (y : CommittedTransaction). Before y x) same (subst (λ (y : CommittedTransaction). Before x y) (sym same) before)))

    done_below : (x : CommittedTransaction) → IsIn x commits → Before x k → (k.stamp < x.stamp → k.low < x.low) → x.stamp < k.stamp
    done_below x x_in before edge = done_below_by x x_in before edge (cases_lt x.stamp k.stamp) (cases_lt k.stamp x.stamp)

    -- what k reads is as it saw it
    late : (x : CommittedTransaction) (object : Object) → IsIn x commits → Reads world k object → Writes world x object → Before x k → k.snapshot < x.stamp → ⊥
    late x object x_in read written before after_it =
        let below = done_below x x_in before (λ later. facts.read_before k x object k_in x_in later read written) in
        let low = facts.missed x k object x_in k_in below after_it written read in
        let same : x.low ≡ k.low = omega (arith, low, before-low x k before) in
        omega (arith, below, before-stamp x k before same)

    not_yet : (x : CommittedTransaction) (object : Object) → IsIn x commits → Reads world k object → Writes world x object → IsIn x (k ∷ rest) → x.stamp ≤ k.snapshot → ⊥
    not_yet x object x_in read written (inl same) le = omega (arith, facts.seen x k object x_in k_in le written read, same_low x k same)
    not_yet x object x_in read written (inr there) le =
        omega (arith, facts.seen x k object x_in k_in le written read, before-low k x (before-at k x rest after there))

    at_most : (x : CommittedTransaction) (object : Object) → IsIn x commits → Reads world k object → Writes world x object → Before x k
        → (k.snapshot < x.stamp) ⊎ (x.stamp ≤ k.snapshot) → x.stamp ≤ k.snapshot
    at_most x object x_in read written before (inl lt) = absurd (late x object x_in read written before lt)
    at_most x object x_in read written before (inr le) = le

    at_least : (x : CommittedTransaction) (object : Object) → IsIn x commits → Reads world k object → Writes world x object → IsIn x (k ∷ rest)
        → (k.snapshot < x.stamp) ⊎ (x.stamp ≤ k.snapshot) → k.snapshot < x.stamp
    at_least x object x_in read written to_come (inl lt) = lt
    at_least x object x_in read written to_come (inr le) = absurd (not_yet x object x_in read written to_come le)

    up_to_snapshot : (object : Object) → Reads world k object → IsUpTo object k.snapshot (k ∷ rest)
    up_to_snapshot object read x x_in written = (
      (λ done. at_most x object x_in read written done.0 (cases_lt k.snapshot x.stamp)),
      (λ to_come. at_least x object x_in read written to_come (cases_lt k.snapshot x.stamp)),
    )

    snapshot_within : k.snapshot ≤ count
    snapshot_within = let w = facts.within k k_in in omega (arith, w.1, w.2)

    finds : SameAtAll tables (at k.snapshot) (reads world k)
    finds = same_all tables (at k.snapshot) (reads world k) (λ object read. holds object k.snapshot snapshot_within (up_to_snapshot object read))

    left : Leaves world at k tables
    left = facts.alone k tables k_in finds

    -- the writers of an object that k writes are done just up to k
    above_by : (x : CommittedTransaction) (object : Object) → IsIn x commits → Writes world k object → Writes world x object → IsIn x rest
        → (x.stamp < k.stamp) ⊎ (k.stamp ≤ x.stamp) → k.stamp - 1 < x.stamp
    above_by x object x_in wrote written there (inl below) =
        absurd (omega (arith, facts.overwritten x k object x_in k_in below written wrote, before-low k x (before-at k x rest after there)))
    above_by x object x_in wrote written there (inr le) = omega (arith, le, (facts.within k k_in).0)

    above : (x : CommittedTransaction) (object : Object) → IsIn x commits → Writes world k object → Writes world x object → IsIn x (k ∷ rest) → k.stamp - 1 < x.stamp
    above x object x_in wrote written (inl same) = omega (arith, same_stamp x k same, (facts.within k k_in).0)
    above x object x_in wrote written (inr there) = above_by x object x_in wrote written there (cases_lt x.stamp k.stamp)

    up_to_before : (object : Object) → Writes world k object → IsUpTo object (k.stamp - 1) (k ∷ rest)
    up_to_before object wrote x x_in written = (
      (λ done. let below = done_below x x_in done.0 (λ later. facts.overwritten k x object k_in x_in later wrote written) in omega (arith, below)),
      (λ to_come. above x object x_in wrote written to_come),
    )

    -- no other writer stands between k and the stamp up to which they are done afterwards
    between : (x : CommittedTransaction) (object : Object) (stamp : ℕ) → IsIn x commits → Writes world k object → Writes world x object → k.stamp < x.stamp
        → x.stamp ≤ stamp → (IsIn x rest → stamp < x.stamp) → IsIn x (k ∷ rest) ⊎ ComesBeforeAll x (k ∷ rest) → ⊥
    between x object stamp x_in wrote written later le to_come (inl (inl same)) = omega (arith, later, same_stamp x k same)
    between x object stamp x_in wrote written later le to_come (inl (inr there)) = omega (arith, le, to_come there)
    between x object stamp x_in wrote written later le to_come (inr done) =
        omega (arith, facts.overwritten k x object k_in x_in later wrote written, before-low x k done.0)

    none_between : (object : Object) (stamp : ℕ) → Writes world k object → IsUpTo object stamp rest → (x : CommittedTransaction) → IsIn x commits
        → k.stamp < x.stamp → x.stamp ≤ stamp → is_among object (writes world x) ≡ false
    none_between object stamp wrote up x x_in later le =
        not_true _ (λ written. between x object stamp x_in wrote written later le (up x x_in written).1 (split x x_in))

    still : (x : CommittedTransaction) (object : Object) (stamp : ℕ) → IsIn x commits → is_among object (writes world k) ≡ false → Writes world x object
        → IsIn x (k ∷ rest) → (IsIn x rest → stamp < x.stamp) → stamp < x.stamp
    still x object stamp x_in unwritten written (inl same) to_come =
        absurd (both_ways _ (subst (λ (y : CommittedTransaction). Writes world y object) same written) unwritten)
    still x object stamp x_in unwritten written (inr there) to_come = to_come there

    next_by : (object : Object) (stamp : ℕ) → stamp ≤ count → IsUpTo object stamp rest → (wrote : Bool) → is_among object (writes world k) ≡ wrote
        → SameAt left.after (at stamp) object
    next_by object stamp le up true wrote =
        let first = holds object (k.stamp - 1) (omega (arith, (facts.within k k_in).1)) (up_to_before object wrote) in
        let put = left.puts object wrote first in
        let mine : k.stamp ≤ stamp = (up k k_in wrote).0 after in
        trans_at _ _ _ object put (facts.quiet object k.stamp stamp mine le (none_between object stamp wrote up))
    next_by object stamp le up false unwritten =
        trans_at _ _ _ object (sym_at _ _ object (left.stays object unwritten))
        (holds object stamp le (λ x x_in written. ((λ done. (up x x_in written).0 done.1), (λ to_come. still x object stamp x_in unwritten written to_come (up x x_in written).1))))

    next : Holds rest left.after
    next object stamp le up = next_by object stamp le up _ refl

  -- after the next transaction the others are still to come, or done
  split_by : (k : CommittedTransaction) (rest : List CommittedTransaction) → ComesBeforeAll k rest → (x : CommittedTransaction) → IsIn x (k ∷ rest) ⊎ ComesBeforeAll x (k ∷ rest) → IsIn x rest ⊎ ComesBeforeAll x rest
  split_by k rest after x (inl (inl same)) = inr (subst (λ (y : CommittedTransaction). ComesBeforeAll y rest) (sym same) after)
  split_by k rest after x (inl (inr there)) = inl there
  split_by k rest after x (inr done) = inr done.1

  split_next : (k : CommittedTransaction) (rest : List CommittedTransaction) → ComesBeforeAll k rest
      → ((x : CommittedTransaction) → IsIn x commits → IsIn x (k ∷ rest) ⊎ ComesBeforeAll x (k ∷ rest))
      → (x : CommittedTransaction) → IsIn x commits → IsIn x rest ⊎ ComesBeforeAll x rest
  split_next k rest after split x x_in = split_by k rest after x (split x x_in)

  -- the transactions that are left lead to the database after all commits
  pub replay : (left : List CommittedTransaction) (tables : Tables) → InOrder left → ((x : CommittedTransaction) → IsIn x left → IsIn x commits)
      → ((x : CommittedTransaction) → IsIn x commits → IsIn x left ⊎ ComesBeforeAll x left) → Holds left tables
      → ((a : Tables) (b : Tables) → ((object : Object) → SameAt a b object) → a ≡ b) → RunsInOrder world left tables (at count)
  replay [] tables order known split holds same =
      sym (same tables (at count) (λ object. holds object count (omega arith) (λ x x_in written. ((λ done. (facts.within x x_in).1), (λ to_come. absurd to_come)))))
  replay (k ∷ rest) tables order known split holds same =
      let k_in = known k (inl refl) in
      let leaves = left k rest k_in order.0 split tables holds in
      (leaves.after, (leaves.runs, replay rest leaves.after order.1 (λ x is. known x (inr is)) (split_next k rest order.0 split) (next k rest k_in order.0 split tables holds) same))

  -- before the first transaction nothing is written
  starts : (order : List CommittedTransaction) → ((x : CommittedTransaction) → IsIn x commits → IsIn x order) → Holds order (at 0)
  starts order all object stamp le up =
      facts.quiet object 0 stamp (omega arith) le (λ x x_in some most. not_true _ (λ written. omega (arith, most, (up x x_in written).1 (all x x_in))))

  pub replay_all : (order : List CommittedTransaction) → InOrder order → ((x : CommittedTransaction) → IsIn x order → IsIn x commits)
      → ((x : CommittedTransaction) → IsIn x commits → IsIn x order)
      → ((a : Tables) (b : Tables) → ((object : Object) → SameAt a b object) → a ≡ b) → RunsInOrder world order (at 0) (at count)
  replay_all order sorted known all same =
      replay order (at 0) sorted known (λ x x_in. inl (all x x_in)) (starts order all) same
