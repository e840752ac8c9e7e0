-- What is kept decides whether events are legal.
use Rattle.std.proofs.Common.{◌≡◌, ℕ, suc, ◌+◌, ◌<◌, ◌≤◌, Bool, true, false, List, [], ◌∷◌, length, get_or, refl, sym, ap, subst, ◌∙◌, arith}
use Rattle.std.specs.Prelude.{Option, Some, None, ◌&&◌, is_some, nat_eq, nat_le, nat_lt, option_map, slice_get, reverse}
use Rattle.std.specs.Bool.{Decides}
use Rattle.std.specs.FinMap as map_of
use Rattle.std.specs.List.{find, position, position_from, range_with_len}
use Rattle.std.specs.Option.{option_map_or}
use Rattle.std.proofs.lemmas.Bool.{eqb-true, eq-eqb, ltb-true, lt-ltb, leb-true, le-leb, and_parts, and_from, false≢true}
use Rattle.std.proofs.lemmas.Iterator.Adapters.{position_from-zero}
use Rattle.std.proofs.lemmas.Option.{slice_get_read}
use Rattle.dw_model.specs.declared.objects.Object.{Object}
use Rattle.dw_model.specs.declared.objects.Object.TheVariants.{Def, Rows}
use Rattle.dw_model.specs.declared.tables.Table.{Table}
use Rattle.dw_model.specs.Databases.{Tables}
use Rattle.dw_model.specs.Objects.{same_object}
use Rattle.dw_journal.specs.declared.Certified.{Certified}
use Rattle.dw_journal.specs.declared.Event.{Event}
use Rattle.dw_journal.specs.declared.Taken.{Taken}
use Rattle.dw_journal.specs.History.{History}
use Rattle.dw_journal.specs.Transactions.{Transaction, transaction_of, opened_statements, taken_over, taken_of, snapshot_in, commits}
use Rattle.dw_journal.specs.Contents.{contents}
use Rattle.dw_journal.specs.Vacuums.{swept_by, sweeper}
use Rattle.dw_journal.specs.Locks.{lock_state, blockers, sweep_lock}
use Rattle.dw_journal.specs.Watermarks.{low_watermark, high_watermark, violated_object}
use Rattle.dw_journal.specs.Legal.{IsLegalCommit, IsLegalRefresh, IsLegalSlice, IsLegalSweep, IsLegalViolation, absent_refusal, certified, high_by, high_of, low_by, low_of, object_by, object_of}
use Rattle.dw_judge.specs.declared.sessions.OpenOne.{OpenOne}
use Rattle.dw_judge.specs.declared.sessions.Session.{Session}
use Rattle.dw_judge.specs.declared.summaries.Summary.{Summary}
use Rattle.dw_judge.specs.Judging.{are_marks, are_violating, is_refresh_of}
use Rattle.dw_judge.specs.Summaries.{HasOpen, IsKept, StandsFor}
use Rattle.dw_judge.proofs.Happening.{commits_certified}
use Rattle.dw_judge.proofs.Same.{same_name-self, same_name-true}

pub refuted : {P : Type 0} → (P → ⊥) → Decides false P
refuted not_so = ((λ is. absurd (false≢true is)), (λ so. absurd (not_so so)))

pub shown : {P : Type 0} → P → Decides true P
shown so = ((λ is. so), (λ is. refl))

-- ---- what a transaction took
taken_by_kept : (history : History) (session : ℕ) (transaction : Option Transaction) (kept : Option OpenOne) → HasOpen history session transaction kept
    → option_map (taken_over history.world session (opened_statements session history.events)) (snapshot_in transaction) ≡ option_map (λ (one : OpenOne). one.taken) kept
taken_by_kept history session None None has = refl
taken_by_kept history session None (Some kept) has = absurd has
taken_by_kept history session (Some transaction) None has = absurd has
taken_by_kept history session (Some transaction) (Some kept) has = ap Some (sym has.taken)

pub taken_is : (events : List Event) (history : History) (session : ℕ) (kept : Session) (found : Option OpenOne) → IsKept events history session kept
    → kept.transaction ≡ found → taken_of history session ≡ option_map (λ (one : OpenOne). one.taken) found
taken_is events history session kept found is_kept is =
    taken_by_kept history session (transaction_of session history.events) kept.transaction is_kept.transaction
    ∙ ap (option_map (λ (one : OpenOne). one.taken)) is

-- ---- commits and violations
module _ (history : History) (session : ℕ) (none : taken_of history session ≡ None) where
  pub commit_of_none : (stamp low high : ℕ) → Decides false (IsLegalCommit history session stamp low high)
  commit_of_none stamp low high =
      refuted (λ legal. omega (arith, legal.1, legal.3, ap (low_by (certified history)) none))

  pub violation_of_none : (low high : ℕ) (object : Object) → Decides false (IsLegalViolation history session low high object)
  violation_of_none low high object =
      refuted (λ legal. cc (sym (ap (object_by (certified history)) none) ∙ legal.3))

marks-true : (count due_low due_high stamp low high : ℕ) → are_marks count due_low due_high stamp low high ≡ true
    → (stamp ≡ count + 1) × (low ≡ due_low) × (high ≡ due_high) × (high < low)
marks-true count due_low due_high stamp low high is =
    let last = and_parts ((nat_eq stamp (count + 1) && nat_eq low due_low) && nat_eq high due_high) (nat_lt high low) is in
    let third = and_parts (nat_eq stamp (count + 1) && nat_eq low due_low) (nat_eq high due_high) last.0 in
    let first = and_parts (nat_eq stamp (count + 1)) (nat_eq low due_low) third.0 in
    (eqb-true stamp (count + 1) first.0, eqb-true low due_low first.1, eqb-true high due_high third.1, ltb-true high low last.1)

marks-from : (count due_low due_high stamp low high : ℕ) → stamp ≡ count + 1 → low ≡ due_low → high ≡ due_high → high < low
    → are_marks count due_low due_high stamp low high ≡ true
marks-from count due_low due_high stamp low high a b c d =
    and_from ((nat_eq stamp (count + 1) && nat_eq low due_low) && nat_eq high due_high) (nat_lt high low)
    (and_from (nat_eq stamp (count + 1) && nat_eq low due_low) (nat_eq high due_high)
    (and_from (nat_eq stamp (count + 1)) (nat_eq low due_low) (eq-eqb stamp (count + 1) a) (eq-eqb low due_low b)) (eq-eqb high due_high c)) (lt-ltb high low d)

violating-true : (due_low due_high low high : ℕ) (named : Bool) → are_violating due_low due_high low high named ≡ true
    → (low ≡ due_low) × (high ≡ due_high) × (low ≤ high) × (named ≡ true)
violating-true due_low due_high low high named is =
    let last = and_parts ((nat_eq low due_low && nat_eq high due_high) && nat_le low high) named is in
    let third = and_parts (nat_eq low due_low && nat_eq high due_high) (nat_le low high) last.0 in
    let first = and_parts (nat_eq low due_low) (nat_eq high due_high) third.0 in
    (eqb-true low due_low first.0, eqb-true high due_high first.1, leb-true low high third.1, last.1)

violating-from : (due_low due_high low high : ℕ) (named : Bool) → low ≡ due_low → high ≡ due_high → low ≤ high → named ≡ true
    → are_violating due_low due_high low high named ≡ true
violating-from due_low due_high low high named a b c d =
    and_from ((nat_eq low due_low && nat_eq high due_high) && nat_le low high) named
    (and_from (nat_eq low due_low && nat_eq high due_high) (nat_le low high)
    (and_from (nat_eq low due_low) (nat_eq high due_high) (eq-eqb low due_low a) (eq-eqb high due_high b)) (le-leb low high c)) d

object-true : (a b : Object) → same_object a b ≡ true → a ≡ b
object-true (Def a) (Def b) is = ap Def (same_name-true a b is)
object-true (Def a) (Rows b) is = absurd (false≢true is)
object-true (Rows a) (Def b) is = absurd (false≢true is)
object-true (Rows a) (Rows b) is = ap Rows (same_name-true a b is)

object-self : (a : Object) → same_object a a ≡ true
object-self (Def a) = same_name-self a
object-self (Rows a) = same_name-self a

named-true : (object : Object) (found : Option Object) → option_map_or (same_object object) found false ≡ true → found ≡ Some object
named-true object None is = absurd (false≢true is)
named-true object (Some other) is = ap Some (sym (object-true object other is))

named-from : (object : Object) (found : Option Object) → found ≡ Some object → option_map_or (same_object object) found false ≡ true
named-from object found is = rw is (object-self object)

module _ (history : History) (session : ℕ) (taken : Taken) (done : List Certified) (low_due high_due : ℕ)
    (took : taken_of history session ≡ Some taken) (done_are : reverse done ≡ certified history)
    (low_is : low_due ≡ low_watermark taken (reverse done)) (high_is : high_due ≡ high_watermark taken (reverse done)) where
  low_kept : low_due ≡ low_of history session
  low_kept = low_is ∙ ap (low_watermark taken) done_are ∙ sym (ap (low_by (certified history)) took)

  high_kept : high_due ≡ high_of history session
  high_kept = high_is ∙ ap (high_watermark taken) done_are ∙ sym (ap (high_by (certified history)) took)

  pub commit_decided : (count stamp low high : ℕ) (result : Bool) → count ≡ length done → result ≡ are_marks count low_due high_due stamp low high
      → Decides result (IsLegalCommit history session stamp low high)
  commit_decided count stamp low high result counted tested =
      let all : count ≡ commits history.events = counted ∙ commits_certified history done done_are in (
        (λ is. let m = marks-true count low_due high_due stamp low high (sym tested ∙ is) in
            (m.0 ∙ ap (λ (n : ℕ). n + 1) all, m.1 ∙ low_kept, m.2 ∙ high_kept, m.3)),
        (λ legal. tested ∙ marks-from count low_due high_due stamp low high (legal.0 ∙ ap (λ (n : ℕ). n + 1) (sym all)) (legal.1 ∙ sym low_kept) (legal.2 ∙ sym high_kept) legal.3),
      )

  pub violation_decided : (low high : ℕ) (object : Object) (named result : Bool)
      → named ≡ option_map_or (same_object object) (violated_object taken (reverse done)) false
      → result ≡ are_violating low_due high_due low high named
      → Decides result (IsLegalViolation history session low high object)
  violation_decided low high object named result named_is tested =
      let found : violated_object taken (reverse done) ≡ object_of history session =
      ap (violated_object taken) done_are ∙ sym (ap (object_by (certified history)) took) in (
        (λ is. let m = violating-true low_due high_due low high named (sym tested ∙ is) in
            (m.0 ∙ low_kept, m.1 ∙ high_kept, m.2, sym found ∙ named-true object (violated_object taken (reverse done)) (sym named_is ∙ m.3))),
        (λ legal. tested ∙ violating-from low_due high_due low high named (legal.0 ∙ sym low_kept) (legal.1 ∙ sym high_kept) legal.2
            (named_is ∙ named-from object (violated_object taken (reverse done)) (found ∙ legal.3))),
      )

-- ---- slices and refreshes
pub slice_decided : (events : List Event) (history : History) (summary : Summary) → StandsFor events history summary
    → (session due kept : ℕ) (result : Bool) → session < length summary.horizons.items → kept ≡ get_or summary.horizons.items session kept → result ≡ nat_eq due kept
    → Decides result (IsLegalSlice history session due)
slice_decided events history summary stands session due kept result within here tested =
    let is = stands.horizons session kept (slice_get_read summary.horizons.items (length summary.horizons.items) session kept refl within here) in
    ((λ passes. eqb-true due kept (sym tested ∙ passes) ∙ is), (λ legal. tested ∙ eq-eqb due kept (legal ∙ sym is)))

pub refresh_decided : (events : List Event) (history : History) (summary : Summary) → StandsFor events history summary
    → (cluster stamp count : ℕ) (result : Bool) → count ≡ length summary.commits.items → result ≡ is_refresh_of history.shape.clusters count cluster stamp
    → Decides result (IsLegalRefresh history cluster stamp)
refresh_decided events history summary stands cluster stamp count result counted tested =
    let all : count ≡ commits history.events = counted ∙ commits_certified history summary.commits.items stands.certified_are in (
      (λ is.
          let outer = and_parts (nat_le 1 cluster && nat_le cluster history.shape.clusters) (nat_eq stamp count) (sym tested ∙ is) in
          let inner = and_parts (nat_le 1 cluster) (nat_le cluster history.shape.clusters) outer.0 in
          (leb-true 1 cluster inner.0, leb-true cluster history.shape.clusters inner.1, eqb-true stamp count outer.1 ∙ all)),
      (λ legal. tested ∙ and_from (nat_le 1 cluster && nat_le cluster history.shape.clusters) (nat_eq stamp count)
          (and_from (nat_le 1 cluster) (nat_le cluster history.shape.clusters) (le-leb 1 cluster legal.0) (le-leb cluster history.shape.clusters legal.1))
          (eq-eqb stamp count (legal.2 ∙ sym all))),
    )

-- ---- vacuums
found_mirrored : {X : Type 0} (p : X → Bool) (g : ℕ → Bool) (xs : List X) (a : ℕ) → ((i : ℕ) (x : X) → slice_get xs i ≡ Some x → p x ≡ g (a + i))
    → position_from p a xs ≡ find g (range_with_len a (length xs))
found_mirrored p g [] a each = refl
found_mirrored {X} p g (x ∷ xs) a each =
    let first : p x ≡ g a = each 0 x refl ∙ ap g (omega arith) in
    let later : position_from p (a + 1) xs ≡ find g (range_with_len (a + 1) (length xs)) =
    found_mirrored p g xs (a + 1) (λ i y is. each (suc i) y is ∙ ap g (omega arith)) in
    rw (first, later) refl

pub sweeper_is : (events : List Event) (history : History) (summary : Summary) → StandsFor events history summary
    → position (λ (kept : Session). kept.sweeps) summary.sessions.items ≡ sweeper history
sweeper_is events history summary stands =
    position_from-zero (λ (kept : Session). kept.sweeps) summary.sessions.items
    ∙ found_mirrored (λ (kept : Session). kept.sweeps) (λ (session : ℕ). is_some (swept_by session history.events)) summary.sessions.items 0
    (λ i kept is. (stands.each i kept is).sweeps ∙ ap (λ (session : ℕ). is_some (swept_by session history.events)) (omega arith))
    ∙ ap (λ (n : ℕ). find (λ (session : ℕ). is_some (swept_by session history.events)) (range_with_len 0 n)) stands.number

absent_none : (table : List ℕ) (found : Option Table) → absent_refusal table found ≡ None → found ≡ None → ⊥
absent_none table None present is = cc
absent_none table (Some one) present is = cc

module _ (events : List Event) (history : History) (summary : Summary) (stands : StandsFor events history summary) (session : ℕ) (table : List ℕ) where
  pub sweep_runs : (n : ℕ) → position (λ (kept : Session). kept.sweeps) summary.sessions.items ≡ Some n → Decides false (IsLegalSweep history session table)
  sweep_runs n is = refuted (λ legal. cc (sym is ∙ sweeper_is events history summary stands ∙ legal.0))

  -- a lock stands in its way
  pub sweep_blocked : (free : Bool) → Decides free (blockers (lock_state history) session (sweep_lock table ∷ []) ≡ []) → free ≡ false
      → Decides false (IsLegalSweep history session table)
  sweep_blocked free decides is = refuted (λ legal. false≢true (sym is ∙ decides.1 legal.1))

  sweep_by : (found : Option Table) → map_of.get summary.database table ≡ found → blockers (lock_state history) session (sweep_lock table ∷ []) ≡ []
      → position (λ (kept : Session). kept.sweeps) summary.sessions.items ≡ None → Decides (is_some found) (IsLegalSweep history session table)
  sweep_by None is free none =
      refuted (λ legal. absent_none table (map_of.get (contents history) table) legal.2 (ap (λ (d : Tables). map_of.get d table) (sym stands.newest) ∙ is))
  sweep_by (Some one) is free none =
      shown (
        sym (sweeper_is events history summary stands) ∙ none,
        free,
        ap (absent_refusal table) (ap (λ (d : Tables). map_of.get d table) (sym stands.newest) ∙ is),
      )

  pub sweep_tested : (result free : Bool) → result ≡ is_some (map_of.get summary.database table)
      → Decides free (blockers (lock_state history) session (sweep_lock table ∷ []) ≡ []) → free ≡ true
      → position (λ (kept : Session). kept.sweeps) summary.sessions.items ≡ None → Decides result (IsLegalSweep history session table)
  sweep_tested result free is decides so none =
      subst (λ (b : Bool). Decides b (IsLegalSweep history session table)) (sym is) (sweep_by (map_of.get summary.database table) refl (decides.0 so) none)
