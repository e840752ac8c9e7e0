-- How a commit is decided, and what it leaves.
use Rattle.std.proofs.Common.{◌≡◌, ◌≢◌, ◌⊎◌, ℕ, ◌+◌, ◌-◌, ◌≤◌, List, ◌∷◌, refl, sym, ap, subst, ◌∙◌, arith, inl, inr}
use Rattle.std.specs.Prelude.{Option, Some, None, option_map}
use Rattle.std.proofs.Math.ListN.{set}
use Rattle.dw_model.specs.declared.changes.Change.{Change}
use Rattle.dw_model.specs.declared.refusals.Refusal.TheVariants.{Memory}
use Rattle.dw_model.specs.Databases.{Tables}
use Rattle.dw_journal.specs.declared.Event.{Event}
use Rattle.dw_journal.specs.declared.Event.TheVariants.{Commit, Violation, Refuse}
use Rattle.dw_journal.specs.declared.Taken.{Taken}
use Rattle.dw_journal.specs.History.{History, with_event}
use Rattle.dw_journal.specs.Transactions.{Transaction, transaction_of, commits, opened_statements, snapshot_in, taken_of, taken_over}
use Rattle.dw_journal.specs.Contents.{contents, after_commit}
use Rattle.dw_journal.specs.Follows.{FollowsAfter}
use Rattle.dw_journal.specs.Legal.{IsNextEvent, low_of, high_of}
use Rattle.dw_journal.specs.Turns.{number_due}
use Rattle.dw_core.specs.declared.decisions.Committed.{Committed}
use Rattle.dw_core.specs.declared.decisions.Committed.TheVariants as decisions
use Rattle.dw_core.specs.DueEvents.{commit_due, decision_of}
use Rattle.dw_commit.specs.declared.views.View.{View}
use Rattle.dw_engine.specs.EngineInvariant.{HasView, Sees, EngineInvariant}
use Rattle.dw_engine.specs.Steps.{IsStep, moved}
use Rattle.dw_engine.proofs.ViewLemmas.{EngineInvariant-ended, some_by}

-- any decision is a step
pub decided : (session : ℕ) (decision : Committed) {engine core after : History} → core ≡ engine
    → after ≡ with_event core (decision_of session (number_due core session) decision)
    → IsNextEvent core (decision_of session (number_due core session) decision) → IsStep session engine after
decided session decision {engine} {core} {after} is now next =
    subst (λ (h : History). IsStep session h after) is (subst (IsStep session core) (sym now) (one decision next))
  where
    one : (decision : Committed) → IsNextEvent core (decision_of session (number_due core session) decision)
        → IsStep session core (with_event core (decision_of session (number_due core session) decision))
    one (decisions.Stamped stamp low high) next = moved (Commit session (number_due core session) stamp low high) refl refl next
    one (decisions.Violation low high object) next = moved (Violation session (number_due core session) low high object) refl refl next
    one decisions.Memory next = moved (Refuse session (number_due core session) Memory) refl refl next

module _ (history : History) (database : Tables) (views : List (Option View)) (invariant : EngineInvariant history database views)
    (session place : ℕ) (some : 1 ≤ session) (at : place ≡ session - 1) (after : History) where
  -- it is no commit, and nothing is installed
  pub EngineInvariant-dropped : (decision : Committed) → after ≡ with_event history (decision_of session (number_due history session) decision)
      → ((stamp low high : ℕ) → decision ≡ decisions.Stamped stamp low high → ⊥) → EngineInvariant after database (set views place None)
  EngineInvariant-dropped (decisions.Stamped stamp low high) now not = absurd (not stamp low high refl)
  EngineInvariant-dropped (decisions.Violation low high object) now not =
      EngineInvariant-ended history database views invariant session place (Violation session (number_due history session) low high object) after database some at refl now invariant.newest refl
  EngineInvariant-dropped decisions.Memory now not =
      EngineInvariant-ended history database views invariant session place (Refuse session (number_due history session) Memory) after database some at refl now invariant.newest refl

  -- it is a commit, and what it leaves is installed
  pub EngineInvariant-stamped : (decision : Committed) (stamp low high : ℕ) (next : Tables) → decision ≡ decisions.Stamped stamp low high
      → IsNextEvent history (decision_of session (number_due history session) decision)
      → after ≡ with_event history (decision_of session (number_due history session) decision)
      → next ≡ contents (with_event history (commit_due history session)) → EngineInvariant after next (set views place None)
  EngineInvariant-stamped (decisions.Violation l h object) stamp low high next is comes now left = cc
  EngineInvariant-stamped decisions.Memory stamp low high next is comes now left = cc
  EngineInvariant-stamped (decisions.Stamped s l h) stamp low high next is comes now left =
      let k = number_due history session in
      let same : commit_due history session ≡ Commit session k s l h =
      ap (λ (n : ℕ). Commit session k n (low_of history session) (high_of history session)) (sym comes.1.0)
      ∙ ap (λ (n : ℕ). Commit session k s n (high_of history session)) (sym comes.1.1)
      ∙ ap (λ (n : ℕ). Commit session k s l n) (sym comes.1.2) in
      EngineInvariant-ended history database views invariant session place (Commit session k s l h) after next some at refl now
      (left ∙ ap (λ (event : Event). contents (with_event history event)) same) refl

-- it is no commit where the low watermark is at most the high one
pub not_stamped : (history : History) (session k : ℕ) (decision : Committed) → IsNextEvent history (decision_of session k decision)
    → low_of history session ≤ high_of history session → (stamp low high : ℕ) → decision ≡ decisions.Stamped stamp low high → ⊥
not_stamped history session k (decisions.Stamped s l h) comes le stamp low high is =
    omega (arith, comes.1.1, comes.1.2, comes.1.3, le)
not_stamped history session k (decisions.Violation l h object) comes le stamp low high is = cc
not_stamped history session k decisions.Memory comes le stamp low high is = cc

-- what is installed is what the commit leaves: what its transaction took, changed and saw
module _ (history : History) (session : ℕ) (seen : View) (has : HasView history session (transaction_of session history.events) (Some seen)) where
  abbrev left : Taken → List Change → Tables → Tables → Tables
  left taken changes view before = after_commit (record { taken = taken; changes = changes; view = view }) before

  abbrev took : Transaction → Taken
  took transaction = taken_over history.world session (opened_statements session history.events) transaction.snapshot

  committed_leaves : (stamp low high : ℕ) (transaction : Transaction) → transaction_of session history.events ≡ Some transaction
      → Sees history session transaction seen
      → contents (with_event history (Commit session (number_due history session) stamp low high)) ≡ left (took transaction) seen.changes seen.database (contents history)
  committed_leaves stamp low high transaction is sees = rw (is, sees.seen.changes, sees.seen.database) refl

  pub installed_is : (taken : Taken) (database next : Tables) → Some taken ≡ taken_of history session → database ≡ contents history
      → next ≡ left taken seen.changes seen.database database → next ≡ contents (with_event history (commit_due history session))
  installed_is taken database next is newest installed =
      let one = some_by history session (transaction_of session history.events) seen has in
      let all : Some taken ≡ Some (took one.0) =
      is ∙ ap (λ (t : Option Transaction). option_map (taken_over history.world session (opened_statements session history.events)) (snapshot_in t)) one.1 in
      let same : taken ≡ took one.0 = cc all in
      installed ∙ ap (λ (t : Taken). left t seen.changes seen.database database) same ∙ ap (left (took one.0) seen.changes seen.database) newest
      ∙ sym (committed_leaves (commits history.events + 1) (low_of history session) (high_of history session) one.0 one.1 one.2)

-- a transaction that is open took something, if only a snapshot
pub is_taken : (history : History) (session : ℕ) (transaction : Transaction) → transaction_of session history.events ≡ Some transaction
    → taken_of history session ≢ None
is_taken history session transaction is none = cc (ap (option_map (taken_over history.world session (opened_statements session history.events))) (ap snapshot_in (sym is)) ∙ none)

none_taken : (took : ℕ → Taken) (transaction : Option Transaction) → option_map took (snapshot_in transaction) ≡ None → transaction ≡ None
none_taken took None is = refl
none_taken took (Some transaction) is = cc

pub no_transaction : (history : History) (session : ℕ) → taken_of history session ≡ None → transaction_of session history.events ≡ None
no_transaction history session is =
    none_taken (taken_over history.world session (opened_statements session history.events)) (transaction_of session history.events) is

one_taken : (took : ℕ → Taken) (transaction : Option Transaction) → option_map took (snapshot_in transaction) ≢ None
    → (one : Transaction) × (transaction ≡ Some one)
one_taken took None is = absurd (is refl)
one_taken took (Some transaction) is = (transaction, refl)

pub a_transaction : (history : History) (session : ℕ) → taken_of history session ≢ None → (one : Transaction) × (transaction_of session history.events ≡ Some one)
a_transaction history session is =
    one_taken (taken_over history.world session (opened_statements session history.events)) (transaction_of session history.events) is
