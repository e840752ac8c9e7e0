-- The summary is ready for an opening, an answer and a commit.
use Rattle.std.proofs.Common.{◌≡◌, ℕ, true, List, [], ◌∷◌, ◌++◌, reverse, refl, sym, ap, subst, ◌∙◌, arith}
use Rattle.std.specs.Prelude.{Option, Some, None}
use Rattle.std.proofs.lemmas.List.{reverse-append}
use Rattle.dw_model.specs.declared.answers.Answer.{Answer as Reply}
use Rattle.dw_model.specs.declared.objects.Object.{Object}
use Rattle.dw_model.specs.declared.statements.Statement.{Statement}
use Rattle.dw_model.specs.Databases.{Tables}
use Rattle.dw_model.specs.Objects.{IsAscendingObjects, reads_of, with_objects, writes_of}
use Rattle.dw_journal.specs.declared.Certified.{Certified}
use Rattle.dw_journal.specs.declared.Event.{Event}
use Rattle.dw_journal.specs.declared.Event.TheVariants.{Opened, Answer, Commit}
use Rattle.dw_journal.specs.declared.Route.{Route}
use Rattle.dw_journal.specs.declared.Taken.{Taken}
use Rattle.dw_journal.specs.Worlds.{statement_at}
use Rattle.dw_journal.specs.History.{History, is_of, with_event}
use Rattle.dw_journal.specs.Transactions.{Transaction, answered_in, committed, commits, objects_by, objects_over, opened_in, opened_statements, taken_over, transaction_of}
use Rattle.dw_journal.specs.Contents.{contents, contents_at, after_commit}
use Rattle.dw_journal.specs.Legal.{certified, snapshot_due, snapshot_in_or}
use Rattle.dw_journal.proofs.Stand.{state_newest}
use Rattle.dw_journal.proofs.TakenObjects.{objects_over-ascending}
use Rattle.dw_commit.specs.Views.{IsViewOf}
use Rattle.dw_commit.proofs.ViewLemmas.{statements_in-answered, IsViewOf-answered}
use Rattle.dw_judge.specs.declared.sessions.OpenOne.{OpenOne}
use Rattle.dw_judge.specs.declared.sessions.Session.{Session}
use Rattle.dw_judge.specs.AnswersJudged.{IsAnsweredBy, IsAnswered}
use Rattle.dw_judge.specs.Changes.{begun_in, widened_by}
use Rattle.dw_judge.specs.Summaries.{HasOpen, IsKept}
use Rattle.dw_judge.proofs.Happening.{own_event}

abbrev taken_of_parts : ℕ → List Object → List Object → Taken
taken_of_parts snapshot reads writes = record { snapshot = snapshot; reads = reads; writes = writes }

-- ---- openings
module _ (history : History) (session k snapshot : ℕ) (route : Route) (given : Statement) (there : statement_at history.world session k ≡ Some given) where
  abbrev opening : Event
  opening = Opened session k snapshot route

  mine : is_of session opening ≡ true
  mine = own_event opening session refl

  -- the statement's objects are taken, too
  reads_more : (opened : List ℕ) (reads : List Object) → reads ≡ objects_over reads_of history.world session opened
      → with_objects (reads_of given) reads ≡ objects_over reads_of history.world session (k ∷ opened)
  reads_more opened reads is =
      ap (with_objects (reads_of given)) is
      ∙ ap (λ (found : Option Statement). with_objects (objects_by reads_of found) (objects_over reads_of history.world session opened)) (sym there)

  writes_more : (opened : List ℕ) (writes : List Object) → writes ≡ objects_over writes_of history.world session opened
      → with_objects (writes_of given) writes ≡ objects_over writes_of history.world session (k ∷ opened)
  writes_more opened writes is =
      ap (with_objects (writes_of given)) is
      ∙ ap (λ (found : Option Statement). with_objects (objects_by writes_of found) (objects_over writes_of history.world session opened)) (sym there)

  taken_more : (opened : List ℕ) (at : ℕ) (one : OpenOne) → one.taken ≡ taken_over history.world session opened at
      → (widened_by given one).taken ≡ taken_over history.world session (k ∷ opened) at
  taken_more opened at one is =
      ap (λ (n : ℕ). taken_of_parts n (with_objects (reads_of given) one.taken.reads) (with_objects (writes_of given) one.taken.writes)) (ap (λ (t : Taken). t.snapshot) is)
      ∙ ap (λ (l : List Object). taken_of_parts at l (with_objects (writes_of given) one.taken.writes)) (reads_more opened one.taken.reads (ap (λ (t : Taken). t.reads) is))
      ∙ ap (taken_of_parts at (objects_over reads_of history.world session (k ∷ opened))) (writes_more opened one.taken.writes (ap (λ (t : Taken). t.writes) is))

  opens_by : (transaction : Option Transaction) (kept : Option OpenOne) (database : Tables) → HasOpen history session transaction kept
      → database ≡ contents history → snapshot ≡ snapshot_in_or (commits history.events) transaction
      → HasOpen (with_event history opening) session (opened_in snapshot transaction) (Some (widened_by given (begun_in snapshot database kept)))
  opens_by None None database has newest due = record {
    snapshot = omega (arith, due);
    taken = rw mine (taken_more (opened_statements session history.events) snapshot (begun_in snapshot database None)
        (ap (λ (opened : List ℕ). taken_over history.world session opened snapshot) (sym has)));
    seen = record {
      database = newest ∙ sym (state_newest history.world (committed history.events) snapshot (omega (arith, due)));
      changes = refl;
    };
  }
  opens_by None (Some kept) database has newest due = absurd has
  opens_by (Some transaction) None database has newest due = absurd has
  opens_by (Some transaction) (Some kept) database has newest due = record {
    snapshot = has.snapshot;
    taken = rw mine (taken_more (opened_statements session history.events) transaction.snapshot kept has.taken);
    seen = has.seen;
  }

  pub opens : (kept : Option OpenOne) (database : Tables) → HasOpen history session (transaction_of session history.events) kept
      → database ≡ contents history → snapshot ≡ snapshot_due history session
      → HasOpen (with_event history opening) session (transaction_of session (opening ∷ history.events)) (Some (widened_by given (begun_in snapshot database kept)))
  opens kept database has newest due = rw mine (opens_by (transaction_of session history.events) kept database has newest due)

-- the sets of a transaction that goes on or begins ascend
begun_ascends : (history : History) (session snapshot : ℕ) (database : Tables) (transaction : Option Transaction) (kept : Option OpenOne) → HasOpen history session transaction kept
    → IsAscendingObjects (begun_in snapshot database kept).taken.reads × IsAscendingObjects (begun_in snapshot database kept).taken.writes
begun_ascends history session snapshot database transaction None has = (tt, tt)
begun_ascends history session snapshot database None (Some kept) has = absurd has
begun_ascends history session snapshot database (Some transaction) (Some kept) has = (
  subst (λ (t : Taken). IsAscendingObjects t.reads) (sym has.taken) (objects_over-ascending reads_of history.world session (opened_statements session history.events)),
  subst (λ (t : Taken). IsAscendingObjects t.writes) (sym has.taken) (objects_over-ascending writes_of history.world session (opened_statements session history.events)),
)

pub open_ascends : (events : List Event) (history : History) (session snapshot : ℕ) (database : Tables) (kept : Session) → IsKept events history session kept
    → (one : OpenOne) → one ≡ begun_in snapshot database kept.transaction → IsAscendingObjects one.taken.reads × IsAscendingObjects one.taken.writes
open_ascends events history session snapshot database kept is_kept one is =
    subst (λ (o : OpenOne). IsAscendingObjects o.taken.reads × IsAscendingObjects o.taken.writes) (sym is)
    (begun_ascends history session snapshot database (transaction_of session history.events) kept.transaction is_kept.transaction)

-- ---- answers
answered_by : (history : History) (session k : ℕ) (answer : Reply) (given : Statement) → statement_at history.world session k ≡ Some given
    → (transaction : Option Transaction) (kept next : Option OpenOne) → HasOpen history session transaction kept → IsAnswered history.world.files given answer kept next
    → HasOpen (with_event history (Answer session k answer)) session (answered_in k answer transaction) next
answered_by history session k answer given there None None None has is = rw (own_event (Answer session k answer) session refl) has
answered_by history session k answer given there None None (Some next) has is = absurd is
answered_by history session k answer given there None (Some kept) next has is = absurd has
answered_by history session k answer given there (Some transaction) None next has is = absurd has
answered_by history session k answer given there (Some transaction) (Some kept) None has is = absurd is
answered_by history session k answer given there (Some transaction) (Some kept) (Some next) has is = record {
  snapshot = has.snapshot;
  taken = rw (own_event (Answer session k answer) session refl) (is.0 ∙ has.taken);
  seen = subst (λ (statements : List Statement). IsViewOf history.world.files statements (contents_at history.world history.events transaction.snapshot) next.view)
      (sym (statements_in-answered history.world session k answer given transaction.answered there))
      (IsViewOf-answered history.world.files _ _ given answer kept.view next.view has.seen is.1 is.2);
}

answers_by : (history : History) (session k : ℕ) (answer : Reply) (found : Option Statement) → statement_at history.world session k ≡ found
    → (kept next : Option OpenOne) → HasOpen history session (transaction_of session history.events) kept → IsAnsweredBy history.world.files found answer kept next
    → HasOpen (with_event history (Answer session k answer)) session (transaction_of session (Answer session k answer ∷ history.events)) next
answers_by history session k answer None there kept next has is = absurd is
answers_by history session k answer (Some given) there kept next has is =
    rw (own_event (Answer session k answer) session refl) (answered_by history session k answer given there (transaction_of session history.events) kept next has is)

pub answers : (history : History) (session k : ℕ) (answer : Reply) (kept next : Option OpenOne) → HasOpen history session (transaction_of session history.events) kept
    → IsAnsweredBy history.world.files (statement_at history.world session k) answer kept next
    → HasOpen (with_event history (Answer session k answer)) session (transaction_of session (Answer session k answer ∷ history.events)) next
answers history session k answer kept next has is = answers_by history session k answer (statement_at history.world session k) refl kept next has is

-- ---- commits
module _ (history : History) (session k stamp low high : ℕ) where
  abbrev committing : Event
  committing = Commit session k stamp low high

  leaves_by : (transaction : Option Transaction) (kept : OpenOne) → transaction_of session history.events ≡ transaction → HasOpen history session transaction (Some kept)
      → contents (with_event history committing)
      ≡ after_commit (record { taken = kept.taken; changes = kept.view.changes; view = kept.view.database }) (contents history)
  leaves_by None kept is has = absurd has
  leaves_by (Some transaction) kept is has = rw (is, has.taken, has.seen.changes, has.seen.database) refl

  pub commit_leaves : (kept : OpenOne) → HasOpen history session (transaction_of session history.events) (Some kept) → (next : Tables) (database : Tables) → database ≡ contents history
      → next ≡ after_commit (record { taken = kept.taken; changes = kept.view.changes; view = kept.view.database }) database
      → next ≡ contents (with_event history committing)
  commit_leaves kept has next database newest installed =
      installed ∙ ap (after_commit (record { taken = kept.taken; changes = kept.view.changes; view = kept.view.database })) newest
      ∙ sym (leaves_by (transaction_of session history.events) kept refl has)

  certifies_by : (transaction : Option Transaction) (kept : OpenOne) → transaction_of session history.events ≡ transaction → HasOpen history session transaction (Some kept)
      → certified (with_event history committing) ≡ record { low = low; taken = kept.taken } ∷ certified history
  certifies_by None kept is has = absurd has
  certifies_by (Some transaction) kept is has = rw (is, has.taken) refl

  pub commit_certifies : (kept : OpenOne) → HasOpen history session (transaction_of session history.events) (Some kept) → (done : List Certified) → reverse done ≡ certified history
      → reverse (done ++ record { low = low; taken = kept.taken } ∷ []) ≡ certified (with_event history committing)
  commit_certifies kept has done is =
      reverse-append done (record { low = low; taken = kept.taken } ∷ []) ∙ ap (λ (l : List Certified). record { low = low; taken = kept.taken } ∷ l) is
      ∙ sym (certifies_by (transaction_of session history.events) kept refl has)

  pub commit_closes : HasOpen (with_event history committing) session (transaction_of session (committing ∷ history.events)) None
  commit_closes = rw (own_event committing session refl) (rw (own_event committing session refl) refl)
