-- A commit is decided: the event is legal, and what is kept agrees with it.
use Rattle.std.proofs.Common.{inl, inr, ◌≡◌, ℕ, ◌+◌, ◌<◌, ◌≤◌, Bool, true, false, List, [], ◌∷◌, refl, sym, ap, ◌∙◌, arith}
use Rattle.std.specs.Prelude.{Option, Some, None, is_some, if◌then◌else◌, option_map}
use Rattle.std.proofs.lemmas.Bool.{eq-eqb}
use Rattle.dw_model.specs.declared.refusals.Refusal.TheVariants.{Memory}
use Rattle.dw_model.specs.declared.statements.Statement.TheVariants as forms
use Rattle.dw_journal.specs.declared.BlockState.{BlockState}
use Rattle.dw_journal.specs.declared.BlockState.TheVariants.{Outside, Within}
use Rattle.dw_journal.specs.declared.Certified.{Certified}
use Rattle.dw_journal.specs.declared.Event.{Event}
use Rattle.dw_journal.specs.declared.Event.TheVariants.{Commit, Violation, Refuse}
use Rattle.dw_journal.specs.declared.Given.{Given}
use Rattle.dw_journal.specs.declared.Given.TheVariants.{Read}
use Rattle.dw_journal.specs.declared.Taken.{Taken}
use Rattle.dw_journal.specs.Worlds.{IsSession, given_at, read_in, statement_at}
use Rattle.dw_journal.specs.History.{History, newest_event, session_of, statements_taken, with_event}
use Rattle.dw_journal.specs.Blocks.{block_of, block_refused, is_commit, refused_in}
use Rattle.dw_journal.specs.Transactions.{Transaction, committed_as, opened_statements, snapshot_in, snapshot_of, taken_of, taken_over, transaction_of}
use Rattle.dw_journal.specs.Locks.{held_locks, lock_state}
use Rattle.dw_journal.specs.Turns.{Turn, Commits, call_of, turn_after, turn_of}
use Rattle.dw_journal.specs.Follows.{FollowsAfter}
use Rattle.dw_journal.specs.Follows as follow
use Rattle.dw_journal.specs.Legal.{IsCommitRefusal, IsNextEvent, IsRefusal, certified, certified_as, high_by, high_of, low_by, low_of, object_by, object_of}
use Rattle.dw_journal.specs.Watermarks.{low_watermark, high_watermark, violated_object}
use Rattle.dw_journal.proofs.OneEvent.{turn_given}
use Rattle.dw_ssn.specs.CommitList.{CommitList}
use Rattle.dw_core.specs.declared.decisions.Committed.{Committed}
use Rattle.dw_core.specs.declared.decisions.Committed.TheVariants as decisions
use Rattle.dw_core.specs.declared.sessions.Session.{Session}
use Rattle.dw_core.specs.declared.sessions.Stage.TheVariants as stage
use Rattle.dw_core.specs.declared.transactions.Transaction.{Transaction as KeptTransaction}
use Rattle.dw_core.specs.Changes.{ends_transaction, session_after}
use Rattle.dw_core.specs.CoreInvariant.{IsKept, IsWithin, taken_in, owed_events}
use Rattle.dw_core.specs.Decisions.{IsDecided}
use Rattle.dw_core.specs.DueEvents.{decision_of}
use Rattle.dw_core.specs.Traces.{LeavesUnlessStamped}
use Rattle.dw_core.proofs.CoreSteps.{commits_certified}
use Rattle.dw_core.proofs.DueEvents.{IsCommitDue, told, decided}
use Rattle.dw_core.proofs.KeptSessions.{is_answered, is_between, next_is, stage_at}
use Rattle.dw_core.proofs.NextEvents.{IsCalm, kept_after_own}

-- COMMIT is what calls for a commit
commit_called : (given : Given) → call_of given ≡ Commits → is_commit (read_in (Some given)) ≡ true
commit_called (Read forms.Commit) is = refl
commit_called given is = cc

either_outside : (b : Bool) → (if b then Outside else refused_in Outside) ≡ Outside
either_outside true = refl
either_outside false = refl

-- a decision on a commit ends the transaction, whatever was kept of it
pub decided_alike : (history : History) (session k : ℕ) (result : Committed) (kept : Session)
    → session_after history.world (decision_of session k result) (record { taken = kept.taken; stage = kept.stage; block = kept.block; transaction = None; waits = kept.waits })
    ≡ session_after history.world (decision_of session k result) kept
decided_alike history session k (decisions.Stamped stamp low high) kept = refl
decided_alike history session k (decisions.Violation low high object) kept = refl
decided_alike history session k decisions.Memory kept = refl

-- it is its session's, whose locks are released
pub decision_of_it : (session k : ℕ) (result : Committed) → session_of (decision_of session k result) ≡ Some session
decision_of_it session k (decisions.Stamped stamp low high) = refl
decision_of_it session k (decisions.Violation low high object) = refl
decision_of_it session k decisions.Memory = refl

pub decision_ends : (session k : ℕ) (result : Committed) → ends_transaction (decision_of session k result) ≡ true
decision_ends session k (decisions.Stamped stamp low high) = refl
decision_ends session k (decisions.Violation low high object) = refl
decision_ends session k decisions.Memory = refl

pub decided_calm : (history : History) (session k : ℕ) (result : Committed) → IsCalm history (decision_of session k result)
decided_calm history session k (decisions.Stamped stamp low high) = tt
decided_calm history session k (decisions.Violation low high object) = tt
decided_calm history session k decisions.Memory = tt

-- no trace is left but of what is committed
pub leaves_none : (history : History) (session k : ℕ) (result : Committed)
    → held_locks (lock_state (with_event history (decision_of session k result))) session ≡ []
    → LeavesUnlessStamped result history session (with_event history (decision_of session k result))
leaves_none history session k (decisions.Stamped stamp low high) none = tt
leaves_none history session k (decisions.Violation low high object) none =
    record { closed = rw (eq-eqb session session refl) refl; unlocked = none; stand = λ count. refl }
leaves_none history session k decisions.Memory none =
    record { closed = rw (eq-eqb session session refl) refl; unlocked = none; stand = λ count. refl }

same_taken : (a b : Taken) → Some a ≡ Some b → a ≡ b
same_taken a b e = cc

-- the certifier looks at transactions whose snapshots aren't before its oldest one
pub oldest_kept : (history : History) (session : ℕ) (kept : Session) → IsKept history session kept → (one : KeptTransaction) → kept.transaction ≡ Some one
    → (oldest seen : ℕ) → IsWithin oldest seen (snapshot_of session history.events) → oldest ≤ one.taken.snapshot
oldest_kept history session kept is_kept one one_is oldest seen =
    by_snapshot (snapshot_of session history.events) (is_kept.taken_is ∙ ap taken_in one_is)
  where
    by_snapshot : (snapshot : Option ℕ) → option_map (taken_over history.world session (opened_statements session history.events)) snapshot ≡ Some one.taken
        → IsWithin oldest seen snapshot → oldest ≤ one.taken.snapshot
    by_snapshot None is within = cc
    by_snapshot (Some snapshot) is within =
        omega (arith, within.0, ap (λ (t : Taken). t.snapshot) (same_taken (taken_over history.world session (opened_statements session history.events) snapshot) one.taken is))

module _ (history : History) (session : ℕ) (is : IsSession history.world session) (kept : Session) (is_kept : IsKept history session kept)
    (k stamp low high : ℕ) (follows : FollowsAfter history (Commit session k stamp low high)) where
  abbrev block : BlockState
  block = block_of history session

  abbrev transaction : Option Transaction
  transaction = transaction_of session history.events

  abbrev turn : Turn
  turn = turn_of history session

  is_due : IsCommitDue k block transaction turn
  is_due = told history session (Commit session k stamp low high) refl follows

  -- where a commit is due, a refused one leaves the session outside its block
  record IsAtCommit : Type 0 where
    is_there : is_some transaction ≡ true
    owes : 1 ≤ owed_events kept.stage kept.block
    outside : block_refused (statement_at history.world session k) Memory kept.block ≡ Outside
    refused : IsCommitRefusal history session Memory → IsRefusal history session k Memory turn

  at_commit : IsCommitDue k block transaction turn → IsAtCommit
  at_commit (inl due) =
      let answered = is_answered history session is.0 kept is_kept k due in
      let at = stage_at history session is.0 kept is_kept stage.Answered answered in
      record {
        is_there = at.1;
        owes = rw answered (omega arith);
        outside = ap (λ (b : BlockState). if is_commit (statement_at history.world session k) then Outside else refused_in b) (sym is_kept.block_is ∙ at.0)
            ∙ either_outside (is_commit (statement_at history.world session k));
        refused = λ refusal. rw due refusal;
      }
  at_commit (inr due) =
      let between = is_between history session is.0 kept is_kept k Commits due.turn_is in
      let within : kept.block ≡ Within = sym is_kept.block_is ∙ due.within in
      let newest = newest_event session history.events in
      let number = statements_taken session history.events + 1 in
      let given = turn_given history.shape block newest number k (given_at history.world session number) Commits
      (sym (ap (turn_after history.shape block newest) (next_is history session is.0)) ∙ due.turn_is) in
      let called : is_commit (statement_at history.world session k) ≡ true =
      ap (λ (n : ℕ). is_commit (statement_at history.world session n)) (sym given.1) ∙ ap (λ (g : Option Given). is_commit (read_in g)) given.2 ∙ commit_called given.0 given.3 in
      record {
        is_there = ap is_some due.is_there;
        owes = rw (between, within) (omega arith);
        outside = ap (λ (b : Bool). if b then Outside else refused_in kept.block) called;
        refused = λ refusal. rw (due.turn_is, due.within) refusal;
      }

  pub owes_one : 1 ≤ owed_events kept.stage kept.block
  owes_one = (at_commit is_due).owes

  none_kept : (t : Option Transaction) (opened : List ℕ) → is_some t ≡ true → option_map (taken_over history.world session opened) (snapshot_in t) ≡ None → ⊥
  none_kept None opened there is_none = cc
  none_kept (Some one) opened there is_none = cc

  -- a transaction is kept
  pub not_none : kept.transaction ≡ None → ⊥
  not_none none = none_kept transaction (opened_statements session history.events) (at_commit is_due).is_there (is_kept.taken_is ∙ ap taken_in none)

  module _ (one : KeptTransaction) (one_is : kept.transaction ≡ Some one) (before after : CommitList) (certified_is : certified history ≡ before.commits) where
    taken_is : taken_of history session ≡ Some one.taken
    taken_is = is_kept.taken_is ∙ ap taken_in one_is

    low_now : low_watermark one.taken before.commits ≡ low_of history session
    low_now = sym (ap (low_by (certified history)) taken_is ∙ ap (low_watermark one.taken) certified_is)

    high_now : high_watermark one.taken before.commits ≡ high_of history session
    high_now = sym (ap (high_by (certified history)) taken_is ∙ ap (high_watermark one.taken) certified_is)

    object_now : object_of history session ≡ violated_object one.taken before.commits
    object_now = ap (object_by (certified history)) taken_is ∙ ap (violated_object one.taken) certified_is

    certified_one : (stamped lower : ℕ) (opened : List ℕ) (t : Option Transaction) → option_map (taken_over history.world session opened) (snapshot_in t) ≡ Some one.taken
        → certified_as history.world (committed_as session stamped lower opened t) ≡ record { low = lower; taken = one.taken }
    certified_one stamped lower opened None some = cc
    certified_one stamped lower opened (Some t) some =
        ap (λ (taken : Taken). record { low = lower; taken = taken }) (same_taken (taken_over history.world session opened t.snapshot) one.taken some)

    -- what a decision is to its callers
    pub record IsDecision (event : Event) : Type 0 where
      pub of_it : session_of event ≡ Some session
      pub next : IsNextEvent history event
      pub is_kept_now : IsKept (with_event history event) session (session_after history.world event kept)
      pub certified_now : certified (with_event history event) ≡ after.commits
      pub oldest_now : after.oldest ≡ before.oldest
      pub owes_none : owed_events (session_after history.world event kept).stage (session_after history.world event kept).block ≡ 0

    follows_too : (event : Event) → follow.IsDecision session k event → FollowsAfter history event
    follows_too event decision = decided history session k stamp low high event is.1 follows decision

    pub decision : (result : Committed) → IsDecided one.taken before after result → IsDecision (decision_of session k result)
    decision (decisions.Stamped stamped lower higher) decides =
        let event = Commit session k stamped lower higher in
        record {
          of_it = refl;
          next = (
            follows_too event (follow.is_commit stamped lower higher),
            (decides.0 ∙ ap (λ (n : ℕ). n + 1) (sym (commits_certified history before.commits certified_is)), decides.1 ∙ low_now, decides.2 ∙ high_now, decides.3),
          );
          is_kept_now = kept_after_own history session kept is_kept event refl tt tt;
          certified_now = ap (λ (newest : Certified). newest ∷ certified history) (certified_one stamped lower (opened_statements session history.events) transaction taken_is)
              ∙ ap (λ (older : List Certified). record { low = lower; taken = one.taken } ∷ older) certified_is ∙ sym (ap (λ (list : CommitList). list.commits) decides.4);
          oldest_now = ap (λ (list : CommitList). list.oldest) decides.4;
          owes_none = refl;
        }
    decision (decisions.Violation lower higher object) decides =
        let event = Violation session k lower higher object in
        record {
          of_it = refl;
          next = (
            follows_too event (follow.is_violation lower higher object),
            (decides.0 ∙ low_now, decides.1 ∙ high_now, decides.2, object_now ∙ decides.3),
          );
          is_kept_now = kept_after_own history session kept is_kept event refl tt tt;
          certified_now = certified_is ∙ sym (ap (λ (list : CommitList). list.commits) decides.4);
          oldest_now = ap (λ (list : CommitList). list.oldest) decides.4;
          owes_none = refl;
        }
    decision decisions.Memory decides =
        let event = Refuse session k Memory in
        let below : high_of history session < low_of history session = omega (arith, decides.0, low_now, high_now) in
        record {
          of_it = refl;
          next = (follows_too event (follow.is_commit_refused Memory), (at_commit is_due).refused (refl, below));
          is_kept_now = kept_after_own history session kept is_kept event refl tt tt;
          certified_now = certified_is ∙ sym (ap (λ (list : CommitList). list.commits) decides.1);
          oldest_now = ap (λ (list : CommitList). list.oldest) decides.1;
          owes_none = ap (λ (b : BlockState). owed_events stage.Between b) (at_commit is_due).outside;
        }
