-- A refusal is legal exactly where the tests say so.
use Rattle.std.proofs.Common.{◌≡◌, ℕ, ◌<◌, Bool, false, List, refl, sym, ap, subst, ◌∙◌, inl, inr}
use Rattle.std.specs.Prelude.{Option, Some, None, Result, Ok, Err, IfOk, ◌⊎◌, option_map, reverse}
use Rattle.std.specs.List.{position}
use Rattle.std.specs.Bool.{Decides}
use Rattle.std.specs.Option.{option_map_or}
use Rattle.std.proofs.lemmas.Bool.{false≢true}
use Rattle.dw_model.specs.declared.answers.Answer.{Answer as Reply}
use Rattle.dw_model.specs.declared.answers.Plain.{Plain}
use Rattle.dw_model.specs.declared.answers.Plain.TheVariants.{Done}
use Rattle.dw_model.specs.declared.refusals.Refusal.{Refusal}
use Rattle.dw_model.specs.declared.refusals.Refusal.TheVariants.{Memory}
use Rattle.dw_model.specs.declared.statements.Statement.{Statement}
use Rattle.dw_model.specs.Alone.{alone}
use Rattle.dw_model.specs.Bound.{bound_refusal}
use Rattle.dw_model.specs.Databases.{Tables, def_of}
use Rattle.dw_model.specs.Files.{Files}
use Rattle.dw_model.specs.Limits.{limit_refusal}
use Rattle.dw_journal.specs.declared.BlockState.{BlockState}
use Rattle.dw_journal.specs.declared.BlockState.TheVariants.{Outside, Within, Aborted}
use Rattle.dw_journal.specs.declared.Certified.{Certified}
use Rattle.dw_journal.specs.declared.Event.{Event}
use Rattle.dw_journal.specs.declared.Given.{Given}
use Rattle.dw_journal.specs.declared.Taken.{Taken}
use Rattle.dw_journal.specs.Worlds.{given_at, statement_at}
use Rattle.dw_journal.specs.History.{History}
use Rattle.dw_journal.specs.Blocks.{block_of}
use Rattle.dw_journal.specs.Contents.{contents, view}
use Rattle.dw_journal.specs.Transactions.{taken_of}
use Rattle.dw_journal.specs.Vacuums.{sweeper}
use Rattle.dw_journal.specs.Locks.{lock_state, wants_of}
use Rattle.dw_journal.specs.Turns.{Call, IsForeign, Begins, Commits, RollsBack, Sweeps, Works, Turn, call_of, taking, turn_after, turn_of}
use Rattle.dw_journal.specs.Legal.{IsCommitRefusal, IsRefusal, IsTakingRefusal, IsWorkRefusal, blockers_of, certified, cycle_of, high_by, lock_refusal, low_by, opening_refusal, sweep_refusal, table_refusal, work_refusal}
use Rattle.dw_locks.specs.declared.locks.Asked.{Asked}
use Rattle.dw_locks.specs.LockTable.{LockTable, StandsForLocks}
use Rattle.dw_locks.specs.Requests.{answer_by, answer_to}
use Rattle.dw_commit.specs.declared.views.View.{View}
use Rattle.dw_commit.specs.declared.work.Replied.{Replied}
use Rattle.dw_commit.specs.declared.work.Replied.TheVariants.{Answered, Refused}
use Rattle.dw_commit.specs.Replies.{IsReply}
use Rattle.dw_judge.specs.declared.dues.Due.{Due}
use Rattle.dw_judge.specs.declared.dues.Due.TheVariants as dues
use Rattle.dw_judge.specs.declared.sessions.OpenOne.{OpenOne}
use Rattle.dw_judge.specs.declared.sessions.Session.{Session}
use Rattle.dw_judge.specs.declared.summaries.Summary.{Summary}
use Rattle.dw_judge.specs.Dues.{turn_between, turn_kept}
use Rattle.dw_judge.specs.Judging.{seen_in}
use Rattle.dw_judge.specs.Readings.{newest_kept}
use Rattle.dw_judge.specs.Summaries.{IsKept, StandsFor}
use Rattle.dw_judge.specs.RefusedNext.{IsCommitKept, IsNextKept, IsRefusedBy, is_block_commit, is_refused_so, opening_kept}
use Rattle.dw_judge.specs.Asking.{unless_asked}
use Rattle.dw_judge.specs.Sames.{same_refusal}
use Rattle.dw_judge.proofs.Following.{turn_is}
use Rattle.dw_judge.proofs.Judged.{refuted, sweeper_is, taken_is}
use Rattle.dw_judge.proofs.Locked.{answer_told, unless_is}
use Rattle.dw_judge.proofs.Opened.{seen_is}
use Rattle.dw_judge.proofs.SameAnswers.{refusal-decides}

-- ---- an open statement that is run
done_refused : (statement : Statement) (plain : Plain) (answer : Reply) (next : Tables) (refusal : Refusal) → plain ≡ Done answer next
    → limit_refusal statement next ≡ None → work_refusal statement plain ≡ Some refusal → ⊥
done_refused statement plain answer next refusal is none refused =
    cc (sym none ∙ ap (work_refusal statement) (sym is) ∙ refused)

pub replied-decides : (files : Files) (statement : Statement) (view : View) (replied : Replied) (refusal : Refusal) (result : Bool)
    → IsReply files statement view replied → result ≡ is_refused_so replied refusal
    → Decides result (work_refusal statement (alone files statement view.database) ≡ Some refusal)
replied-decides files statement view (Answered answer next) refusal result is tested =
    ((λ so. absurd (false≢true (sym tested ∙ so))), (λ refused. absurd (done_refused statement _ answer next.database refusal is.0 is.1 refused)))
replied-decides files statement view (Refused found) refusal result is tested = (
  (λ so. is ∙ ap Some ((refusal-decides found refusal).0 (sym tested ∙ so))),
  (λ refused. tested ∙ (refusal-decides found refusal).1 (cc (sym is ∙ refused))),
)

pub found-decides : (found : Option Refusal) (refusal : Refusal) (result : Bool) → result ≡ option_map_or (λ one. same_refusal one refusal) found false
    → Decides result (found ≡ Some refusal)
found-decides None refusal result tested = ((λ so. absurd (false≢true (sym tested ∙ so))), (λ is. cc))
found-decides (Some one) refusal result tested =
    ((λ so. ap Some ((refusal-decides one refusal).0 (sym tested ∙ so))), (λ is. tested ∙ (refusal-decides one refusal).1 (cc is)))

-- ---- the next statement
module _ (history : History) (session k : ℕ) where
  -- what the statement is answered for its locks, by the history
  abbrev pub asked_here : Asked
  asked_here = answer_by (blockers_of history session k) (cycle_of history session k)

  locked_is : (refusal : Option Refusal) → unless_asked asked_here refusal ≡ lock_refusal history session k refusal
  locked_is refusal = unless_is (blockers_of history session k) (cycle_of history session k) refusal

  abbrev pub kept : Call → BlockState → Option Refusal
  kept call block = opening_kept (sweeper history) asked_here (contents history) (view history session) call block

  opening_is : (call : Call) (block : BlockState) → kept call block ≡ opening_refusal history session k call block
  opening_is (IsForeign refusal) block = refl
  opening_is Begins Outside = refl
  opening_is Begins Within = refl
  opening_is Begins Aborted = refl
  opening_is Commits Outside = refl
  opening_is Commits Within = refl
  opening_is Commits Aborted = refl
  opening_is RollsBack Outside = refl
  opening_is RollsBack Within = refl
  opening_is RollsBack Aborted = refl
  opening_is (Sweeps table) Outside = ap (sweep_refusal (sweeper history)) (locked_is (table_refusal table (contents history)))
  opening_is (Sweeps table) Within = refl
  opening_is (Sweeps table) Aborted = refl
  opening_is (Works given) Outside = locked_is (bound_refusal given (def_of (view history session)))
  opening_is (Works given) Within = locked_is (bound_refusal given (def_of (view history session)))
  opening_is (Works given) Aborted = refl

  module _ (refusal : Refusal) where
    abbrev pub by_kept : Call → BlockState → Type 0
    by_kept call block = IsRefusedBy (is_block_commit call block) (IsCommitRefusal history session refusal) (kept call block) refusal

    to_taking : (call : Call) (block : BlockState) → by_kept call block → IsTakingRefusal history session refusal k call block
    to_taking (IsForeign r) block is = sym (opening_is (IsForeign r) block) ∙ is
    to_taking Begins block is = sym (opening_is Begins block) ∙ is
    to_taking Commits Within is = is
    to_taking Commits Outside is = sym (opening_is Commits Outside) ∙ is
    to_taking Commits Aborted is = sym (opening_is Commits Aborted) ∙ is
    to_taking RollsBack block is = sym (opening_is RollsBack block) ∙ is
    to_taking (Sweeps table) block is = sym (opening_is (Sweeps table) block) ∙ is
    to_taking (Works given) block is = sym (opening_is (Works given) block) ∙ is

    from_taking : (call : Call) (block : BlockState) → IsTakingRefusal history session refusal k call block → by_kept call block
    from_taking (IsForeign r) block is = opening_is (IsForeign r) block ∙ is
    from_taking Begins block is = opening_is Begins block ∙ is
    from_taking Commits Within is = is
    from_taking Commits Outside is = opening_is Commits Outside ∙ is
    from_taking Commits Aborted is = opening_is Commits Aborted ∙ is
    from_taking RollsBack block is = opening_is RollsBack block ∙ is
    from_taking (Sweeps table) block is = opening_is (Sweeps table) block ∙ is
    from_taking (Works given) block is = opening_is (Works given) block ∙ is

    -- what may be refused of the next statement, by the history
    abbrev pub IsNextHere : Option Given → Type 0
    IsNextHere None = ⊥
    IsNextHere (Some given) = by_kept (call_of given) (block_of history session)

    pub next_by : (statement : ℕ) (given : Option Given) (result : Bool)
        → Decides result (IsNextHere given) → Decides result (IsRefusal history session statement refusal (taking k given))
    next_by statement None result is = ((λ so. absurd (is.0 so)), (λ so. absurd so))
    next_by statement (Some given) result is =
        ((λ so. to_taking (call_of given) (block_of history session) (is.0 so)), (λ so. is.1 (from_taking (call_of given) (block_of history session) so)))

-- ---- what is kept instead of the history
pub or_memory : {P : Type 0} (refusal : Refusal) (result : Bool) → Decides result P → (refusal ≡ Memory → ⊥) → Decides result ((refusal ≡ Memory) ⊎ P)
or_memory refusal result is other =
    ((λ so. inr (is.0 so)), (λ either. elim either [ inl memory ↦ absurd (other memory) | inr so ↦ is.1 so ]))

pub work_seen : (files : Files) (given : Statement) (found : Option Statement) (tables seen : Tables) (refusal : Refusal) (result : Bool)
    → Decides result (work_refusal given (alone files given tables) ≡ Some refusal) → tables ≡ seen → Some given ≡ found
    → Decides result (IsWorkRefusal files found seen refusal)
work_seen files given found tables seen refusal result is same there =
    subst (λ (f : Option Statement). Decides result (IsWorkRefusal files f seen refusal)) there
    (subst (λ (t : Tables). Decides result (work_refusal given (alone files given t) ≡ Some refusal)) same is)

pub next_unopened : (database seen : Tables) (swept : Option ℕ) (asked : Asked) (commits : List Certified) (transaction : Option OpenOne) (refusal : Refusal) (given : Given) (block : BlockState)
    (found : Option Refusal) (result : Bool) → Decides result (found ≡ Some refusal) → found ≡ opening_kept swept asked database seen (call_of given) block
    → is_block_commit (call_of given) block ≡ false → Decides result (IsNextKept database seen swept asked commits transaction refusal (Some given) block)
next_unopened database seen swept asked commits transaction refusal given block found result is same other =
    subst (λ (b : Bool). Decides result (IsRefusedBy b (IsCommitKept commits transaction refusal) (opening_kept swept asked database seen (call_of given) block) refusal)) (sym other)
    (subst (λ (f : Option Refusal). Decides result (f ≡ Some refusal)) same is)

pub if_ok : {E : Type 0} (P Q : Bool → Type 0) (result : Result Bool E) → ((b : Bool) → P b → Q b) → IfOk result P → IfOk result Q
if_ok P Q (Ok b) so is = so b is
if_ok P Q (Err e) so is = tt

-- ---- by the turn
module _ (events : List Event) (history : History) (summary : Summary) (stands : StandsFor events history summary) (session : ℕ) (kept : Session) (is_kept : IsKept events history session kept)
    (refusal : Refusal) (due : Due) (due_is : turn_kept history.world session due ≡ turn_after history.shape kept.block (newest_kept events kept) (turn_between history.world session kept.taken)) where
  turned : (at : Due) → due ≡ at → turn_kept history.world session at ≡ turn_of history session
  turned at is = ap (turn_kept history.world session) (sym is) ∙ due_is ∙ turn_is events history session kept is_kept

  by_turn : (statement : ℕ) (at : Due) (legal : Bool) → due ≡ at → Decides legal (IsRefusal history session statement refusal (turn_kept history.world session at))
      → Decides legal (IsRefusal history session statement refusal (turn_of history session))
  by_turn statement at legal is so = subst (λ (turn : Turn). Decides legal (IsRefusal history session statement refusal turn)) (turned at is) so

  pub refused_never : (statement : ℕ) (at : Due) → due ≡ at → (IsRefusal history session statement refusal (turn_kept history.world session at) → ⊥)
      → Decides false (IsRefusal history session statement refusal (turn_of history session))
  refused_never statement at is never = by_turn statement at false is (refuted never)

  pub refused_open : {E : Type 0} (statement k : ℕ) (result : Result Bool E) → due ≡ dues.Answer k
      → IfOk result (λ legal. Decides legal ((refusal ≡ Memory) ⊎ IsWorkRefusal history.world.files (statement_at history.world session statement) (seen_in summary.database kept.transaction) refusal))
      → IfOk result (λ legal. Decides legal (IsRefusal history session statement refusal (turn_of history session)))
  refused_open statement k result is so =
      if_ok _ _ result
      (λ legal one. by_turn statement (dues.Answer k) legal is
      (subst (λ (t : Tables). Decides legal ((refusal ≡ Memory) ⊎ IsWorkRefusal history.world.files (statement_at history.world session statement) t refusal)) (seen_is events history summary stands session kept is_kept) one)) so

  abbrev took : Option Taken
  took = option_map (λ (one : OpenOne). one.taken) kept.transaction

  abbrev commit_by : List Certified → Option Taken → Type 0
  commit_by done taken = (refusal ≡ Memory) × (high_by done taken < low_by done taken)

  took_is : took ≡ taken_of history session
  took_is = sym (taken_is events history session kept kept.transaction is_kept refl)

  pub refused_commit : (statement k : ℕ) (commits : List Certified) (legal : Bool) → due ≡ dues.Commit k → commits ≡ summary.commits.items
      → Decides legal (IsCommitKept (reverse commits) kept.transaction refusal)
      → Decides legal (IsRefusal history session statement refusal (turn_of history session))
  refused_commit statement k commits legal is same so =
      by_turn statement (dues.Commit k) legal is
      (subst (λ (t : Option Taken). Decides legal (commit_by (certified history) t)) took_is
      (subst (λ (c : List Certified). Decides legal (commit_by c took)) (ap reverse same ∙ stands.certified_are) so))

  -- where a table stands for the locks
  module _ (table : LockTable) (locked : StandsForLocks table (lock_state history)) where
    abbrev asked_of : ℕ → Asked
    asked_of k = answer_to table session (wants_of history.world session k)

    next_here : (k : ℕ) (given : Option Given) (legal : Bool)
        → Decides legal (IsNextKept summary.database (seen_in summary.database kept.transaction) (position (λ (one : Session). one.sweeps) summary.sessions.items) (asked_of k)
        (reverse summary.commits.items) kept.transaction refusal given kept.block)
        → Decides legal (IsNextHere history session k refusal given)
    next_here k None legal so = so
    next_here k (Some given) legal so =
        let F = λ (a : Asked) (d s : Tables) (w : Option ℕ) (b : BlockState) (c : List Certified) (t : Option Taken).
        Decides legal (IsRefusedBy (is_block_commit (call_of given) b) (commit_by c t) (opening_kept w a d s (call_of given) b) refusal) in
        let here : Asked = asked_here history session k in
        let swept = position (λ (one : Session). one.sweeps) summary.sessions.items in
        subst (λ (t : Option Taken). F here (contents history) (view history session) (sweeper history) (block_of history session) (certified history) t) took_is
        (subst (λ (c : List Certified). F here (contents history) (view history session) (sweeper history) (block_of history session) c took) stands.certified_are
        (subst (λ (b : BlockState). F here (contents history) (view history session) (sweeper history) b (reverse summary.commits.items) took) is_kept.block
        (subst (λ (w : Option ℕ). F here (contents history) (view history session) w kept.block (reverse summary.commits.items) took) (sweeper_is events history summary stands)
        (subst (λ (s : Tables). F here (contents history) s swept kept.block (reverse summary.commits.items) took) (seen_is events history summary stands session kept is_kept)
        (subst (λ (d : Tables). F here d (seen_in summary.database kept.transaction) swept kept.block (reverse summary.commits.items) took) stands.newest
        (subst (λ (a : Asked). F a summary.database (seen_in summary.database kept.transaction) swept kept.block (reverse summary.commits.items) took)
        (answer_told history table locked session (wants_of history.world session k)) so))))))

    pub refused_next : {E : Type 0} (statement k : ℕ) (result : Result Bool E) → due ≡ dues.Take k
        → IfOk result (λ legal. Decides legal (IsNextKept summary.database (seen_in summary.database kept.transaction) (position (λ (one : Session). one.sweeps) summary.sessions.items)
        (asked_of k) (reverse summary.commits.items) kept.transaction refusal (given_at history.world session k) kept.block))
        → IfOk result (λ legal. Decides legal (IsRefusal history session statement refusal (turn_of history session)))
    refused_next statement k result is so =
        if_ok _ _ result
        (λ legal one. by_turn statement (dues.Take k) legal is (next_by history session k refusal statement (given_at history.world session k) legal (next_here k (given_at history.world session k) legal one))) so
