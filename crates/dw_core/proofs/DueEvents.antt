-- What an event that is due tells of its session.
use Rattle.std.proofs.Common.{inl, inr, ◌≡◌, ◌≢◌, ℕ, ◌≤◌, refl}
use Rattle.std.specs.Prelude.{Option, Some, ◌⊎◌}
use Rattle.dw_model.specs.declared.statements.Statement.{Statement}
use Rattle.dw_journal.specs.declared.BlockState.{BlockState}
use Rattle.dw_journal.specs.declared.BlockState.TheVariants.{Outside, Within, Aborted}
use Rattle.dw_journal.specs.declared.Event.{Event}
use Rattle.dw_journal.specs.declared.Event.TheVariants.{Begin, Pass, Wait, Opened, Answer, Commit, Rollback}
use Rattle.dw_journal.specs.Worlds.{session_count}
use Rattle.dw_journal.specs.History.{History, session_of}
use Rattle.dw_journal.specs.Blocks.{block_of}
use Rattle.dw_journal.specs.Transactions.{Transaction, transaction_of}
use Rattle.dw_journal.specs.Turns.{Call, Commits, Sweeps, Works, Turn, AnswerOf, CommitOf, Taking, turn_of}
use Rattle.dw_journal.specs.Follows.{is_answer, IsDecision, is_commit, is_wait, is_opened, is_sweep_wait, is_sweep_refused, is_sweep_begin, begin_outside, begin_within, commit_outside, commit_of_nothing, commit_within, commit_aborted, rollback_outside, rollback_within, rollback_aborted, vacuum_outside, work_outside, work_within, IsDue, answers, decides, takes, FollowsAfter, due}
use Rattle.dw_journal.proofs.OneJournal.{due_of}

-- a commit is due: of an answered statement, or of a block's transaction
pub record IsBlockCommit (k : ℕ) (block : BlockState) (transaction : Option Transaction) (turn : Turn) : Type 0 where
  pub turn_is : turn ≡ Taking k Commits
  pub within : block ≡ Within
  pub open_one : Transaction
  pub is_there : transaction ≡ Some open_one

abbrev pub IsCommitDue : ℕ → BlockState → Option Transaction → Turn → Type 0
IsCommitDue k block transaction turn = (turn ≡ CommitOf k) ⊎ IsBlockCommit k block transaction turn

-- a statement of this call may wait for its locks
abbrev pub MayWait : Call → Type 0
MayWait (Works statement) = Unit {0}
MayWait (Sweeps table) = Unit {0}
MayWait call = ⊥

-- a statement of this call is taken, which may not wait
abbrev pub TakesAtOnce : ℕ → Turn → Type 0
TakesAtOnce k turn = (call : Call) × (turn ≡ Taking k call) × (MayWait call → ⊥)

abbrev pub Tells : BlockState → Option Transaction → Turn → Event → Type 0
Tells block transaction turn (Begin session k) = TakesAtOnce k turn
Tells block transaction turn (Pass session k word) = TakesAtOnce k turn
Tells block transaction turn (Wait session k holders) = (call : Call) × (turn ≡ Taking k call) × MayWait call
Tells block transaction turn (Opened session k snapshot route) = (statement : Statement) × (turn ≡ Taking k (Works statement))
Tells block transaction turn (Answer session k answer) = turn ≡ AnswerOf k
Tells block transaction turn (Commit session k stamp low high) = IsCommitDue k block transaction turn
Tells block transaction turn (Rollback session k) = ((call : Call) × (turn ≡ Taking k call)) × (block ≢ Outside)
Tells block transaction turn event = Unit {0}

within_block : Within ≢ Outside
within_block e = cc

aborted_block : Aborted ≢ Outside
aborted_block e = cc

never : ⊥ → ⊥
never may = may

pub due_tells : {session : ℕ} {block : BlockState} {transaction : Option Transaction} {turn : Turn} {event : Event}
    → IsDue session block transaction turn event → Tells block transaction turn event
due_tells (answers (is_answer answer)) = refl
due_tells (decides (is_commit stamp low high)) = inl refl
due_tells (takes (commit_within (is_commit stamp low high))) = inr (record { turn_is = refl; within = refl; open_one = _; is_there = refl })
due_tells (takes begin_outside) = (_, refl, never)
due_tells (takes begin_within) = (_, refl, never)
due_tells (takes commit_outside) = (_, refl, never)
due_tells (takes commit_of_nothing) = (_, refl, never)
due_tells (takes rollback_outside) = (_, refl, never)
due_tells (takes (work_outside (is_wait holders))) = (_, refl, tt)
due_tells (takes (work_within (is_wait holders))) = (_, refl, tt)
due_tells (takes commit_aborted) = ((_, refl), aborted_block)
due_tells (takes rollback_within) = ((_, refl), within_block)
due_tells (takes rollback_aborted) = ((_, refl), aborted_block)
due_tells (takes (work_outside (is_opened snapshot route))) = (_, refl)
due_tells (takes (work_within (is_opened snapshot route))) = (_, refl)
due_tells (takes (vacuum_outside (is_sweep_wait holders))) = (_, refl, tt)
due_tells (takes (vacuum_outside (is_sweep_refused refusal))) = tt
due_tells (takes (vacuum_outside is_sweep_begin)) = tt
due_tells other = tt

-- where a commit is due, any decision is
decided_due : {session k : ℕ} {block : BlockState} {transaction : Option Transaction} {turn : Turn} {event : Event}
    → IsCommitDue k block transaction turn → IsDecision session k event → IsDue session block transaction turn event
decided_due (inl is) decision = rw is (decides decision)
decided_due (inr is) decision = rw (is.turn_is, is.within, is.is_there) (takes (commit_within decision))

module _ (history : History) (session : ℕ) where
  pub told : (event : Event) → session_of event ≡ Some session → FollowsAfter history event
      → Tells (block_of history session) (transaction_of session history.events) (turn_of history session) event
  told event is follows = due_tells (due_of history.shape history.world history.events session is follows)

  -- where a commit follows, any decision does
  pub decided : (k stamp low high : ℕ) (event : Event) → session ≤ session_count history.world → FollowsAfter history (Commit session k stamp low high)
      → IsDecision session k event → FollowsAfter history event
  decided k stamp low high event within follows decision =
      due session within (decided_due (told (Commit session k stamp low high) refl follows) decision)
