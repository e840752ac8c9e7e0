-- What comes of asking for the locks of a statement is a step of the session.
use Rattle.std.proofs.Common.{◌≡◌, ◌≢◌, ℕ, ◌-◌, ◌≤◌, inl, inr, List, None, Some, refl, sym, ap, subst}
use Rattle.std.specs.Prelude.{Option}
use Rattle.std.proofs.Math.ListN.{set}
use Rattle.dw_model.specs.Databases.{Tables}
use Rattle.dw_model.specs.declared.statements.Statement.{Statement}
use Rattle.dw_journal.specs.declared.BlockState.{BlockState}
use Rattle.dw_journal.specs.declared.BlockState.TheVariants.{Outside, Within, Aborted}
use Rattle.dw_journal.specs.declared.Event.{Event}
use Rattle.dw_journal.specs.declared.Event.TheVariants.{Wait, Refuse}
use Rattle.dw_journal.specs.Worlds.{session_count}
use Rattle.dw_journal.specs.Blocks.{block_of}
use Rattle.dw_journal.specs.Driven.{RepeatsWait}
use Rattle.dw_journal.specs.Follows.{FollowsAfter, IsTaken, due, takes, is_wait, work_outside, work_within}
use Rattle.dw_journal.specs.History.{History, with_event}
use Rattle.dw_journal.specs.Legal.{IsLockWait, IsWait}
use Rattle.dw_journal.specs.Transactions.{transaction_of}
use Rattle.dw_journal.specs.Turns.{Taking, Works, number_due, turn_of}
use Rattle.dw_locks.specs.declared.locks.Asked.TheVariants.{Waits, Deadlock}
use Rattle.dw_core.specs.Asking.{IsAnswered, deadlock_due, wait_due}
use Rattle.dw_commit.specs.declared.views.View.{View}
use Rattle.dw_engine.specs.EngineInvariant.{EngineInvariant}
use Rattle.dw_engine.specs.NextStatements.{IsTakingWork}
use Rattle.dw_engine.specs.Steps.{IsStep, repeats, waited}
use Rattle.dw_engine.proofs.StepLemmas.{core_step}
use Rattle.dw_engine.proofs.Stuck.{stuck_again, stuck_now}
use Rattle.dw_engine.proofs.ViewLemmas.{EngineInvariant-ended, EngineInvariant-kept, transaction_of-wait}

module _ (history : History) (session : ℕ) where
  pub waits_step : (holders : List ℕ) (after : History) → IsAnswered history session (Waits holders) after → IsStep session history after
  waits_step holders after answered =
      let k = number_due history session in
      elim answered.1.2 [
        | inl again ↦ subst (IsStep session history) (sym again.1) (repeats (record {
          statement = k;
          holders = holders;
          newest = again.0;
          follows = answered.1.0;
          waits = answered.1.1;
        }) (stuck_again history session k holders again.0 answered.0))
        | inr now ↦ subst (IsStep session history) (sym now.1) (waited holders (answered.1.0, (answered.1.1, now.0)) (stuck_now history session k holders answered.0))
      ]

  pub deadlock_step : (cycle : List ℕ) (after : History) → IsAnswered history session (Deadlock cycle) after → IsStep session history after
  deadlock_step cycle after answered = core_step session (deadlock_due history session cycle) refl answered.3 refl refl answered.2

module _ (history : History) (database : Tables) (views : List (Option View)) (invariant : EngineInvariant history database views) where
  pub EngineInvariant-waits : (session : ℕ) (holders : List ℕ) (after : History) → IsAnswered history session (Waits holders) after
      → EngineInvariant after database views
  EngineInvariant-waits session holders after answered =
      elim answered.1.2 [
        | inl again ↦ subst (λ (h : History). EngineInvariant h database views) (sym again.1) invariant
        | inr now ↦ EngineInvariant-kept history database views invariant (wait_due history session holders) after now.1 refl
            (transaction_of-wait session (number_due history session) holders history.events)
      ]

  pub EngineInvariant-deadlock : (session place : ℕ) (cycle : List ℕ) (after : History) → 1 ≤ session → place ≡ session - 1
      → IsAnswered history session (Deadlock cycle) after → EngineInvariant after database (set views place None)
  EngineInvariant-deadlock session place cycle after some at answered =
      EngineInvariant-ended history database views invariant session place (deadlock_due history session cycle) after database some at refl answered.3
      invariant.newest refl
