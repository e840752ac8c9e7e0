-- What is kept of a session tells what is due of it.
use Rattle.std.proofs.Common.{◌≡◌, ℕ, zero, suc, ◌+◌, ◌-◌, ◌<◌, ◌≤◌, List, length, get_or, refl, sym, ap, subst, ◌∙◌, arith}
use Rattle.std.specs.Prelude.{Option, Some, None, slice_get}
use Rattle.std.proofs.lemmas.Option.{slice_get_read}
use Rattle.dw_journal.specs.declared.Given.{Given}
use Rattle.dw_journal.specs.declared.World.{World}
use Rattle.dw_journal.specs.Worlds.{given_at}
use Rattle.dw_journal.specs.History.{History, newest_event, statements_taken}
use Rattle.dw_journal.specs.Blocks.{block_of}
use Rattle.dw_journal.specs.Transactions.{transaction_of}
use Rattle.dw_journal.specs.Turns.{Call, AnswerOf, CommitOf, Taking, taking, next_turn, turn_of, turn_after}
use Rattle.dw_core.specs.declared.sessions.Session.{Session}
use Rattle.dw_core.specs.declared.sessions.Stage.{Stage}
use Rattle.dw_core.specs.declared.sessions.Stage.TheVariants as stage
use Rattle.dw_core.specs.CoreInvariant.{IsAtStage, IsKept, turn_meant}

pub next_is : (history : History) (session : ℕ) → 1 ≤ session
    → next_turn history session ≡ taking (statements_taken session history.events + 1) (given_at history.world session (statements_taken session history.events + 1))
next_is history zero first = absurd (omega arith)
next_is history (suc n) first = refl

-- what stands at a session's place is kept of it
pub found : (sessions : List Session) (place session : ℕ) (kept : Session) → place ≡ session - 1 → place < length sessions → kept ≡ get_or sessions place kept
    → slice_get sessions (session - 1) ≡ Some kept
found sessions place session kept is within here =
    subst (λ (n : ℕ). slice_get sessions n ≡ Some kept) is (slice_get_read sessions (length sessions) place kept refl within here)

answering_taking : {A : Type 0} (given : Option Given) (count k : ℕ) → taking count given ≡ AnswerOf k → A
answering_taking None count k is = cc
answering_taking (Some given) count k is = cc

committing_taking : {A : Type 0} (given : Option Given) (count k : ℕ) → taking count given ≡ CommitOf k → A
committing_taking None count k is = cc
committing_taking (Some given) count k is = cc

module _ (world : World) (session : ℕ) where
  taking_stage : (at : Stage) (count k : ℕ) (call : Call) → turn_meant world session at count ≡ Taking k call → at ≡ stage.Between
  taking_stage stage.Between count k call is = refl
  taking_stage stage.Opened count k call is = cc
  taking_stage stage.Answered count k call is = cc
  taking_stage stage.Ended count k call is = cc

  answering_stage : (at : Stage) (count k : ℕ) → turn_meant world session at count ≡ AnswerOf k → at ≡ stage.Opened
  answering_stage stage.Between count k is = answering_taking (given_at world session (count + 1)) (count + 1) k is
  answering_stage stage.Opened count k is = refl
  answering_stage stage.Answered count k is = cc
  answering_stage stage.Ended count k is = cc

  committing_stage : (at : Stage) (count k : ℕ) → turn_meant world session at count ≡ CommitOf k → at ≡ stage.Answered
  committing_stage stage.Between count k is = committing_taking (given_at world session (count + 1)) (count + 1) k is
  committing_stage stage.Opened count k is = cc
  committing_stage stage.Answered count k is = refl
  committing_stage stage.Ended count k is = cc

module _ (history : History) (session : ℕ) (first : 1 ≤ session) (kept : Session) (is_kept : IsKept history session kept) where
  turn_kept : turn_of history session ≡ turn_meant history.world session kept.stage kept.taken
  turn_kept = ap (turn_after history.shape (block_of history session) (newest_event session history.events)) (next_is history session first) ∙ is_kept.turn_is

  pub is_between : (k : ℕ) (call : Call) → turn_of history session ≡ Taking k call → kept.stage ≡ stage.Between
  is_between k call turn = taking_stage history.world session kept.stage kept.taken k call (sym turn_kept ∙ turn)

  pub is_opened : (k : ℕ) → turn_of history session ≡ AnswerOf k → kept.stage ≡ stage.Opened
  is_opened k turn = answering_stage history.world session kept.stage kept.taken k (sym turn_kept ∙ turn)

  pub is_answered : (k : ℕ) → turn_of history session ≡ CommitOf k → kept.stage ≡ stage.Answered
  is_answered k turn = committing_stage history.world session kept.stage kept.taken k (sym turn_kept ∙ turn)

  pub stage_at : (at : Stage) → kept.stage ≡ at
      → IsAtStage history.world session at kept.taken (block_of history session) (transaction_of session history.events)
  stage_at at is =
      subst (λ (a : Stage). IsAtStage history.world session a kept.taken (block_of history session) (transaction_of session history.events)) is is_kept.at_stage
