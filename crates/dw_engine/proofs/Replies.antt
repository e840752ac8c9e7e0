-- The reply of an open statement is what comes of it.
use Rattle.std.proofs.Common.{◌≡◌, ℕ, ◌≤◌, ◌∷◌, refl, sym, ap, subst, ◌∙◌, inl, inr}
use Rattle.std.specs.Prelude.{Option, Some, None}
use Rattle.dw_model.specs.declared.answers.Answer.{Answer as Reply}
use Rattle.dw_model.specs.declared.refusals.Refusal.{Refusal}
use Rattle.dw_model.specs.declared.refusals.Refusal.TheVariants.{Memory}
use Rattle.dw_model.specs.declared.statements.Statement.{Statement}
use Rattle.dw_model.specs.Databases.{Tables}
use Rattle.dw_model.specs.Alone.{alone}
use Rattle.dw_journal.specs.declared.Event.TheVariants.{Answer, Refuse}
use Rattle.dw_journal.specs.Worlds.{session_count, statement_at}
use Rattle.dw_journal.specs.History.{History, with_event}
use Rattle.dw_journal.specs.Transactions.{transaction_of}
use Rattle.dw_journal.specs.Contents.{view}
use Rattle.dw_journal.specs.Legal.{IsNextEvent, work_refusal}
use Rattle.dw_journal.specs.Turns.{AnswerOf, turn_of}
use Rattle.dw_commit.specs.declared.views.View.{View}
use Rattle.dw_commit.specs.declared.work.Replied.{Replied}
use Rattle.dw_commit.specs.declared.work.Replied.TheVariants.{Answered, Refused}
use Rattle.dw_engine.specs.EngineInvariant.{HasView}
use Rattle.dw_commit.specs.Replies.{IsReply}
use Rattle.dw_engine.specs.Replies.{IsReplyOf}
use Rattle.dw_engine.proofs.NextEvents.{answer_comes, open_refused}
use Rattle.dw_engine.proofs.ViewLemmas.{HasView-answered, seen_view}

module _ (history : History) (session k : ℕ) where
  -- the statement and the view of a reply
  record Parts (due : Option Statement) (seen : Option View) (replied : Replied) : Type 0 where
    statement : Statement
    one : View
    is_due : due ≡ Some statement
    is_seen : seen ≡ Some one
    is_reply : IsReply history.world.files statement one replied

  parts_of : (due : Option Statement) (seen : Option View) (replied : Replied) → IsReplyOf history.world.files due seen replied → Parts due seen replied
  parts_of None seen replied is = absurd is
  parts_of (Some statement) None replied is = absurd is
  parts_of (Some statement) (Some one) replied is = record { statement = statement; one = one; is_due = refl; is_seen = refl; is_reply = is }

  module _ (within : session ≤ session_count history.world) (turn : turn_of history session ≡ AnswerOf k)
      (seen : Option View) (has : HasView history session (transaction_of session history.events) seen) where
    has_one : (one : View) → seen ≡ Some one → HasView history session (transaction_of session history.events) (Some one)
    has_one one is = subst (λ (v : Option View). HasView history session (transaction_of session history.events) v) is has

    pub answered_comes : (answer : Reply) (next : View) → IsReplyOf history.world.files (statement_at history.world session k) seen (Answered answer next)
        → IsNextEvent history (Answer session k answer)
    answered_comes answer next is =
        let parts = parts_of (statement_at history.world session k) seen (Answered answer next) is in
        answer_comes history session within k parts.statement turn parts.is_due answer next.database
        (ap (alone history.world.files parts.statement) (sym (seen_view history session parts.one (has_one parts.one parts.is_seen))) ∙ parts.is_reply.0) parts.is_reply.1

    pub refused_comes : (refusal : Refusal) → IsReplyOf history.world.files (statement_at history.world session k) seen (Refused refusal)
        → IsNextEvent history (Refuse session k refusal)
    refused_comes refusal is =
        let parts = parts_of (statement_at history.world session k) seen (Refused refusal) is in
        open_refused history session within k parts.statement turn parts.is_due refusal
        (inr (ap (λ (tables : Tables). work_refusal parts.statement (alone history.world.files parts.statement tables)) (sym (seen_view history session parts.one (has_one parts.one parts.is_seen))) ∙ parts.is_reply))

    -- and the next view is that of the transaction with one more answer
    pub HasView-replied : (answer : Reply) (next : View) → IsReplyOf history.world.files (statement_at history.world session k) seen (Answered answer next)
        → HasView (with_event history (Answer session k answer)) session (transaction_of session (Answer session k answer ∷ history.events)) (Some next)
    HasView-replied answer next is =
        let parts = parts_of (statement_at history.world session k) seen (Answered answer next) is in
        HasView-answered history session k answer parts.statement parts.one next parts.is_due (has_one parts.one parts.is_seen) parts.is_reply.0 parts.is_reply.2
