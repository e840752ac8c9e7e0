-- An answer is legal where the statement's reply is the same.
use Rattle.std.proofs.Common.{◌≡◌, Bool, [], ◌∷◌, ◌++◌, refl, sym, ap, subst, ◌∙◌}
use Rattle.std.specs.Prelude.{Some, None}
use Rattle.std.specs.Bool.{Decides}
use Rattle.std.proofs.lemmas.Bool.{false≢true}
use Rattle.dw_model.specs.declared.answers.Answer.{Answer as Reply}
use Rattle.dw_model.specs.declared.answers.Plain.{Plain}
use Rattle.dw_model.specs.declared.answers.Plain.TheVariants.{Done}
use Rattle.dw_model.specs.declared.refusals.Refusal.{Refusal}
use Rattle.dw_model.specs.declared.statements.Statement.{Statement}
use Rattle.dw_model.specs.Alone.{alone, change_of}
use Rattle.dw_model.specs.Databases.{Tables}
use Rattle.dw_model.specs.Files.{Files}
use Rattle.dw_model.specs.Limits.{limit_refusal}
use Rattle.dw_journal.specs.Legal.{IsLegalAnswer, work_refusal}
use Rattle.dw_commit.specs.declared.views.View.{View}
use Rattle.dw_commit.specs.declared.work.Replied.{Replied}
use Rattle.dw_commit.specs.declared.work.Replied.TheVariants.{Answered, Refused}
use Rattle.dw_commit.specs.Replies.{IsReply}
use Rattle.dw_judge.specs.declared.sessions.OpenOne.{OpenOne}
use Rattle.dw_judge.specs.declared.answering.Answered.TheVariants.{Legal}
use Rattle.dw_judge.specs.AnswersJudged.{IsAnswering, IsChecked, is_answered_so}
use Rattle.dw_judge.proofs.SameAnswers.{answer-decides}

done_one : (plain : Plain) (a b : Reply) (next other : Tables) → plain ≡ Done a next → plain ≡ Done b other → a ≡ b
done_one plain a b next other first second = cc

work_done : (statement : Statement) (plain : Plain) (answer : Reply) (next : Tables) (refusal : Refusal) → plain ≡ Done answer next → limit_refusal statement next ≡ None
    → work_refusal statement plain ≡ Some refusal → ⊥
work_done statement plain answer next refusal is none refused = cc (sym none ∙ ap (work_refusal statement) (sym is) ∙ refused)

module _ (files : Files) (statement : Statement) (answer : Reply) (seen : View) where
  pub reply_legal : (replied : Replied) (view : View) → IsReply files statement seen replied → replied ≡ Answered answer view
      → (alone files statement seen.database ≡ Done answer view.database) × (limit_refusal statement view.database ≡ None)
      × (view.changes ≡ seen.changes ++ change_of files statement seen.database ∷ [])
  reply_legal replied view is so = subst (IsReply files statement seen) so is

  not_legal_by : (replied : Replied) → IsReply files statement seen replied → ((view : View) → replied ≡ Answered answer view → ⊥)
      → IsLegalAnswer files (Some statement) seen.database answer → ⊥
  not_legal_by (Answered found view) is other legal =
      other view (ap (λ (a : Reply). Answered a view) (done_one _ found answer view.database legal.0 is.0 legal.1))
  not_legal_by (Refused refusal) is other legal = work_done statement _ answer legal.0 refusal legal.1 legal.2 is

  pub reply_not_legal : (replied : Replied) → IsReply files statement seen replied → IsChecked replied answer None
      → IsLegalAnswer files (Some statement) seen.database answer → ⊥
  reply_not_legal replied is other = not_legal_by replied is other

  pub answered-decides : (replied : Replied) (result : Bool) → IsReply files statement seen replied → result ≡ is_answered_so replied answer
      → Decides result (IsLegalAnswer files (Some statement) seen.database answer)
  answered-decides (Answered found view) result is tested = (
    (λ so.
        let same = (answer-decides found answer).0 (sym tested ∙ so) in
        (view.database, is.0 ∙ ap (λ (a : Reply). Done a view.database) same, is.1)),
    (λ legal. tested ∙ (answer-decides found answer).1 (done_one _ found answer view.database legal.0 is.0 legal.1)),
  )
  answered-decides (Refused refusal) result is tested =
      ((λ so. absurd (false≢true (sym tested ∙ so))), (λ legal. absurd (work_done statement _ answer legal.0 refusal legal.1 legal.2 is)))

pub answering_some : (files : Files) (given : Statement) (database : Tables) (one : OpenOne) (answer : Reply) (view : View) (replied : Replied)
    → IsReply files given one.view replied → replied ≡ Answered answer view
    → IsAnswering files (Some given) database (Some one) answer (Legal (Some (record { taken = one.taken; view = view })))
answering_some files given database one answer view replied is so =
    let r = reply_legal files given answer one.view replied view is so in
    ((view.database, r.0, r.1), (refl, r.0, r.2))

pub not_answered : (found : Reply) (answer : Reply) (at view : View) → Answered found at ≡ Answered answer view → found ≡ answer
not_answered found answer at view is = cc
