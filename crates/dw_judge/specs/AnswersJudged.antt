-- What comes of an answer, by what is kept.
use Rattle.std.specs.Prelude.{◌≡◌, Bool, false, [], ◌∷◌, ◌++◌, Option, Some, None}
use Rattle.dw_model.specs.declared.answers.Answer.{Answer as Reply}
use Rattle.dw_model.specs.declared.answers.Plain.TheVariants.{Done}
use Rattle.dw_model.specs.declared.statements.Statement.{Statement}
use Rattle.dw_model.specs.Alone.{alone, change_of}
use Rattle.dw_model.specs.Databases.{Tables}
use Rattle.dw_model.specs.Files.{Files}
use Rattle.dw_journal.specs.Legal.{IsLegalAnswer}
use Rattle.dw_commit.specs.declared.views.View.{View}
use Rattle.dw_commit.specs.declared.work.Replied.{Replied}
use Rattle.dw_commit.specs.declared.work.Replied.TheVariants.{Answered, Refused}
use Rattle.dw_judge.specs.declared.answering.Answered.{Answered as Judged}
use Rattle.dw_judge.specs.declared.answering.Answered.TheVariants.{Legal, NotLegal}
use Rattle.dw_judge.specs.declared.sessions.OpenOne.{OpenOne}
use Rattle.dw_judge.specs.Judging.{seen_in}
use Rattle.dw_judge.specs.Sames.{same_answer}

-- the view of a statement that was answered so, if it was
abbrev pub IsChecked : Replied → Reply → Option View → Type 0
IsChecked replied answer None = (view : View) → replied ≡ Answered answer view → ⊥
IsChecked replied answer (Some view) = replied ≡ Answered answer view

-- the transaction with one more answered statement, if one is open
abbrev pub IsAnswered : Files → Statement → Reply → Option OpenOne → Option OpenOne → Type 0
IsAnswered files statement answer None None = Unit {0}
IsAnswered files statement answer (Some one) (Some next) =
    (next.taken ≡ one.taken) × (alone files statement one.view.database ≡ Done answer next.view.database)
    × (next.view.changes ≡ one.view.changes ++ change_of files statement one.view.database ∷ [])
IsAnswered files statement answer one next = ⊥

abbrev pub IsAnsweredBy : Files → Option Statement → Reply → Option OpenOne → Option OpenOne → Type 0
IsAnsweredBy files None answer one next = ⊥
IsAnsweredBy files (Some statement) answer one next = IsAnswered files statement answer one next

-- what comes of an answer
abbrev pub IsAnswering : Files → Option Statement → Tables → Option OpenOne → Reply → Judged → Type 0
IsAnswering files statement database transaction answer (Legal next) =
    IsLegalAnswer files statement (seen_in database transaction) answer
    × IsAnsweredBy files statement answer transaction next
IsAnswering files statement database transaction answer NotLegal =
    IsLegalAnswer files statement (seen_in database transaction) answer → ⊥

-- the statement was answered so
abbrev pub is_answered_so : Replied → Reply → Bool
is_answered_so (Answered found view) answer = same_answer found answer
is_answered_so (Refused refusal) answer = false
