use Rattle.std.proofs.Common.{sym, ap, ◌∙◌}
use Rattle.std.proofs.lemmas.Bool.{false≢true}
use Rattle.dw_model.specs.declared.answers.Answer.{Answer as Reply}
use Rattle.dw_commit.specs.declared.work.Replied.TheVariants.{Answered}
use Rattle.dw_judge.proofs.AnswerTests.{not_answered}
use Rattle.dw_judge.proofs.SameAnswers.{answer-decides}
use Rattle.dw_judge.proofs.answering.checked.Goals as goal

pub returns-then-is_same_answer : goal.returns-then-is_same_answer
returns-then-is_same_answer c =
    c.in-Answered.is
    ∙ ap (λ (a : Reply). Answered a c.in-Answered.view) ((answer-decides c.in-Answered.found c.args.answer.now).0 (sym c.is_same_answer.ensures ∙ c.if-is_same_answer.true))

pub returns-in-Answered : goal.returns-in-Answered
returns-in-Answered c =
    λ view is. false≢true (sym c.if-is_same_answer.false ∙ c.is_same_answer.ensures
    ∙ (answer-decides c.in-Answered.found c.args.answer.now).1 (not_answered c.in-Answered.found c.args.answer.now c.in-Answered.view view (sym c.in-Answered.is ∙ is)))
