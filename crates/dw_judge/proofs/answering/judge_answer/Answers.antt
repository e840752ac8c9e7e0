use Rattle.std.proofs.Common.{sym, subst, ◌∙◌}
use Rattle.std.proofs.lemmas.Bool.{false≢true}
use Rattle.std.specs.Prelude.{Option, Some, None}
use Rattle.dw_model.specs.declared.statements.Statement.{Statement}
use Rattle.dw_judge.specs.declared.answering.Answered.TheVariants.{Legal, NotLegal}
use Rattle.dw_judge.specs.declared.sessions.OpenOne.{OpenOne}
use Rattle.dw_judge.specs.AnswersJudged.{IsAnswering}
use Rattle.dw_judge.proofs.AnswerTests.{answering_some, reply_not_legal}
use Rattle.dw_judge.proofs.answering.judge_answer.Goals as goal

pub returns-in-Some-checked : goal.returns-in-Some-checked
returns-in-Some-checked c =
    let given = c.in-Some.given.now in
    let one = c.in-Some-transaction.one in
    let files = c.args.world.now.files in
    let judged = Legal (Some (record { taken = one.taken; view = c.in-Some-checked.view })) in
    subst (λ (found : Option Statement). IsAnswering files found c.args.database.now c.args.transaction c.args.answer.now judged) c.in-Some.ensures
    (subst (λ (open_one : Option OpenOne). IsAnswering files (Some given) c.args.database.now open_one c.args.answer.now judged) (sym c.in-Some-transaction.is)
    (answering_some files given c.args.database.now one c.args.answer.now c.in-Some-checked.view c.in_ok-replied-in-Some-transaction.replied c.in_ok-replied-in-Some-transaction.ensures c.in-Some-checked.ensures))

pub returns-in-None-checked : goal.returns-in-None-checked
returns-in-None-checked c =
    let given = c.in-Some.given.now in
    let one = c.in-Some-transaction.one in
    let files = c.args.world.now.files in
    subst (λ (found : Option Statement). IsAnswering files found c.args.database.now c.args.transaction c.args.answer.now NotLegal) c.in-Some.ensures
    (subst (λ (open_one : Option OpenOne). IsAnswering files (Some given) c.args.database.now open_one c.args.answer.now NotLegal) (sym c.in-Some-transaction.is)
    (reply_not_legal files given c.args.answer.now one.view c.in_ok-replied-in-Some-transaction.replied c.in_ok-replied-in-Some-transaction.ensures c.in-None-checked.ensures))

pub returns-then-alone : goal.returns-then-alone
returns-then-alone c =
    let given = c.in-Some.given.now in
    let files = c.args.world.now.files in
    subst (λ (found : Option Statement). IsAnswering files found c.args.database.now c.args.transaction c.args.answer.now (Legal None)) c.in-Some.ensures
    (subst (λ (open_one : Option OpenOne). IsAnswering files (Some given) c.args.database.now open_one c.args.answer.now (Legal None)) (sym c.in-None.is)
    (c.in_ok-alone-in-None.ensures.0 c.if-alone.true, tt))

pub returns-else-alone : goal.returns-else-alone
returns-else-alone c =
    let given = c.in-Some.given.now in
    let files = c.args.world.now.files in
    subst (λ (found : Option Statement). IsAnswering files found c.args.database.now c.args.transaction c.args.answer.now NotLegal) c.in-Some.ensures
    (subst (λ (open_one : Option OpenOne). IsAnswering files (Some given) c.args.database.now open_one c.args.answer.now NotLegal) (sym c.in-None.is)
    (λ legal. false≢true (sym c.if-alone.false ∙ c.in_ok-alone-in-None.ensures.1 legal)))
