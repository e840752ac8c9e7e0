use Rattle.std.proofs.Common.{subst}
use Rattle.std.specs.Prelude.{Some}
use Rattle.std.specs.Bool.{Decides}
use Rattle.dw_model.specs.Databases.{Tables}
use Rattle.dw_journal.specs.Legal.{IsLegalAnswer}
use Rattle.dw_judge.proofs.AnswerTests.{answered-decides}
use Rattle.dw_judge.proofs.answering.is_answered_alone.Goals as goal

pub returns : goal.returns
returns c =
    subst (λ (t : Tables). Decides c.is_answered_so.result (IsLegalAnswer c.args.world.now.files (Some c.args.given.now) t c.args.answer.now)) c.in_ok-copy.ensures
    (answered-decides c.args.world.now.files c.args.given.now c.args.answer.now _ c.in_ok-replied.replied c.is_answered_so.result c.in_ok-replied.ensures c.is_answered_so.ensures)
