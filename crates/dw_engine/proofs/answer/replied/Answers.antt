use Rattle.std.proofs.Common.{subst}
use Rattle.std.specs.Prelude.{Option}
use Rattle.dw_journal.specs.Transactions.{transaction_of}
use Rattle.dw_journal.specs.Turns.{number_due}
use Rattle.dw_commit.specs.declared.views.View.{View}
use Rattle.dw_engine.specs.EngineInvariant.{HasView}
use Rattle.dw_engine.proofs.DueTurns.{answer_has}
use Rattle.dw_engine.proofs.ViewLemmas.{none_by}
use Rattle.dw_engine.proofs.answer.replied.Goals as goal

pub unreachable-requires-in_default-view : goal.unreachable-requires-in_default-view
unreachable-requires-in_default-view c =
    let core = c.args.core.now in
    let session = c.args.session in
    answer_has core session (number_due core session) c.requires.session.0 c.requires.answer.0
    (none_by core session (transaction_of session core.events)
    (subst (λ (seen : Option View). HasView core session (transaction_of session core.events) seen) c.in_default-view.is c.requires.view))
