use Rattle.std.proofs.Common.{subst}
use Rattle.dw_journal.specs.History.{History}
use Rattle.dw_journal.specs.Turns.{number_due}
use Rattle.dw_journal.specs.Turns.{IsForeign}
use Rattle.dw_engine.specs.NextStatements.{IsTaking}
use Rattle.dw_engine.proofs.NextEvents.{foreign_refused}
use Rattle.dw_engine.proofs.engines.Engine.take.Goals as goal

pub decline-requires-clause-next : goal.decline-requires-clause-next
decline-requires-clause-next c =
    let now = c.args.self.now in
    let session = c.args.session in
    foreign_refused now session c.requires.session.1 (number_due now session) c.in-Foreign.refusal
    (subst (λ (h : History). IsTaking h session (IsForeign c.in-Foreign.refusal)) c.self.view_is (rw c.in-Foreign.is at c.in_ok-demand_of.ensures))
