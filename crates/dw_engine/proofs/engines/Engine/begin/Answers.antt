use Rattle.std.proofs.Common.{refl, sym, subst}
use Rattle.dw_journal.specs.declared.Event.TheVariants.{Begin}
use Rattle.dw_journal.specs.History.{History}
use Rattle.dw_journal.specs.Turns.{number_due}
use Rattle.dw_journal.specs.Legal.{IsNextEvent}
use Rattle.dw_engine.proofs.NextEvents.{begin_comes, begin_passes, begin_refused}
use Rattle.dw_engine.proofs.StepLemmas.{engine_block, stepped}
use Rattle.dw_engine.proofs.ViewLemmas.{EngineInvariant-kept, transaction_of-begin}
use Rattle.dw_engine.proofs.engines.Engine.begin.Goals as goal

pub begun-requires-clause-comes : goal.begun-requires-clause-comes
begun-requires-clause-comes c =
    let now = c.args.self.now in
    let session = c.args.session in
    subst (λ (h : History). IsNextEvent h (Begin session (number_due h session))) (sym c.self.view_is)
    (begin_comes now session c.requires.session.1 (number_due now session) c.requires.taking (engine_block session c.self.view_is c.in-Outside.ensures))

pub invariant_of-self-in-Outside : goal.invariant_of-self-in-Outside
invariant_of-self-in-Outside c =
    let i = c.self.inside in
    let k = number_due i.core c.args.session in
    EngineInvariant-kept i.core i.database i.views.items c.self.invariant (Begin c.args.session k) _ c.in_ok-begun-in-Outside.ensures.ok refl
    (transaction_of-begin c.args.session k i.core.events)

pub pass-requires-clause-next : goal.pass-requires-clause-next
pass-requires-clause-next c =
    let now = c.args.self.now in
    let session = c.args.session in
    begin_passes now session c.requires.session.1 (number_due now session) c.requires.taking (engine_block session c.self.view_is c.in-Within.ensures)

pub decline-requires-clause-next : goal.decline-requires-clause-next
decline-requires-clause-next c =
    let now = c.args.self.now in
    let session = c.args.session in
    begin_refused now session c.requires.session.1 (number_due now session) c.requires.taking (engine_block session c.self.view_is c.in-Aborted.ensures)

pub returns-in_ok-begun-in-Outside-clause-step : goal.returns-in_ok-begun-in-Outside-clause-step
returns-in_ok-begun-in-Outside-clause-step c =
    let now = c.args.self.now in
    let session = c.args.session in
    stepped session (λ (h : History). Begin session (number_due h session)) c.self.view_is c.in_ok-begun-in-Outside.ensures.ok refl refl
    (begin_comes now session c.requires.session.1 (number_due now session) c.requires.taking (engine_block session c.self.view_is c.in-Outside.ensures))
