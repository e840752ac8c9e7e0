use Rattle.std.proofs.Common.{refl, sym, subst}
use Rattle.dw_journal.specs.declared.Event.TheVariants.{End}
use Rattle.dw_journal.specs.History.{History}
use Rattle.dw_journal.specs.Turns.{number_due}
use Rattle.dw_engine.proofs.StepLemmas.{stepped}
use Rattle.dw_engine.proofs.ViewLemmas.{EngineInvariant-ended}
use Rattle.dw_journal.specs.Legal.{IsNextEvent}
use Rattle.dw_engine.proofs.NextEvents.{end_comes}
use Rattle.dw_engine.proofs.engines.Engine.end.Goals as goal

pub ended-requires-clause-comes : goal.ended-requires-clause-comes
ended-requires-clause-comes c =
    subst (λ (h : History). IsNextEvent h (End c.args.session)) (sym c.self.view_is)
    (end_comes c.args.self.now c.args.session c.requires.session.1 0 c.requires.end)

pub invariant_of-self-2 : goal.invariant_of-self-2
invariant_of-self-2 c =
    let i = c.self.inside in
    EngineInvariant-ended i.core i.database i.views.items c.self.invariant c.args.session c.place_of.result (End c.args.session) _ _
    c.requires.session.0 c.place_of.ensures refl c.in_ok-ended.ensures.ok c.self.invariant.newest refl

pub returns-clause-step : goal.returns-clause-step
returns-clause-step c =
    stepped c.args.session (λ (h : History). End c.args.session) c.self.view_is c.in_ok-ended.ensures.ok refl refl (end_comes c.args.self.now c.args.session c.requires.session.1 0 c.requires.end)
