use Rattle.std.proofs.Common.{refl, sym, subst}
use Rattle.dw_journal.specs.declared.Event.TheVariants.{Refuse}
use Rattle.dw_journal.specs.History.{History}
use Rattle.dw_journal.specs.Turns.{number_due}
use Rattle.dw_engine.proofs.StepLemmas.{stepped}
use Rattle.dw_engine.proofs.ViewLemmas.{EngineInvariant-ended}
use Rattle.dw_engine.proofs.engines.Engine.decline.Goals as goal

pub invariant_of-self-2 : goal.invariant_of-self-2
invariant_of-self-2 c =
    let i = c.self.inside in
    EngineInvariant-ended i.core i.database i.views.items c.self.invariant c.args.session c.place_of.result (Refuse c.args.session (number_due i.core c.args.session) c.args.refusal) _ _
    c.requires.session.0 c.place_of.ensures refl c.in_ok-declined.ensures.ok c.self.invariant.newest refl

pub returns-clause-step : goal.returns-clause-step
returns-clause-step c =
    stepped c.args.session (λ (h : History). Refuse c.args.session (number_due h c.args.session) c.args.refusal) c.self.view_is c.in_ok-declined.ensures.ok refl refl c.requires.next
