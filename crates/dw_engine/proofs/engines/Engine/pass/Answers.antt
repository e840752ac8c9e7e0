use Rattle.std.proofs.Common.{refl}
use Rattle.dw_journal.specs.declared.Event.TheVariants.{Pass}
use Rattle.dw_journal.specs.History.{History}
use Rattle.dw_journal.specs.Turns.{number_due}
use Rattle.dw_engine.proofs.StepLemmas.{stepped}
use Rattle.dw_engine.proofs.ViewLemmas.{EngineInvariant-kept, transaction_of-pass}
use Rattle.dw_engine.proofs.engines.Engine.pass.Goals as goal

pub invariant_of-self-2 : goal.invariant_of-self-2
invariant_of-self-2 c =
    let i = c.self.inside in
    let k = number_due i.core c.args.session in
    EngineInvariant-kept i.core i.database i.views.items c.self.invariant (Pass c.args.session k c.args.word) _ c.in_ok-passed.ensures.ok refl
    (transaction_of-pass c.args.session k c.args.word i.core.events)

pub returns-clause-step : goal.returns-clause-step
returns-clause-step c =
    stepped c.args.session (λ (h : History). Pass c.args.session (number_due h c.args.session) c.args.word) c.self.view_is c.in_ok-passed.ensures.ok refl refl c.requires.next
