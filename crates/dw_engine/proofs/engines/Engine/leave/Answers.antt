use Rattle.std.proofs.Common.{refl, sym, subst}
use Rattle.dw_journal.specs.declared.Event.TheVariants.{Rollback}
use Rattle.dw_journal.specs.History.{History}
use Rattle.dw_journal.specs.Turns.{number_due}
use Rattle.dw_engine.proofs.StepLemmas.{stepped}
use Rattle.dw_engine.proofs.ViewLemmas.{EngineInvariant-ended}
use Rattle.dw_engine.proofs.engines.Engine.leave.Goals as goal

pub invariant_of-self : goal.invariant_of-self
invariant_of-self c =
    let i = c.self.inside in
    EngineInvariant-ended i.core i.database i.views.items c.self.invariant c.args.session c.place_of.result (Rollback c.args.session (number_due i.core c.args.session)) _ _
    c.requires.session.0 c.place_of.ensures refl c.rolled_back.ensures c.self.invariant.newest refl

pub returns : goal.returns
returns c =
    stepped c.args.session (λ (h : History). Rollback c.args.session (number_due h c.args.session)) c.self.view_is c.rolled_back.ensures refl refl c.requires.next
