use Rattle.dw_engine.proofs.ViewLemmas.{EngineInvariant-new}
use Rattle.dw_engine.proofs.engines.Engine.new.Goals as goal

pub invariant_of-result : goal.invariant_of-result
invariant_of-result c =
    EngineInvariant-new c.in_ok-new.field-0 c.args.shape c.args.world c.new-2.result c.in_ok-views.views.items c.args.shape.sessions
    c.in_ok-new.ensures c.new-2.ensures c.in_ok-views.ensures c.requires.sessions c.requires.no_vacuum
