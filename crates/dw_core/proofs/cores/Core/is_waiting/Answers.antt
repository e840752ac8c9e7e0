use Rattle.std.proofs.Common.{◌∙◌}
use Rattle.dw_core.proofs.Waited.{waits_for_none, waits_for_some}
use Rattle.dw_core.proofs.cores.Core.is_waiting.Goals as goal

pub returns-in-Some : goal.returns-in-Some
returns-in-Some c =
    waits_for_some c.args.self.now c.keeping.ensures.follows c.args.session c.requires.session.0 c.args.holders.now c.in-Some.waits c.are_same.result
    (c.keeping.ensures.kept.waits_is ∙ c.in-Some.is) c.are_same.ensures

pub returns-in-None : goal.returns-in-None
returns-in-None c =
    waits_for_none c.args.self.now c.keeping.ensures.follows c.args.session c.requires.session.0 c.args.holders.now (c.keeping.ensures.kept.waits_is ∙ c.in-None.is)
