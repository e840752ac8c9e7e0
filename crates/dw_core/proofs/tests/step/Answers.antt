use Rattle.dw_core.proofs.Driver.{end_comes}
use Rattle.dw_core.proofs.tests.step.Goals as goal

pub ended-requires-clause-comes : goal.ended-requires-clause-comes
ended-requires-clause-comes c = end_comes c.args.core.now c.args.session c.requires c.in-End.ensures
