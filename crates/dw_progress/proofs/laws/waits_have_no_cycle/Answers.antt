use Rattle.dw_progress.proofs.NoStuckRun.{acyclic}
use Rattle.dw_progress.proofs.laws.waits_have_no_cycle.Goals as goal

pub returns : goal.returns
returns c = acyclic
