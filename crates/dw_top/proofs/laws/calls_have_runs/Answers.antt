use Rattle.dw_top.proofs.ExistingCalls.{run_called}
use Rattle.dw_top.proofs.laws.calls_have_runs.Goals as goal

pub returns : goal.returns
returns c = run_called
