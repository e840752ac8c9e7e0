use Rattle.dw_progress.proofs.NoStuckRun.{free_one, somebody_steps}
use Rattle.dw_progress.proofs.laws.no_run_is_stuck.Goals as goal

pub returns-clause-free : goal.returns-clause-free
returns-clause-free c = free_one

pub returns-clause-steps : goal.returns-clause-steps
returns-clause-steps c = somebody_steps
