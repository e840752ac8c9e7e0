use Rattle.dw_top.proofs.ExistingRuns.{journal_exists}
use Rattle.dw_top.proofs.laws.driven_journals_exist.Goals as goal

pub returns : goal.returns
returns c = journal_exists
