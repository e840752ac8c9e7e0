use Rattle.dw_journal.proofs.CommittedObjects.{def_committed, rows_committed}
use Rattle.dw_journal.proofs.laws.commits_leave_objects.Goals as goal

pub returns-clause-definitions : goal.returns-clause-definitions
returns-clause-definitions c = def_committed

pub returns-clause-rows : goal.returns-clause-rows
returns-clause-rows c = rows_committed
