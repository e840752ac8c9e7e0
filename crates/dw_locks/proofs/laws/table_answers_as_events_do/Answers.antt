use Rattle.dw_locks.proofs.Standing.{blockers_are, cycle_stands, holder_stands}
use Rattle.dw_locks.proofs.laws.table_answers_as_events_do.Goals as goal

pub returns-clause-blockers : goal.returns-clause-blockers
returns-clause-blockers c table state stands session asked = blockers_are table state stands session asked

pub returns-clause-cycle : goal.returns-clause-cycle
returns-clause-cycle c table state stands session asked = cycle_stands table state stands session asked

pub returns-clause-holder : goal.returns-clause-holder
returns-clause-holder c table state stands name = holder_stands table state stands name
