use Rattle.dw_locks.proofs.Lasting.{granted_stands, new_stands, released_stands, unchanged_stands, waiting_stands}
use Rattle.dw_locks.proofs.laws.tables_go_on_standing.Goals as goal

pub returns-clause-empty : goal.returns-clause-empty
returns-clause-empty c wants sessions = new_stands wants sessions

pub returns-clause-opened : goal.returns-clause-opened
returns-clause-opened c table state stands session within statement snapshot route = granted_stands table state stands session within statement snapshot route

pub returns-clause-waits : goal.returns-clause-waits
returns-clause-waits c table state stands session within statement holders = waiting_stands table state stands session within statement holders

pub returns-clause-released : goal.returns-clause-released
returns-clause-released c table state stands session within now of_it none free = released_stands table state stands session within now of_it none free

pub returns-clause-unchanged : goal.returns-clause-unchanged
returns-clause-unchanged c table state stands session within now of_it same before after =
    unchanged_stands table state stands session within now of_it same before after
