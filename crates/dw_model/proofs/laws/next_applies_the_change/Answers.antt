-- The next database, name by name.
use Rattle.dw_model.proofs.FrameLemmas.{def_of-next, rows_of-next}
use Rattle.dw_model.proofs.laws.next_applies_the_change.Goals as goal

pub returns-clause-definitions : goal.returns-clause-definitions
returns-clause-definitions c = def_of-next

pub returns-clause-rows : goal.returns-clause-rows
returns-clause-rows c = rows_of-next
