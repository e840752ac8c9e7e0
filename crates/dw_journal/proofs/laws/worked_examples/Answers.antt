use Rattle.std.proofs.Common.{refl}
use Rattle.dw_journal.proofs.laws.worked_examples.Goals as goal

pub returns-clause-write_skew : goal.returns-clause-write_skew
returns-clause-write_skew c = (refl, refl)

pub returns-clause-skewed : goal.returns-clause-skewed
returns-clause-skewed c = (refl, refl, refl)

pub returns-clause-lost_update : goal.returns-clause-lost_update
returns-clause-lost_update c = (refl, refl, refl)

pub returns-clause-lost : goal.returns-clause-lost
returns-clause-lost c = (refl, refl, refl)

pub returns-clause-reader_before_writer : goal.returns-clause-reader_before_writer
returns-clause-reader_before_writer c = (refl, refl, refl)

pub returns-clause-three_sessions : goal.returns-clause-three_sessions
returns-clause-three_sessions c = (refl, refl, refl)

pub returns-clause-waits : goal.returns-clause-waits
returns-clause-waits c = (refl, refl)

pub returns-clause-deadlock : goal.returns-clause-deadlock
returns-clause-deadlock c = (refl, refl)
