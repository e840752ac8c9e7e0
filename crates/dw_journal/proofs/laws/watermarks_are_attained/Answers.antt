use Rattle.dw_journal.proofs.AttainedMarks.{least_low, greatest_stamp}
use Rattle.dw_journal.proofs.laws.watermarks_are_attained.Goals as goal

pub returns-clause-low : goal.returns-clause-low
returns-clause-low c = least_low

pub returns-clause-high : goal.returns-clause-high
returns-clause-high c = greatest_stamp
