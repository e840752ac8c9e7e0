use Rattle.dw_journal.proofs.ExactDecisions.{exact, only}
use Rattle.dw_journal.proofs.laws.violations_are_exact.Goals as goal

pub returns-clause-decided : goal.returns-clause-decided
returns-clause-decided c = exact

pub returns-clause-only : goal.returns-clause-only
returns-clause-only c = only
