use Rattle.dw_journal.proofs.ProgressLemmas.{nearer, stays}
use Rattle.dw_journal.proofs.laws.events_bring_nearer_the_end.Goals as goal

pub returns-clause-own : goal.returns-clause-own
returns-clause-own c = λ older place event of_session plain follows. nearer older place of_session plain follows

pub returns-clause-others : goal.returns-clause-others
returns-clause-others c = stays
