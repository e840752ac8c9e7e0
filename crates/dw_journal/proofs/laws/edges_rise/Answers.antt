use Rattle.dw_journal.proofs.EdgeLemmas.{forward, backward, writers}
use Rattle.dw_journal.proofs.laws.edges_rise.Goals as goal

pub returns-clause-forward : goal.returns-clause-forward
returns-clause-forward c = forward

pub returns-clause-backward : goal.returns-clause-backward
returns-clause-backward c = backward

pub returns-clause-writers : goal.returns-clause-writers
returns-clause-writers c = writers
