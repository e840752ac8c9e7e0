use Rattle.dw_journal.proofs.OneJournal.{one_journal}
use Rattle.dw_journal.proofs.laws.one_driven_journal.Goals as goal

pub returns : goal.returns
returns c = one_journal
