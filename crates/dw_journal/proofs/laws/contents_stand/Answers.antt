use Rattle.dw_journal.proofs.Stand.{contents-front}
use Rattle.dw_journal.proofs.laws.contents_stand.Goals as goal

pub returns : goal.returns
returns c = contents-front
