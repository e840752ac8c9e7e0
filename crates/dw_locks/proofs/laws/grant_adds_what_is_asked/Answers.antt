use Rattle.dw_locks.proofs.HeldOnce.{grant_is}
use Rattle.dw_locks.proofs.laws.grant_adds_what_is_asked.Goals as goal

pub returns : goal.returns
returns c entry asked = grant_is entry asked
