use Rattle.dw_model.proofs.FrameLemmas.{ascending_framed}
use Rattle.dw_model.proofs.laws.rows_stay_ascending.Goals as goal

pub returns : goal.returns
returns c = ascending_framed
