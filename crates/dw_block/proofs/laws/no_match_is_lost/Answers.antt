use Rattle.dw_block.proofs.Bounds.{no_match_is_lost}
use Rattle.dw_block.proofs.laws.no_match_is_lost.Goals as goal

pub returns : goal.returns
returns c = no_match_is_lost
