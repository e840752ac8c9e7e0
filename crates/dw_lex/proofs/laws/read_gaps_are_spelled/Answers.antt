use Rattle.dw_lex.proofs.GapLemmas.{gap_spelled}
use Rattle.dw_lex.proofs.laws.read_gaps_are_spelled.Goals as goal

pub returns : goal.returns
returns c = gap_spelled
