use Rattle.dw_lex.proofs.ReadLemmas.{token_spelled}
use Rattle.dw_lex.proofs.laws.read_tokens_are_spelled.Goals as goal

pub returns : goal.returns
returns c = token_spelled
