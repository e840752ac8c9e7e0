use Rattle.dw_parse_words.specs.Words.{is_reserved}
use Rattle.dw_parse_words.proofs.words.is_reserved.Goals as goal

pub returns : goal.returns
unfolding is_reserved
returns c = c.contains.ensures.value
