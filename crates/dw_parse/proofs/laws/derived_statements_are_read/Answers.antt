use Rattle.dw_parse.proofs.StatementLemmas.{derives_read}
use Rattle.dw_parse.proofs.laws.derived_statements_are_read.Goals as goal

pub returns : goal.returns
returns c = derives_read
