use Rattle.dw_parse.proofs.StatementLemmas.{one_derived}
use Rattle.dw_parse.proofs.laws.at_most_one_statement_is_derived.Goals as goal

pub returns : goal.returns
returns c = one_derived
