use Rattle.dw_parse.proofs.StatementLemmas.{read_derives}
use Rattle.dw_parse.proofs.laws.read_statements_are_derived.Goals as goal

pub returns : goal.returns
returns c = read_derives
