use Rattle.dw_parse_query.proofs.Complete.{one_query, one_list, one_change, one_condition}
use Rattle.dw_parse_query.proofs.laws.at_most_one_part_is_derived.Goals as goal

pub returns-clause-queries : goal.returns-clause-queries
returns-clause-queries c = one_query

pub returns-clause-tuples : goal.returns-clause-tuples
returns-clause-tuples c = one_list

pub returns-clause-changes : goal.returns-clause-changes
returns-clause-changes c = one_change

pub returns-clause-conditions : goal.returns-clause-conditions
returns-clause-conditions c = one_condition
