use Rattle.dw_parse_query.proofs.Complete.{query_complete, tuples_complete, change_complete, condition_complete}
use Rattle.dw_parse_query.proofs.laws.derived_parts_are_read.Goals as goal

pub returns-clause-queries : goal.returns-clause-queries
returns-clause-queries c = query_complete

pub returns-clause-tuples : goal.returns-clause-tuples
returns-clause-tuples c = tuples_complete

pub returns-clause-changes : goal.returns-clause-changes
returns-clause-changes c = change_complete

pub returns-clause-conditions : goal.returns-clause-conditions
returns-clause-conditions c = condition_complete
