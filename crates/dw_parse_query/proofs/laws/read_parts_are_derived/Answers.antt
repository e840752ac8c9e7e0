use Rattle.dw_parse_query.proofs.Sound.{query_derived, tuples_derived, change_derived, condition_derived}
use Rattle.dw_parse_query.proofs.laws.read_parts_are_derived.Goals as goal

pub returns-clause-queries : goal.returns-clause-queries
returns-clause-queries c = query_derived

pub returns-clause-tuples : goal.returns-clause-tuples
returns-clause-tuples c = tuples_derived

pub returns-clause-changes : goal.returns-clause-changes
returns-clause-changes c = change_derived

pub returns-clause-conditions : goal.returns-clause-conditions
returns-clause-conditions c = condition_derived
