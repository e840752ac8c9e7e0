use Rattle.dw_check.proofs.RightLemmas.{readable_answer, right_answer, shape_within, named_due}
use Rattle.dw_check.proofs.laws.right_reports_are_due.Goals as goal

pub returns-clause-readable : goal.returns-clause-readable
returns-clause-readable c = readable_answer

pub returns-clause-answer : goal.returns-clause-answer
returns-clause-answer c = right_answer

pub returns-clause-standard : goal.returns-clause-standard
returns-clause-standard c = shape_within

pub returns-clause-due : goal.returns-clause-due
returns-clause-due c = named_due
