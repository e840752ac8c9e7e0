use Rattle.std.proofs.Common.{refl}
use Rattle.std.specs.Fmt.{digits}
use Rattle.std.specs.Str.{chars}
use Rattle.dw_value.specs.Dates.{days_before_year, year_after}
use Rattle.dw_expr.proofs.examples.examples_of_truths.Goals as goal

pub returns-clause-truths : goal.returns-clause-truths
unfolding digits chars days_before_year year_after
returns-clause-truths c = (refl, refl, refl, refl, refl, refl, refl, refl, refl, refl, refl, refl)

pub returns-clause-faults : goal.returns-clause-faults
unfolding digits chars days_before_year year_after
returns-clause-faults c = (refl, refl, refl)
