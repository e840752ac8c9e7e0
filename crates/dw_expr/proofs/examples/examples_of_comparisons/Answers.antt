use Rattle.std.proofs.Common.{refl}
use Rattle.std.specs.Fmt.{digits}
use Rattle.std.specs.Str.{chars}
use Rattle.dw_value.specs.Dates.{days_before_year, year_after}
use Rattle.dw_expr.proofs.examples.examples_of_comparisons.Goals as goal

pub returns-clause-comparisons : goal.returns-clause-comparisons
unfolding digits chars days_before_year year_after
returns-clause-comparisons c = (refl, refl, refl, refl, refl, refl, refl, refl, refl, refl, refl, refl, refl, refl)

pub returns-clause-in_lists : goal.returns-clause-in_lists
unfolding digits chars days_before_year year_after
returns-clause-in_lists c = (refl, refl, refl, refl, refl, refl, refl, refl, refl, refl)

pub returns-clause-betweens : goal.returns-clause-betweens
unfolding digits chars days_before_year year_after
returns-clause-betweens c = (refl, refl, refl, refl, refl, refl, refl)
