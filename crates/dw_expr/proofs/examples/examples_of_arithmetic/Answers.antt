use Rattle.std.proofs.Common.{refl}
use Rattle.std.specs.Fmt.{digits}
use Rattle.std.specs.Str.{chars}
use Rattle.dw_value.specs.Dates.{days_before_year, year_after}
use Rattle.dw_expr.proofs.examples.examples_of_arithmetic.Goals as goal

pub returns-clause-literals : goal.returns-clause-literals
unfolding digits chars days_before_year year_after
returns-clause-literals c = (refl, refl, refl, refl, refl, refl, refl)

pub returns-clause-whole_numbers : goal.returns-clause-whole_numbers
unfolding digits chars days_before_year year_after
returns-clause-whole_numbers c = (refl, refl, refl, refl, refl, refl, refl, refl, refl, refl, refl, refl, refl)

pub returns-clause-decimals : goal.returns-clause-decimals
unfolding digits chars days_before_year year_after
returns-clause-decimals c = (refl, refl, refl, refl, refl, refl, refl, refl, refl, refl, refl, refl, refl, refl, refl)

pub returns-clause-printed : goal.returns-clause-printed
unfolding digits chars days_before_year year_after
returns-clause-printed c = (refl, refl, refl, refl, refl, refl, refl, refl)
