use Rattle.std.proofs.Common.{refl}
use Rattle.std.specs.Fmt.{digits}
use Rattle.std.specs.Str.{chars}
use Rattle.dw_value.specs.Dates.{days_before_year, year_after}
use Rattle.dw_expr.proofs.examples.examples_of_conditionals.Goals as goal

pub returns-clause-cases : goal.returns-clause-cases
unfolding digits chars days_before_year year_after
returns-clause-cases c = (refl, refl, refl, refl, refl, refl, refl, refl, refl, refl, refl)

pub returns-clause-coalesces : goal.returns-clause-coalesces
unfolding digits chars days_before_year year_after
returns-clause-coalesces c = (refl, refl, refl, refl, refl, refl, refl, refl)
