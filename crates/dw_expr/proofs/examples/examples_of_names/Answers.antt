use Rattle.std.proofs.Common.{refl}
use Rattle.std.specs.Fmt.{digits}
use Rattle.std.specs.Str.{chars}
use Rattle.dw_value.specs.Dates.{days_before_year, year_after}
use Rattle.dw_expr.proofs.examples.examples_of_names.Goals as goal

pub returns-clause-names : goal.returns-clause-names
unfolding digits chars days_before_year year_after
returns-clause-names c = (refl, refl, refl, refl, refl, refl, refl, refl, refl, refl, refl)

pub returns-clause-aggregates : goal.returns-clause-aggregates
unfolding digits chars days_before_year year_after
returns-clause-aggregates c = (refl, refl, refl, refl, refl, refl)
