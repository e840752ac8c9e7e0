use Rattle.std.proofs.Common.{refl}
use Rattle.std.specs.Fmt.{digits}
use Rattle.std.specs.Str.{chars}
use Rattle.dw_value.specs.Dates.{days_before_year, year_after}
use Rattle.dw_expr.proofs.examples.examples_of_texts.Goals as goal

pub returns-clause-texts : goal.returns-clause-texts
unfolding digits chars days_before_year year_after
returns-clause-texts c = (refl, refl, refl, refl, refl)

pub returns-clause-likes : goal.returns-clause-likes
unfolding digits chars days_before_year year_after
returns-clause-likes c = (refl, refl, refl, refl, refl, refl, refl, refl, refl, refl, refl, refl, refl, refl)
