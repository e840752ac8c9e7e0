use Rattle.std.proofs.Common.{refl}
use Rattle.std.specs.Fmt.{digits}
use Rattle.std.specs.Str.{chars}
use Rattle.dw_value.specs.Dates.{days_before_year, year_after}
use Rattle.dw_expr.proofs.examples.examples_of_kinds.Goals as goal

pub returns : goal.returns
unfolding digits chars days_before_year year_after
returns c = (
  refl,
  refl,
  refl,
  refl,
  refl,
  refl,
  refl,
  refl,
  refl,
  refl,
  refl,
  refl,
  refl,
  refl,
  refl,
  refl,
  refl,
  refl,
  refl,
  refl,
  refl,
  refl,
  refl,
  refl,
  refl,
  refl,
)
