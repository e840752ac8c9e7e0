use Rattle.dw_expr.proofs.Expanded.{in_values, in_bound}
use Rattle.dw_expr.proofs.laws.in_is_the_or_of_equalities.Goals as goal

pub returns : goal.returns
returns c = record { values = in_values; bound = in_bound }
