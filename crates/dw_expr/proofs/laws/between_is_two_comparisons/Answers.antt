use Rattle.dw_expr.proofs.Expanded.{between_values, between_bound}
use Rattle.dw_expr.proofs.laws.between_is_two_comparisons.Goals as goal

pub returns : goal.returns
returns c = record { values = between_values; bound = between_bound }
