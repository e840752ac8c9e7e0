use Rattle.dw_expr.proofs.SameValues.{value_eq-is}
use Rattle.dw_expr.proofs.bound.is_same_value.Goals as goal

pub returns : goal.returns
returns c = rw c.eq.ensures (value_eq-is c.args.a.now c.args.b.now)
