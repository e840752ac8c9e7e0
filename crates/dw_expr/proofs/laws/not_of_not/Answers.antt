use Rattle.dw_expr.proofs.Negations.{not_twice, not_thrice}
use Rattle.dw_expr.proofs.laws.not_of_not.Goals as goal

pub returns : goal.returns
returns c = record { twice = not_twice; thrice = not_thrice }
