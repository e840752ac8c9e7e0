use Rattle.std.proofs.Common.{FitsSigned}
use Rattle.std.specs.Int.{w128}
use Rattle.std.proofs.lemmas.Int.{to_z-of_z}
use Rattle.dw_value.proofs.Ranges.{quotient_out_of_range}
use Rattle.dw_value.proofs.arithmetic.divide.Goals as goal

pub returns-in-None : goal.returns-in-None
returns-in-None c =
    let a : FitsSigned w128 c.args.a = c.ranges.a in
    let b : FitsSigned w128 c.args.b = c.ranges.b in
    quotient_out_of_range c.args.kind c.args.a c.args.b c.if-b-eq0.false (simp to_z-of_z at c.in-None.ensures)
