use Rattle.std.proofs.Common.{◌≡◌, ◌-◌, ◌∙◌, ℕ, FitsSigned, ap}
use Rattle.std.specs.Int.{w128}
use Rattle.std.proofs.lemmas.Int.{to_z-of_z}
use Rattle.dw_value.specs.Kinds.{scale_of}
use Rattle.dw_value.specs.Arithmetic.{in_range, raised}
use Rattle.dw_value.proofs.Ranges.{out_of_range}
use Rattle.dw_value.proofs.arithmetic.operand.Goals as goal

pub returns-in-None : goal.returns-in-None
returns-in-None c =
    let fits : FitsSigned w128 c.args.number = c.ranges.number in
    let places : c.saturating_sub.result ≡ scale_of c.args.wanted - scale_of c.args.kind =
    c.saturating_sub.ensures ∙ (λ i. c.scale.ensures i - c.scale-2.ensures i) in
    out_of_range c.args.wanted (raised c.saturating_sub.result c.args.number) (simp to_z-of_z at c.in-None.ensures)
    ∙ ap (λ (k : ℕ). in_range c.args.wanted (raised k c.args.number)) places
