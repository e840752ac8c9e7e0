use Rattle.std.proofs.Common.{◌≡◌, ◌∙◌, ℕ, ℤ, Bool, Ok, Err, if◌then◌else◌, FitsSigned, sym, ap}
use Rattle.std.specs.Int.{w128}
use Rattle.std.proofs.lemmas.Int.{to_z-of_z}
use Rattle.dw_value.specs.declared.kinds.Kind.{Kind}
use Rattle.dw_value.specs.declared.kinds.Misfit.TheVariants.{Range}
use Rattle.dw_value.specs.declared.values.Value.TheVariants.{Number}
use Rattle.dw_value.specs.Values.{held}
use Rattle.dw_value.specs.Kinds.{scale_of}
use Rattle.dw_value.specs.Arithmetic.{rescaled}
use Rattle.dw_value.specs.Assignment.{admitted}
use Rattle.dw_value.proofs.Rescaling.{not_held}
use Rattle.dw_value.proofs.columns.admit_number.Goals as goal

misfit : (to from : Kind) (n : ℤ) (s t : ℕ) → s ≡ scale_of from → t ≡ scale_of to → (FitsSigned w128 (rescaled s t n) → ⊥) → Err Range ≡ admitted to (Number n) from
misfit to from n s t is_s is_t past =
    ap (λ (b : Bool). if b then Ok (Number (rescaled s t n)) else Err Range) (sym (not_held to (rescaled s t n) past))
    ∙ (λ i. held to (Number (rescaled (is_s i) (is_t i) n)))

pub returns-in-None : goal.returns-in-None
returns-in-None c =
    let fits : FitsSigned w128 c.args.number = c.ranges.number in
    misfit c.args.to c.args.from c.args.number c.scale.result c.scale-2.result c.scale.ensures c.scale-2.ensures (simp to_z-of_z at c.in-None.ensures)
