-- `==` of values holds of just the same ones.
use Rattle.std.proofs.Common.{◌↔◌, ◌≡◌, IsTrue, sym, ap, ◌∙◌, is_eq}
use Rattle.std.specs.Ordering.{eq_by_cmp}
use Rattle.std.specs.Cmp.{Equal-is, tied_itself}
use Rattle.dw_value.specs.declared.values.Value.{Value}
use Rattle.dw_value.specs.Values.{value_cmp}
use Rattle.dw_value.specs.ValueOrder.{value_cmp_total}
use Rattle.dw_value.proofs.Antisymmetry.{value_cmp-IsAntisymmetric}

pub value_eq-is : (a b : Value) → IsTrue (eq_by_cmp value_cmp a b) ↔ (a ≡ b)
value_eq-is a b = (
  λ e. value_cmp-IsAntisymmetric a b ((Equal-is (value_cmp a b)).0 e),
  λ e. ap (λ v. eq_by_cmp value_cmp a v) (sym e) ∙ ap is_eq (tied_itself value_cmp_total a),
)
