-- The order of values and that of rows each tell any two different ones apart.
use Rattle.std.specs.Prelude.{List, true, false}
use Rattle.std.proofs.Common.{refl, ap}
use Rattle.std.specs.Ordering.{bool_cmp}
use Rattle.std.specs.FinMap.{IsAntisymmetric, nat_cmp-IsAntisymmetric, int_cmp-IsAntisymmetric, slice_cmp-IsAntisymmetric}
use Rattle.dw_value.specs.declared.values.Value.{Value}
use Rattle.dw_value.specs.declared.values.Value.TheVariants.{Number, Words, Day, Truth, Null}
use Rattle.dw_value.specs.declared.values.Row.{Row}
use Rattle.dw_value.specs.Values.{value_cmp, row_cmp}

bool_cmp-IsAntisymmetric : IsAntisymmetric bool_cmp
bool_cmp-IsAntisymmetric false false e = refl
bool_cmp-IsAntisymmetric false true e = cc
bool_cmp-IsAntisymmetric true false e = cc
bool_cmp-IsAntisymmetric true true e = refl

pub value_cmp-IsAntisymmetric : IsAntisymmetric value_cmp
value_cmp-IsAntisymmetric (Number a) (Number b) e = ap Number (int_cmp-IsAntisymmetric a b e)
value_cmp-IsAntisymmetric (Words a) (Words b) e = ap Words (slice_cmp-IsAntisymmetric nat_cmp-IsAntisymmetric a b e)
value_cmp-IsAntisymmetric (Day a) (Day b) e = ap Day (int_cmp-IsAntisymmetric a b e)
value_cmp-IsAntisymmetric (Truth a) (Truth b) e = ap Truth (bool_cmp-IsAntisymmetric a b e)
value_cmp-IsAntisymmetric Null Null e = refl
value_cmp-IsAntisymmetric a (Number b) e = cc
value_cmp-IsAntisymmetric a b e = cc

pub row_cmp-IsAntisymmetric : IsAntisymmetric row_cmp
row_cmp-IsAntisymmetric a b e =
    let row : List Value → Row = λ values. record { values = values } in
    ap row (slice_cmp-IsAntisymmetric value_cmp-IsAntisymmetric a.values b.values e)
