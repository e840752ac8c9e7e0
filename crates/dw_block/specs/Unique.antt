-- A block has one content, as its ghost field wants it.
use Rattle.std.specs.Prelude.{ℕ, List}
use Rattle.std.proofs.Props.{props}
use mathlib.Core.HLevel.{Σ_prop_path}
use mathlib.Core.Logic.{∥∥₁_elim}
use mathlib.Core.List.{is_set as List-set}
use Rattle.dw_value.specs.declared.kinds.Kind.{Kind}
use Rattle.dw_value.specs.declared.kinds.Encoding.{Encoding}
use Rattle.dw_value.specs.declared.values.Value.{Value}
use Rattle.dw_block.specs.declared.zone.Zone.{Zone}
use Rattle.dw_block.specs.Stored.{IsContent, Content}

pub Value-set : IsSet Value
Value-set = hlevel props

pub Values-set : IsSet (List Value)
Values-set = List-set Value-set

IsContent-prop : (encoding : Encoding) (kind : Kind) (count : ℕ) (bytes : List ℕ) (zone : Zone) (values : List Value) →
    IsProp (IsContent encoding kind count bytes zone values)
IsContent-prop encoding kind count bytes zone values = hlevel (props, Values-set)

pub Content-prop : (encoding : Encoding) (kind : Kind) (count : ℕ) (bytes : List ℕ) (zone : Zone) →
    IsProp (Content encoding kind count bytes zone)
Content-prop encoding kind count bytes zone a b =
    Σ_prop_path (IsContent-prop encoding kind count bytes zone)
    (∥∥₁_elim a.1.spells (Values-set a.0 b.0) (λ spells. b.1.only a.0 spells))
