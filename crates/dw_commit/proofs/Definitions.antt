-- Definitions of tables that are told to be equal are equal.
use Rattle.std.proofs.Common.{◌≡◌, true, ap, ◌∙◌}
use Rattle.std.specs.Ordering.{eq_by_cmp}
use Rattle.std.proofs.lemmas.Map.Views.{tells_apart}
use Rattle.dw_value.specs.declared.values.Value.{Value}
use Rattle.dw_value.specs.Values.{value_cmp}
use Rattle.dw_model.specs.declared.tables.Column.{Column}
use Rattle.dw_value.proofs.Antisymmetry.{value_cmp-IsAntisymmetric}

-- values that tie in their order are equal
pub value_tied : (a b : Value) → eq_by_cmp value_cmp a b ≡ true → a ≡ b
value_tied a b is = tells_apart value_cmp-IsAntisymmetric a b is

-- columns of the same parts are the same
pub column_same : (a b : Column) → (a.kind ≡ b.kind) × (a.not_null ≡ b.not_null) → a.default ≡ b.default → (a.name ≡ b.name) × (a.encoding ≡ b.encoding) → a ≡ b
column_same a b takes default named =
    ap (λ name. record { name = name; kind = a.kind; not_null = a.not_null; default = a.default; encoding = a.encoding }) named.0
    ∙ ap (λ kind. record { name = b.name; kind = kind; not_null = a.not_null; default = a.default; encoding = a.encoding }) takes.0
    ∙ ap (λ not_null. record { name = b.name; kind = b.kind; not_null = not_null; default = a.default; encoding = a.encoding }) takes.1
    ∙ ap (λ default. record { name = b.name; kind = b.kind; not_null = b.not_null; default = default; encoding = a.encoding }) default
    ∙ ap (λ encoding. record { name = b.name; kind = b.kind; not_null = b.not_null; default = b.default; encoding = encoding }) named.1
