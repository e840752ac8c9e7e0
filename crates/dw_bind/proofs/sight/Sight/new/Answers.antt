-- The table is made of the columns of these very sources.
use Rattle.std.proofs.Common.{subst}
use Rattle.dw_expr.specs.Sight.{row_columns}
use Rattle.dw_bind.specs.Names.{IsTableOf}
use Rattle.dw_bind.proofs.sight.Sight.new.Goals as goal

pub invariant_of-result : goal.invariant_of-result
invariant_of-result c =
    subst (λ sources. IsTableOf c.in_ok-names.names (row_columns sources)) c.as_slice.ensures.items c.in_ok-names.ensures
