-- The columns of the sources so far, with those of the sources that are left, are those that a name may mean.
use Rattle.std.proofs.Common.{◌≡◌, drop}
use Rattle.dw_expr.specs.Sight.{Reference, columns_after, row_columns}
use Rattle.dw_bind.specs.Hits.{joined_hits, hits}
use Rattle.dw_bind.specs.Names.{held}
use Rattle.dw_bind.proofs.names.NameTable.new.Given as goal

abbrev pub invariant-loop-from : goal.invariant-loop-from
invariant-loop-from l =
    ((reference : Reference) → joined_hits (held l.table reference) (hits reference (columns_after l.number l.place (drop l.from-index l.sources)))
    ≡ hits reference (row_columns l.sources))
    × (l.number ≡ l.from-index)
