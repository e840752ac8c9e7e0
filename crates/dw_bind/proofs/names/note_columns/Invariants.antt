-- The columns so far, with those that are left, are all of the source's.
use Rattle.std.proofs.Common.{◌≡◌, ◌≤◌, ℕ, List, None, drop}
use Rattle.dw_expr.specs.Sight.{columns_from}
use Rattle.dw_bind.specs.Hits.{joined_hits, hits}
use Rattle.dw_bind.specs.Names.{named}
use Rattle.dw_bind.proofs.names.note_columns.Given as goal

abbrev pub invariant-loop-column : goal.invariant-loop-column
invariant-loop-column l =
    ((asked : List ℕ) → joined_hits (named l.names asked) (hits (record { source = None; name = asked }) (columns_from l.number l.from.alias l.place (drop l.column-index l.columns)))
    ≡ joined_hits (named l.initial.names asked) (hits (record { source = None; name = asked }) (columns_from l.number l.from.alias l.first l.columns)))
    × (l.place ≤ 18446744073709551615)
