-- The columns that a name may mean, as far as it matters whether there is just one.
use Rattle.std.specs.Prelude.{ℕ, min, List, [], ◌∷◌, Option, Some, None, if◌then◌else◌}
use Rattle.dw_expr.specs.Sight.{RowColumn, Reference, may_mean}
use Rattle.dw_bind.specs.declared.hits.Found.{Found}
use Rattle.dw_bind.specs.declared.hits.Hits.{Hits}
use Rattle.dw_bind.specs.declared.hits.Hits.TheVariants.{Nothing, One, Several}

-- a place as a number of 64 bits, or the greatest of these
abbrev pub capped : ℕ → ℕ
capped place = min place 18446744073709551615

abbrev pub found_of : RowColumn → Found
found_of one = record { source = one.source; place = capped one.place; kind = one.kind }

-- the columns of two parts of a row together
abbrev pub joined_hits : Hits → Hits → Hits
joined_hits Nothing b = b
joined_hits (One a) Nothing = One a
joined_hits (One a) (One b) = Several
joined_hits (One a) Several = Several
joined_hits Several b = Several

-- the columns that a reference may mean
abbrev pub hit : Reference → RowColumn → Hits
hit reference one = if may_mean reference one then One (found_of one) else Nothing

abbrev pub hits : Reference → List RowColumn → Hits
hits reference [] = Nothing
hits reference (one ∷ rest) = joined_hits (hit reference one) (hits reference rest)

-- the column, where there is just one
abbrev pub found_in : Hits → Option Found
found_in (One found) = Some found
found_in Nothing = None
found_in Several = None
