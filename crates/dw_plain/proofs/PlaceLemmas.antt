-- The place of a name among the names of columns.
use Rattle.std.proofs.Common.{◌≡◌, ℕ, ◌+◌, Bool, not, cond, List, [], ◌∷◌, map, Some, None, refl, ap}
use Rattle.std.specs.Prelude.{nat_lt, position}
use Rattle.std.specs.List.{position_or_len}
use Rattle.std.proofs.lemmas.List.{length-map}
use Rattle.dw_model.specs.declared.tables.Column.{Column}

first_of_names : (test : List ℕ → Bool) (columns : List Column) → position_or_len test (map (λ column. column.name) columns) ≡ position_or_len (λ column. test column.name) columns
first_of_names test [] = refl
first_of_names test (column ∷ columns) = ap (λ n. cond (not (test column.name)) (1 + n) 0) (first_of_names test columns)

-- the first name that passes stands where the first column stands whose name passes
pub position_of_name : (test : List ℕ → Bool) (columns : List Column) → position test (map (λ column. column.name) columns) ≡ position (λ column. test column.name) columns
position_of_name test columns = λ i. cond (nat_lt (first_of_names test columns i) (length-map columns (λ (column : Column). column.name) i)) (Some (first_of_names test columns i)) None
