-- Names that are no columns.
use Rattle.std.proofs.Common.{◌≡◌, ℕ, Bool, true, false, List, [], ◌∷◌, ◌++◌, Option, Some, None, is_some, refl}
use Rattle.std.specs.Prelude.{if◌then◌else◌}
use Rattle.dw_model.specs.declared.tables.Column.{Column}
use Rattle.dw_model.specs.Binding.{column_of, first_unknown}

-- the first of two names
abbrev pub either : Option (List ℕ) → Option (List ℕ) → Option (List ℕ)
either None second = second
either (Some name) second = Some name

append_by : (columns : List Column) (x : List ℕ) (first all second : Option (List ℕ)) (b : Bool) → all ≡ either first second → (if b then all else Some x) ≡ either (if b then first else Some x) second
append_by columns x first all second true e = e
append_by columns x first all second false e = refl

-- the first unknown name of two lists
pub first_unknown_append : (columns : List Column) (xs ys : List (List ℕ)) → first_unknown columns (xs ++ ys) ≡ either (first_unknown columns xs) (first_unknown columns ys)
first_unknown_append columns [] ys = refl
first_unknown_append columns (x ∷ xs) ys = append_by columns x (first_unknown columns xs) (first_unknown columns (xs ++ ys)) (first_unknown columns ys) (is_some (column_of columns x)) (first_unknown_append columns xs ys)
