-- The fields of a database: its tables under their names, in ascending order of the names.
use Rattle.std.specs.Prelude.{ℕ, suc, Bool, false, List, [], ◌∷◌, map, Option, Some, None, if◌then◌else◌}
use Rattle.std.specs.Ordering.{nat_cmp, is_lt}
use Rattle.std.specs.Cmp.Lexicographic.{slice_cmp}
use Rattle.std.specs.FinMap.Entries.{is_sorted}
use Rattle.std.specs.Arc.{arc_value}
use Rattle.dw_model.specs.declared.tables.Table.{Table}
use Rattle.dw_model.specs.declared.databases.Entry.{Entry}
use Rattle.dw_model.specs.Databases.{IsAscending}
use Rattle.dw_model.specs.Binding.{same_name}

-- a name with its table
abbrev pub pair_of : Entry → List ℕ × Table
pair_of entry = (arc_value entry.name, arc_value entry.table)

abbrev pub pairs_of : List Entry → List (List ℕ × Table)
pairs_of entries = map pair_of entries

-- each name is below all later names
abbrev pub names_rise : List Entry → Bool
names_rise entries = is_sorted (slice_cmp nat_cmp) (pairs_of entries)

-- the rows of each of these tables stand in ascending order
abbrev pub RowsAscend : List Entry → Type 0
RowsAscend [] = Unit {0}
RowsAscend (entry ∷ entries) = IsAscending (arc_value entry.table).rows × RowsAscend entries

-- how many entries at the front have a name below this one
abbrev pub place_in : List Entry → List ℕ → ℕ
place_in [] name = 0
place_in (entry ∷ entries) name =
    if is_lt (slice_cmp nat_cmp (arc_value entry.name) name) then suc (place_in entries name) else 0

-- there is an entry, and it has this name
abbrev pub named_at : List ℕ → Option Entry → Bool
named_at name None = false
named_at name (Some entry) = same_name (arc_value entry.name) name
