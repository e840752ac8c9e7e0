-- Names that are the same, and what is found in a database under a name.
use Rattle.std.proofs.Common.{◌≡◌, ℕ, true, cond, List, Option, Some, None, option_map, refl, ap, ◌∙◌}
use Rattle.std.specs.Prelude.{if◌then◌else◌}
use Rattle.std.proofs.lemmas.Slice.Eq.{bytes_eq-Decides}
use Rattle.std.proofs.lemmas.Map.Text.{is_eq-slice_cmp}
use Rattle.std.specs.Cmp.Lexicographic.{nat_list_cmp_total, nat_list_eq_equiv}
use Rattle.std.specs.FinMap as map
use Rattle.dw_model.specs.declared.tables.Table.{Table}
use Rattle.dw_model.specs.declared.tables.TableDef.{TableDef}
use Rattle.dw_model.specs.Databases.{Tables, rows_in}
use Rattle.dw_model.specs.Binding.{same_name}

-- a name is the same as itself
pub same_name-self : (name : List ℕ) → same_name name name ≡ true
same_name-self name = nat_list_eq_equiv.refl name

-- names that are the same are equal
pub names_same : (a b : List ℕ) → same_name a b ≡ true → a ≡ b
names_same a b e = (bytes_eq-Decides a b).0 e

-- what is found where a table was put under a name
pub get_after_insert : (tables : Tables) (name : List ℕ) (table : Table) (q : List ℕ)
    → map.get (map.insert tables name table) q ≡ (if same_name q name then Some table else map.get tables q)
get_after_insert tables name table q =
    map.get-insert nat_list_cmp_total tables name table q
    ∙ ap (λ b. cond b (Some table) (map.get tables q)) (is_eq-slice_cmp q name)

-- what is found where the table of a name was taken away
pub get_after_remove : (tables : Tables) (name : List ℕ) (q : List ℕ)
    → map.get (map.remove tables name) q ≡ (if same_name q name then None else map.get tables q)
get_after_remove tables name q =
    map.get-remove nat_list_cmp_total tables name q ∙ ap (λ b. cond b None (map.get tables q)) (is_eq-slice_cmp q name)

-- a table's definition, where there is a table
abbrev pub def_in : Option Table → Option TableDef
def_in found = option_map (λ table. table.def) found

-- two tables with the same definition and the same rows are the same
pub same_table : (a b : Option Table) → def_in a ≡ def_in b → rows_in a ≡ rows_in b → a ≡ b
same_table None None d r = refl
same_table None (Some t) d r = cc
same_table (Some s) None d r = cc
same_table (Some s) (Some t) d r =
    let def : s.def ≡ t.def = cc in
    λ i. Some (record { def = def i; rows = r i })
