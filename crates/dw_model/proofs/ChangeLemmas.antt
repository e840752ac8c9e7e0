-- A database after a change: its definitions and rows, name by name.
use Rattle.std.proofs.Common.{◌≡◌, ℕ, Bool, true, false, true≢false, List, [], Option, Some, None, is_some, refl, sym, ap, ◌∙◌}
use Rattle.std.specs.Prelude.{if◌then◌else◌}
use Rattle.std.specs.FinMap as map
use Rattle.dw_value.specs.declared.values.Row.{Row}
use Rattle.dw_model.specs.declared.changes.Change.{Change}
use Rattle.dw_model.specs.declared.changes.Change.TheVariants.{Unchanged, Creates, Drops, Alters}
use Rattle.dw_model.specs.declared.tables.Table.{Table}
use Rattle.dw_model.specs.Binding.{same_name}
use Rattle.dw_model.specs.Changes.{changed, def_by, rows_by, rows_changed, rows_changed_at, table_changed, table_made}
use Rattle.dw_model.specs.Databases.{Tables, IsAscending, def_of, rows_in, rows_of}
use Rattle.dw_model.proofs.AscendingRows.{ascending_rows_changed}
use Rattle.dw_model.proofs.DatabaseLemmas.{def_in, get_after_insert, get_after_remove, names_same}

def_after : (t : Bool) (new old : Option Table) → def_in (if t then new else old) ≡ (if t then def_in new else def_in old)
def_after true new old = refl
def_after false new old = refl

rows_after : (t : Bool) (new old : Option Table) → rows_in (if t then new else old) ≡ (if t then rows_in new else rows_in old)
rows_after true new old = refl
rows_after false new old = refl

def_inserted : (name : List ℕ) (table : Table) (tables : Tables) (q : List ℕ)
    → def_of (map.insert tables name table) q ≡ (if same_name q name then Some table.def else def_of tables q)
def_inserted name table tables q =
    ap def_in (get_after_insert tables name table q) ∙ def_after (same_name q name) (Some table) (map.get tables q)

rows_inserted : (name : List ℕ) (table : Table) (tables : Tables) (q : List ℕ)
    → rows_of (map.insert tables name table) q ≡ (if same_name q name then table.rows else rows_of tables q)
rows_inserted name table tables q =
    ap rows_in (get_after_insert tables name table q) ∙ rows_after (same_name q name) (Some table) (map.get tables q)

-- ---- rows of a table that is there
kept_def : (name : List ℕ) (tables : Tables) (table : Table) → map.get tables name ≡ Some table → (q : List ℕ) (t : Bool)
    → same_name q name ≡ t → (if t then Some table.def else def_of tables q) ≡ def_of tables q
kept_def name tables table is q true e = sym (ap def_in is) ∙ ap (def_of tables) (sym (names_same q name e))
kept_def name tables table is q false e = refl

altered_def : (name : List ℕ) (gone added : List Row) (found : Option Table) (tables : Tables) → map.get tables name ≡ found
    → (q : List ℕ) → def_of (rows_changed_at name gone added found tables) q ≡ def_of tables q
altered_def name gone added None tables is q = refl
altered_def name gone added (Some table) tables is q =
    def_inserted name (table_changed gone added table) tables q ∙ kept_def name tables table is q (same_name q name) refl

changed_rows : (name : List ℕ) (gone added : List Row) (tables : Tables) (table : Table) → map.get tables name ≡ Some table
    → (q : List ℕ) (t : Bool) → same_name q name ≡ t
    → (if t then rows_changed gone added table.rows else rows_of tables q) ≡ (if t then rows_changed gone added (rows_of tables q) else rows_of tables q)
changed_rows name gone added tables table is q true e =
    ap (rows_changed gone added) (sym (ap rows_in is) ∙ ap (rows_of tables) (sym (names_same q name e)))
changed_rows name gone added tables table is q false e = refl

altered_rows : (name : List ℕ) (gone added : List Row) (found : Option Table) (tables : Tables) → map.get tables name ≡ found
    → is_some (def_in found) ≡ true → (q : List ℕ)
    → rows_of (rows_changed_at name gone added found tables) q ≡ rows_by q (Alters name gone added) (rows_of tables q)
altered_rows name gone added None tables is there q = absurd (true≢false (sym there))
altered_rows name gone added (Some table) tables is there q =
    rows_inserted name (table_changed gone added table) tables q
    ∙ changed_rows name gone added tables table is q (same_name q name) refl

-- where rows of a table change, the table is there
abbrev pub HasTable : Change → Tables → Type 0
HasTable Unchanged tables = Unit {0}
HasTable (Creates table def) tables = Unit {0}
HasTable (Drops table) tables = Unit {0}
HasTable (Alters table gone added) tables = is_some (def_of tables table) ≡ true

-- the definitions after a change
pub def_of-changed : (change : Change) (tables : Tables) (q : List ℕ) → def_of (changed change tables) q ≡ def_by q change (def_of tables q)
def_of-changed Unchanged tables q = refl
def_of-changed (Creates table def) tables q = def_inserted table (table_made def) tables q
def_of-changed (Drops table) tables q =
    ap def_in (get_after_remove tables table q) ∙ def_after (same_name q table) None (map.get tables q)
def_of-changed (Alters table gone added) tables q = altered_def table gone added (map.get tables table) tables refl q

-- the rows after a change
pub rows_of-changed : (change : Change) (tables : Tables) → HasTable change tables → (q : List ℕ)
    → rows_of (changed change tables) q ≡ rows_by q change (rows_of tables q)
rows_of-changed Unchanged tables there q = refl
rows_of-changed (Creates table def) tables there q = rows_inserted table (table_made def) tables q
rows_of-changed (Drops table) tables there q =
    ap rows_in (get_after_remove tables table q) ∙ rows_after (same_name q table) None (map.get tables q)
rows_of-changed (Alters table gone added) tables there q =
    altered_rows table gone added (map.get tables table) tables refl there q

ascending_either : (t : Bool) (new old : List Row) → IsAscending new → IsAscending old → IsAscending (if t then new else old)
ascending_either true new old up down = up
ascending_either false new old up down = down

-- the rows of a table ascend after a change, where they did before
pub ascending_rows_by : (q : List ℕ) (change : Change) (rows : List Row) → IsAscending rows → IsAscending (rows_by q change rows)
ascending_rows_by q Unchanged rows up = up
ascending_rows_by q (Creates table def) rows up = ascending_either (same_name q table) [] rows refl up
ascending_rows_by q (Drops table) rows up = ascending_either (same_name q table) [] rows refl up
ascending_rows_by q (Alters table gone added) rows up =
    ascending_either (same_name q table) (rows_changed gone added rows) rows (ascending_rows_changed gone added rows up) up
