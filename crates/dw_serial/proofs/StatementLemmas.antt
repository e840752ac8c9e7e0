-- What every statement owes: what it reads where it writes, and that it adds rows to tables that are there alone.
use Rattle.std.proofs.Common.{inl, inr, ◌≡◌, ℕ, Bool, true, false, List, [], ◌∷◌, ◌++◌, refl, sym, ap, ◌∙◌}
use Rattle.std.specs.Prelude.{Option, Some, None, is_some, if◌then◌else◌, ◌||◌, ◌⊎◌}
use Rattle.dw_value.specs.declared.values.Row.{Row}
use Rattle.dw_value.specs.Values.{row_cmp}
use Rattle.dw_value.specs.Sorted.{add_sorted}
use Rattle.dw_value.specs.ValueOrder.{row_cmp_total}
use Rattle.dw_value.proofs.Antisymmetry.{row_cmp-IsAntisymmetric}
use Rattle.dw_value.proofs.SortedLaws.{add_sorted-append, add_sorted-swap}
use Rattle.dw_model.specs.declared.changes.Change.{Change}
use Rattle.dw_model.specs.declared.changes.Change.TheVariants.{Unchanged, Creates, Drops, Alters}
use Rattle.dw_model.specs.declared.statements.Statement.{Statement}
use Rattle.dw_model.specs.declared.statements.Statement.TheVariants.{Begin, Commit, Rollback, Vacuum, Create, Drop, Lock, Insert, Select}
use Rattle.dw_model.specs.declared.objects.Object.{Object}
use Rattle.dw_model.specs.declared.objects.Object.TheVariants.{Def, Rows}
use Rattle.dw_model.specs.declared.tables.Table.{Table}
use Rattle.dw_model.specs.declared.tables.TableDef.{TableDef}
use Rattle.dw_model.specs.Databases.{Tables, def_of, rows_of, rows_in}
use Rattle.dw_model.specs.Binding.{same_name}
use Rattle.dw_model.specs.Files.{Files}
use Rattle.dw_model.specs.Changes.{added_to}
use Rattle.dw_model.specs.Objects.{reads_of, writes_of, is_among, SameAt}
use Rattle.dw_model.specs.Alone.{change_of, next_of}
use Rattle.dw_model.proofs.ChangeLemmas.{HasTable}
use Rattle.dw_model.proofs.DatabaseLemmas.{names_same, def_in, same_table}
use Rattle.dw_model.proofs.FrameLemmas.{has_table, unread_rows_framed, unwritten_framed}
use Rattle.std.specs.FinMap as map_of
use Rattle.std.specs.Cmp.Lexicographic.{nat_list_cmp_total}
use Rattle.std.specs.FinMap.{slice_cmp-IsAntisymmetric, nat_cmp-IsAntisymmetric}
use Rattle.dw_journal.specs.Contents.{view_after, changes_of, added_by, reads_in, writes_in}
use Rattle.dw_journal.proofs.TakenObjects.{among_append}

-- databases with the same objects are the same
pub same_database : (a b : Tables) → ((object : Object) → SameAt a b object) → a ≡ b
same_database a b same =
    map_of.same_map nat_list_cmp_total (slice_cmp-IsAntisymmetric nat_cmp-IsAntisymmetric) a b
    (λ name. same_table (map_of.get a name) (map_of.get b name) (same (Def name)) (same (Rows name)))

absent_by : (found : Option Table) → def_in found ≡ None → rows_in found ≡ []
absent_by None none = refl
absent_by (Some table) none = cc

-- no definition, no rows
pub absent_rows : (tables : Tables) (name : List ℕ) → def_of tables name ≡ None → rows_of tables name ≡ []
absent_rows tables name none = absent_by (map_of.get tables name) none

or_none : (a b : Bool) → (a || b) ≡ false → (a ≡ false) × (b ≡ false)
or_none true b e = cc
or_none false b e = (refl, e)

or_false : (a : Bool) → (a || false) ≡ true → a ≡ true
or_false true e = refl
or_false false e = cc

-- a definition that is written is read, and so are its rows, which are written too
pub def_written : (statement : Statement) (name : List ℕ) → is_among (Def name) (writes_of statement) ≡ true
    → (is_among (Def name) (reads_of statement) ≡ true) × (is_among (Rows name) (reads_of statement) ≡ true) × (is_among (Rows name) (writes_of statement) ≡ true)
def_written Begin name written = cc
def_written Commit name written = cc
def_written Rollback name written = cc
def_written (Vacuum table) name written = cc
def_written (Create spec) name written = let same = or_false _ written in (rw same refl, rw same refl, rw same refl)
def_written (Drop table) name written = let same = or_false _ written in (rw same refl, rw same refl, rw same refl)
def_written (Lock tables) name written = cc
def_written (Insert table columns rows) name written = cc
def_written (Select query) name written = cc

-- the definition of rows that are written is read
pub rows_written : (statement : Statement) (name : List ℕ) → is_among (Rows name) (writes_of statement) ≡ true → is_among (Def name) (reads_of statement) ≡ true
rows_written Begin name written = cc
rows_written Commit name written = cc
rows_written Rollback name written = cc
rows_written (Vacuum table) name written = cc
rows_written (Create spec) name written = let same = or_false _ written in rw same refl
rows_written (Drop table) name written = let same = or_false _ written in rw same refl
rows_written (Lock tables) name written = cc
rows_written (Insert table columns rows) name written = let same = or_false _ written in rw same refl
rows_written (Select query) name written = cc

-- no row is added to a table that isn't there
absent_some : (found : Option TableDef) → found ≡ None → is_some found ≡ true → ⊥
absent_some None none some = cc
absent_some (Some def) none some = cc

absent_at : (name table : List ℕ) (added : List Row) (tables : Tables) (same : Bool) → same_name name table ≡ same → def_of tables name ≡ None
    → is_some (def_of tables table) ≡ true → (if same then added else []) ≡ []
absent_at name table added tables true is none there =
    let gone : def_of tables table ≡ None = ap (def_of tables) (sym (names_same name table is)) ∙ none in
    absurd (absent_some (def_of tables table) gone there)
absent_at name table added tables false is none there = refl

absent_change : (change : Change) (tables : Tables) (name : List ℕ) → HasTable change tables → def_of tables name ≡ None → added_to name change ≡ []
absent_change Unchanged tables name there none = refl
absent_change (Creates table def) tables name there none = refl
absent_change (Drops table) tables name there none = refl
absent_change (Alters table gone added) tables name there none = absent_at name table added tables (same_name name table) refl none there

-- ---- the same of lists of statements
or_true : (a : Bool) → (a || true) ≡ true
or_true true = refl
or_true false = refl

either : (a b : Bool) → (a || b) ≡ true → (a ≡ true) ⊎ (b ≡ true)
either true b e = inl refl
either false b e = inr e

among_first : (object : Object) (first second : List Object) → is_among object first ≡ true → is_among object (first ++ second) ≡ true
among_first object first second is = among_append object first second ∙ ap (λ b. b || is_among object second) is

among_second : (object : Object) (first second : List Object) → is_among object second ≡ true → is_among object (first ++ second) ≡ true
among_second object first second is = among_append object first second ∙ ap (λ b. is_among object first || b) is ∙ or_true (is_among object first)

among_either : (object : Object) (first second : List Object) → is_among object (first ++ second) ≡ true → (is_among object first ≡ true) ⊎ (is_among object second ≡ true)
among_either object first second is = either _ _ (sym (among_append object first second) ∙ is)

defs_by : (statement : Statement) (later : List Statement) (name : List ℕ)
    → (is_among (Def name) (writes_of statement) ≡ true) ⊎ (is_among (Def name) (writes_in later) ≡ true)
    → (is_among (Def name) (writes_in later) ≡ true → (is_among (Def name) (reads_in later) ≡ true) × (is_among (Rows name) (reads_in later) ≡ true) × (is_among (Rows name) (writes_in later) ≡ true))
    → (is_among (Def name) (reads_in (statement ∷ later)) ≡ true) × (is_among (Rows name) (reads_in (statement ∷ later)) ≡ true) × (is_among (Rows name) (writes_in (statement ∷ later)) ≡ true)
defs_by statement later name (inl here) further =
    let h = def_written statement name here in
    (among_first (Def name) (reads_of statement) (reads_in later) h.0, among_first (Rows name) (reads_of statement) (reads_in later) h.1, among_first (Rows name) (writes_of statement) (writes_in later) h.2)
defs_by statement later name (inr there) further =
    let h = further there in
    (among_second (Def name) (reads_of statement) (reads_in later) h.0, among_second (Rows name) (reads_of statement) (reads_in later) h.1, among_second (Rows name) (writes_of statement) (writes_in later) h.2)

rows_by_parts : (statement : Statement) (later : List Statement) (name : List ℕ)
    → (is_among (Rows name) (writes_of statement) ≡ true) ⊎ (is_among (Rows name) (writes_in later) ≡ true)
    → (is_among (Rows name) (writes_in later) ≡ true → is_among (Def name) (reads_in later) ≡ true)
    → is_among (Def name) (reads_in (statement ∷ later)) ≡ true
rows_by_parts statement later name (inl here) further = among_first (Def name) (reads_of statement) (reads_in later) (rows_written statement name here)
rows_by_parts statement later name (inr there) further = among_second (Def name) (reads_of statement) (reads_in later) (further there)

pub defs_written : (statements : List Statement) (name : List ℕ) → is_among (Def name) (writes_in statements) ≡ true
    → (is_among (Def name) (reads_in statements) ≡ true) × (is_among (Rows name) (reads_in statements) ≡ true) × (is_among (Rows name) (writes_in statements) ≡ true)
defs_written [] name written = cc
defs_written (statement ∷ later) name written =
    defs_by statement later name (among_either (Def name) (writes_of statement) (writes_in later) written) (defs_written later name)

pub rows_read : (statements : List Statement) (name : List ℕ) → is_among (Rows name) (writes_in statements) ≡ true → is_among (Def name) (reads_in statements) ≡ true
rows_read [] name written = cc
rows_read (statement ∷ later) name written =
    rows_by_parts statement later name (among_either (Rows name) (writes_of statement) (writes_in later) written) (rows_read later name)

-- no row is added to a table that isn't there, and whose definition isn't written
pub absent_added : (files : Files) (statements : List Statement) (tables : Tables) (name : List ℕ) → def_of tables name ≡ None
    → is_among (Def name) (writes_in statements) ≡ false → added_by (changes_of files statements tables) name ≡ []
absent_added files [] tables name none unwritten = refl
absent_added files (statement ∷ later) tables name none unwritten =
    let parts = or_none _ _ (sym (among_append (Def name) (writes_of statement) (writes_in later)) ∙ unwritten) in
    let gone : def_of (next_of files statement tables) name ≡ None = sym (unwritten_framed files statement tables (Def name) parts.0) ∙ none in
    let first = absent_change (change_of files statement tables) tables name (has_table files statement tables) none in
    rw first (absent_added files later (next_of files statement tables) name gone parts.1)

-- rows that aren't read are the former ones with the added ones
pub rows_added : (files : Files) (statements : List Statement) (tables : Tables) (name : List ℕ) → is_among (Rows name) (reads_in statements) ≡ false
    → rows_of (view_after files tables statements) name ≡ add_sorted row_cmp (added_by (changes_of files statements tables) name) (rows_of tables name)
rows_added files [] tables name unread = refl
rows_added files (statement ∷ later) tables name unread =
    let parts = or_none _ _ (sym (among_append (Rows name) (reads_of statement) (reads_in later)) ∙ unread) in
    let next = next_of files statement tables in
    let first : List Row = added_to name (change_of files statement tables) in
    let more : List Row = added_by (changes_of files later next) name in
    rows_added files later next name parts.1
    ∙ ap (add_sorted row_cmp more) (unread_rows_framed files statement tables name parts.0)
    ∙ add_sorted-swap row_cmp_total row_cmp-IsAntisymmetric more first (rows_of tables name)
    ∙ sym (add_sorted-append row_cmp first more (rows_of tables name))
