-- What a statement reads and writes of a database, form by form.
use Rattle.std.proofs.Common.{◌≡◌, ℕ, Bool, true, false, true≢false, ◌||◌, List, [], ◌∷◌, length, Option, Some, None, is_some, Ok, refl, sym, ap, subst, ◌∙◌}
use Rattle.std.specs.Prelude.{if◌then◌else◌}
use Rattle.dw_value.specs.declared.values.Row.{Row}
use Rattle.dw_value.specs.Values.{row_cmp}
use Rattle.dw_value.specs.Sorted.{add_sorted}
use Rattle.dw_model.specs.declared.changes.Change.{Change}
use Rattle.dw_model.specs.declared.changes.Change.TheVariants.{Unchanged, Creates, Drops, Alters}
use Rattle.dw_model.specs.declared.objects.Object.{Object}
use Rattle.dw_model.specs.declared.objects.Object.TheVariants.{Def, Rows}
use Rattle.dw_model.specs.declared.refusals.Refusal.{Refusal}
use Rattle.dw_model.specs.declared.statements.Literal.{Literal}
use Rattle.dw_model.specs.declared.statements.Query.{Query}
use Rattle.dw_model.specs.declared.statements.Statement.{Statement}
use Rattle.dw_model.specs.declared.statements.Statement.TheVariants.{Begin, Commit, Rollback, Vacuum, Create, Drop, Lock, Insert, Select}
use Rattle.dw_model.specs.declared.tables.Column.{Column}
use Rattle.dw_model.specs.declared.tables.TableDef.{TableDef}
use Rattle.dw_model.specs.Alone.{added_outcome, change_in, change_of, insert_outcome, next_of, outcome_of, outcome_on, reply_in, reply_of}
use Rattle.dw_model.specs.Binding.{same_name, columns_refusal}
use Rattle.dw_model.specs.Bound as b
use Rattle.dw_model.specs.Bound.{BoundStatement, bound, bound_drop, bound_insert, bound_lock, bound_query, first_missing}
use Rattle.dw_model.specs.Changes.{def_by, rows_by, rows_changed, added_to}
use Rattle.dw_model.specs.Creating.{create_refusal, def_made}
use Rattle.dw_model.specs.Inserting.{insert_refusal, names_given, null_column, rows_made}
use Rattle.dw_model.specs.Databases.{Tables, AllAscending, IsAscending, def_of, rows_of}
use Rattle.dw_model.specs.Files.{Files}
use Rattle.dw_model.specs.Objects.{defs_of, reads_of, writes_of, is_among, same_object, with_objects, SameAt, SameAtAll}
use Rattle.dw_model.specs.Refusals.{unless_refused, after_result}
use Rattle.dw_model.proofs.ChangeLemmas.{HasTable, def_of-changed, rows_of-changed, ascending_rows_by}
use Rattle.dw_model.proofs.ObjectSets.{SameAt-among, is_among-with_objects, same_object-self}

-- ---- the definitions that LOCK reads
or_front : (t u : Bool) → t ≡ true → ((t || u) || false) ≡ true
or_front true u e = refl
or_front false u e = absurd (true≢false (sym e))

or_back : (t u : Bool) → (u || false) ≡ true → ((t || u) || false) ≡ true
or_back true u e = refl
or_back false u e = e

-- each of these definitions is the same in two databases
abbrev AllDefs : Tables → Tables → List (List ℕ) → Type 0
AllDefs x y [] = Unit {0}
AllDefs x y (table ∷ tables) = (def_of x table ≡ def_of y table) × AllDefs x y tables

defs_same : (x y : Tables) (tables : List (List ℕ)) → ((object : Object) → (is_among object (defs_of tables) || false) ≡ true → SameAt x y object)
    → AllDefs x y tables
defs_same x y [] each = tt
defs_same x y (table ∷ tables) each = (
  each (Def table) (or_front (same_object (Def table) (Def table)) (is_among (Def table) (defs_of tables)) (same_object-self (Def table))),
  defs_same x y tables (λ object is. each object (or_back (same_object object (Def table)) (is_among object (defs_of tables)) is)),
)

missing_alike : (x y : Tables) (tables : List (List ℕ)) → AllDefs x y tables → first_missing (def_of x) tables ≡ first_missing (def_of y) tables
missing_alike x y [] same = refl
missing_alike x y (table ∷ tables) same =
    ap (λ def. if is_some def then first_missing (def_of x) tables else Some table) same.0
    ∙ ap (λ missing. if is_some (def_of y table) then missing else Some table) (missing_alike x y tables same.1)

locks_alike : (x y : Tables) (tables : List (List ℕ)) → SameAtAll x y (with_objects (defs_of tables) []) → first_missing (def_of x) tables ≡ first_missing (def_of y) tables
locks_alike x y tables same =
    missing_alike x y tables (defs_same x y tables
    (λ object is. SameAt-among x y object (with_objects (defs_of tables) []) same (is_among-with_objects object (defs_of tables) [] ∙ is)))

module _ (files : Files) where
  -- ---- what a statement comes to, by the objects that it reads
  -- what becomes of a statement that may be refused depends on what it is bound to alone
  unless_alike : (r : Option Refusal) (statement : BoundStatement) (f g : List ℕ → List Row) → outcome_of files f statement ≡ outcome_of files g statement
      → after_result (outcome_of files f) (unless_refused r (Ok statement)) ≡ after_result (outcome_of files g) (unless_refused r (Ok statement))
  unless_alike None statement f g e = e
  unless_alike (Some refusal) statement f g e = refl

  drop_alike : (table : List ℕ) (def : Option TableDef) (f g : List ℕ → List Row)
      → after_result (outcome_of files f) (bound_drop table def) ≡ after_result (outcome_of files g) (bound_drop table def)
  drop_alike table None f g = refl
  drop_alike table (Some def) f g = refl

  lock_alike : (missing : Option (List ℕ)) (f g : List ℕ → List Row)
      → after_result (outcome_of files f) (bound_lock missing) ≡ after_result (outcome_of files g) (bound_lock missing)
  lock_alike None f g = refl
  lock_alike (Some table) f g = refl

  insert_alike : (table : List ℕ) (listed : List (List ℕ)) (tuples : List (List Literal)) (def : Option TableDef) (f g : List ℕ → List Row)
      → after_result (outcome_of files f) (bound_insert table listed tuples def) ≡ after_result (outcome_of files g) (bound_insert table listed tuples def)
  insert_alike table listed tuples None f g = refl
  insert_alike table listed tuples (Some def) f g =
      unless_alike (insert_refusal def.columns listed tuples) (b.Insert table def.columns (names_given def.columns listed) tuples) f g refl

  select_alike : (query : Query) (def : Option TableDef) (f g : List ℕ → List Row) → f query.table ≡ g query.table
      → after_result (outcome_of files f) (bound_query query def) ≡ after_result (outcome_of files g) (bound_query query def)
  select_alike query None f g e = refl
  select_alike query (Some def) f g e =
      unless_alike (columns_refusal def.columns query) (b.Select def.columns query) f g
      (ap (λ rows. outcome_of files (λ name. rows) (b.Select def.columns query)) e)

  -- what a statement comes to depends on the objects that it reads alone
  pub outcome_framed : (statement : Statement) (x y : Tables) → SameAtAll x y (reads_of statement) → outcome_on files statement x ≡ outcome_on files statement y
  outcome_framed Begin x y same = refl
  outcome_framed Commit x y same = refl
  outcome_framed Rollback x y same = refl
  outcome_framed (Vacuum table) x y same = refl
  outcome_framed (Create spec) x y same =
      ap (λ def. after_result (outcome_of files (rows_of x)) (unless_refused (create_refusal spec def) (Ok (b.Create spec.name (def_made spec))))) same.0
      ∙ unless_alike (create_refusal spec (def_of y spec.name)) (b.Create spec.name (def_made spec)) (rows_of x) (rows_of y) refl
  outcome_framed (Drop table) x y same =
      ap (λ def. after_result (outcome_of files (rows_of x)) (bound_drop table def)) same.0
      ∙ drop_alike table (def_of y table) (rows_of x) (rows_of y)
  outcome_framed (Lock tables) x y same =
      ap (λ missing. after_result (outcome_of files (rows_of x)) (bound_lock missing)) (locks_alike x y tables same)
      ∙ lock_alike (first_missing (def_of y) tables) (rows_of x) (rows_of y)
  outcome_framed (Insert table listed tuples) x y same =
      ap (λ def. after_result (outcome_of files (rows_of x)) (bound_insert table listed tuples def)) same.0
      ∙ insert_alike table listed tuples (def_of y table) (rows_of x) (rows_of y)
  outcome_framed (Select query) x y same =
      ap (λ def. after_result (outcome_of files (rows_of x)) (bound_query query def)) same.0
      ∙ select_alike query (def_of y query.table) (rows_of x) (rows_of y) same.1.0

  pub reply_framed : (statement : Statement) (x y : Tables) → SameAtAll x y (reads_of statement) → reply_of files statement x ≡ reply_of files statement y
  reply_framed statement x y same = ap reply_in (outcome_framed statement x y same)

  pub change_framed : (statement : Statement) (x y : Tables) → SameAtAll x y (reads_of statement) → change_of files statement x ≡ change_of files statement y
  change_framed statement x y same = ap change_in (outcome_framed statement x y same)

  -- ---- a fact about the change of each outcome that there may be
  of_unless : (P : Change → Type 0) (r : Option Refusal) (rows : List ℕ → List Row) (statement : BoundStatement) → P Unchanged → P (change_in (outcome_of files rows statement))
      → P (change_in (after_result (outcome_of files rows) (unless_refused r (Ok statement))))
  of_unless P None rows statement none some = some
  of_unless P (Some refusal) rows statement none some = none

  of_added : (P : Change → Type 0) (table : List ℕ) (added : List Row) (null : Option (List ℕ)) → P Unchanged → P (Alters table [] added)
      → P (change_in (added_outcome table added null))
  of_added P table added None none some = some
  of_added P table added (Some column) none some = none

  of_made : (P : Change → Type 0) (table : List ℕ) (columns : List Column) (made : Option (List Row)) → P Unchanged → ((added : List Row) → P (Alters table [] added))
      → P (change_in (insert_outcome table columns made))
  of_made P table columns None none some = none
  of_made P table columns (Some added) none some = of_added P table added (null_column columns added) none (some added)

  of_insert : (P : Change → Type 0) (table : List ℕ) (listed : List (List ℕ)) (tuples : List (List Literal)) (def : Option TableDef) (rows : List ℕ → List Row) → P Unchanged
      → (is_some def ≡ true → (added : List Row) → P (Alters table [] added))
      → P (change_in (after_result (outcome_of files rows) (bound_insert table listed tuples def)))
  of_insert P table listed tuples None rows none some = none
  of_insert P table listed tuples (Some def) rows none some =
      of_unless P (insert_refusal def.columns listed tuples) rows (b.Insert table def.columns (names_given def.columns listed) tuples) none
      (of_made P table def.columns (rows_made def.columns (names_given def.columns listed) tuples) none (some refl))

  of_lock : (P : Change → Type 0) (missing : Option (List ℕ)) (rows : List ℕ → List Row) → P Unchanged
      → P (change_in (after_result (outcome_of files rows) (bound_lock missing)))
  of_lock P None rows none = none
  of_lock P (Some table) rows none = none

  of_drop : (P : Change → Type 0) (table : List ℕ) (def : Option TableDef) (rows : List ℕ → List Row) → P Unchanged → P (Drops table)
      → P (change_in (after_result (outcome_of files rows) (bound_drop table def)))
  of_drop P table None rows none some = none
  of_drop P table (Some def) rows none some = some

  of_select : (P : Change → Type 0) (query : Query) (def : Option TableDef) (rows : List ℕ → List Row) → P Unchanged
      → P (change_in (after_result (outcome_of files rows) (bound_query query def)))
  of_select P query None rows none = none
  of_select P query (Some def) rows none = of_unless P (columns_refusal def.columns query) rows (b.Select def.columns query) none none

  of_create : (P : Change → Type 0) (name : List ℕ) (def : TableDef) (r : Option Refusal) (rows : List ℕ → List Row) → P Unchanged → P (Creates name def)
      → P (change_in (after_result (outcome_of files rows) (unless_refused r (Ok (b.Create name def)))))
  of_create P name def r rows none some = of_unless P r rows (b.Create name def) none some

  -- ---- the next database is the change applied
  -- rows change only in a table that is there
  pub has_table : (statement : Statement) (tables : Tables) → HasTable (change_of files statement tables) tables
  has_table Begin tables = tt
  has_table Commit tables = tt
  has_table Rollback tables = tt
  has_table (Vacuum table) tables = tt
  has_table (Create spec) tables =
      of_create (λ change. HasTable change tables) spec.name (def_made spec) (create_refusal spec (def_of tables spec.name)) (rows_of tables) tt tt
  has_table (Drop table) tables = of_drop (λ change. HasTable change tables) table (def_of tables table) (rows_of tables) tt tt
  has_table (Lock tables) x = of_lock (λ change. HasTable change x) (first_missing (def_of x) tables) (rows_of x) tt
  has_table (Insert table listed tuples) tables =
      of_insert (λ change. HasTable change tables) table listed tuples (def_of tables table) (rows_of tables) tt (λ there added. there)
  has_table (Select query) tables = of_select (λ change. HasTable change tables) query (def_of tables query.table) (rows_of tables) tt

  pub def_of-next : (statement : Statement) (tables : Tables) (name : List ℕ)
      → def_of (next_of files statement tables) name ≡ def_by name (change_of files statement tables) (def_of tables name)
  def_of-next statement tables name = def_of-changed (change_of files statement tables) tables name

  pub rows_of-next : (statement : Statement) (tables : Tables) (name : List ℕ)
      → rows_of (next_of files statement tables) name ≡ rows_by name (change_of files statement tables) (rows_of tables name)
  rows_of-next statement tables name = rows_of-changed (change_of files statement tables) tables (has_table statement tables) name

  -- an object that a statement reads is after it as in any database that has the same of all that it reads
  pub read_framed : (statement : Statement) (x y : Tables) (object : Object) → SameAtAll x y (reads_of statement) → is_among object (reads_of statement) ≡ true
      → SameAt (next_of files statement x) (next_of files statement y) object
  read_framed statement x y (Def name) same read =
      def_of-next statement x name
      ∙ ap (λ change. def_by name change (def_of x name)) (change_framed statement x y same)
      ∙ ap (def_by name (change_of files statement y)) (SameAt-among x y (Def name) (reads_of statement) same read)
      ∙ sym (def_of-next statement y name)
  read_framed statement x y (Rows name) same read =
      rows_of-next statement x name
      ∙ ap (λ change. rows_by name change (rows_of x name)) (change_framed statement x y same)
      ∙ ap (rows_by name (change_of files statement y)) (SameAt-among x y (Rows name) (reads_of statement) same read)
      ∙ sym (rows_of-next statement y name)

  pub written_framed : (statement : Statement) (x y : Tables) (object : Object) → SameAtAll x y (reads_of statement) → is_among object (reads_of statement) ≡ true
      → is_among object (writes_of statement) ≡ true → SameAt (next_of files statement x) (next_of files statement y) object
  written_framed statement x y object same read written = read_framed statement x y object same read

  -- ---- what a change leaves as it is
  abbrev Keeps : Object → Change → Type 0
  Keeps (Def name) change = (before : Option TableDef) → before ≡ def_by name change before
  Keeps (Rows name) change = (before : List Row) → before ≡ rows_by name change before

  keeps_all : (object : Object) → Keeps object Unchanged
  keeps_all (Def name) = λ before. refl
  keeps_all (Rows name) = λ before. refl

  or_false : (t : Bool) → (t || false) ≡ t
  or_false true = refl
  or_false false = refl

  keeps_else : {A : Type 0} (t : Bool) (new before : A) → (t || false) ≡ false → before ≡ (if t then new else before)
  keeps_else true new before other = absurd (true≢false other)
  keeps_else false new before other = refl

  keeps_created : (object : Object) (name : List ℕ) (def : TableDef) → is_among object (Def name ∷ Rows name ∷ []) ≡ false → Keeps object (Creates name def)
  keeps_created (Def q) name def other = λ before. keeps_else (same_name q name) (Some def) before other
  keeps_created (Rows q) name def other = λ before. keeps_else (same_name q name) [] before other

  keeps_dropped : (object : Object) (name : List ℕ) → is_among object (Def name ∷ Rows name ∷ []) ≡ false → Keeps object (Drops name)
  keeps_dropped (Def q) name other = λ before. keeps_else (same_name q name) None before other
  keeps_dropped (Rows q) name other = λ before. keeps_else (same_name q name) [] before other

  keeps_altered : (object : Object) (name : List ℕ) (gone added : List Row) → is_among object (Rows name ∷ []) ≡ false → Keeps object (Alters name gone added)
  keeps_altered (Def q) name gone added other = λ before. refl
  keeps_altered (Rows q) name gone added other = λ before. keeps_else (same_name q name) (rows_changed gone added before) before other

  -- an object that a statement doesn't write is kept by its change
  change_keeps : (statement : Statement) (tables : Tables) (object : Object) → is_among object (writes_of statement) ≡ false → Keeps object (change_of files statement tables)
  change_keeps Begin tables object other = keeps_all object
  change_keeps Commit tables object other = keeps_all object
  change_keeps Rollback tables object other = keeps_all object
  change_keeps (Vacuum table) tables object other = keeps_all object
  change_keeps (Create spec) tables object other =
      of_create (Keeps object) spec.name (def_made spec) (create_refusal spec (def_of tables spec.name)) (rows_of tables) (keeps_all object) (keeps_created object spec.name (def_made spec) other)
  change_keeps (Drop table) tables object other =
      of_drop (Keeps object) table (def_of tables table) (rows_of tables) (keeps_all object) (keeps_dropped object table other)
  change_keeps (Lock tables) x object other = of_lock (Keeps object) (first_missing (def_of x) tables) (rows_of x) (keeps_all object)
  change_keeps (Insert table listed tuples) tables object other =
      of_insert (Keeps object) table listed tuples (def_of tables table) (rows_of tables) (keeps_all object) (λ there added. keeps_altered object table [] added other)
  change_keeps (Select query) tables object other = of_select (Keeps object) query (def_of tables query.table) (rows_of tables) (keeps_all object)

  pub unwritten_framed : (statement : Statement) (tables : Tables) (object : Object) → is_among object (writes_of statement) ≡ false → SameAt tables (next_of files statement tables) object
  unwritten_framed statement tables (Def name) other =
      change_keeps statement tables (Def name) other (def_of tables name) ∙ sym (def_of-next statement tables name)
  unwritten_framed statement tables (Rows name) other =
      change_keeps statement tables (Rows name) other (rows_of tables name) ∙ sym (rows_of-next statement tables name)

  -- ---- rows that are written and not read
  -- a change that takes no row from the table of a name, and neither makes nor drops it
  abbrev OnlyAdds : List ℕ → Change → Type 0
  OnlyAdds name change = (before : List Row) → rows_by name change before ≡ add_sorted row_cmp (added_to name change) before

  adds_either : (t : Bool) (added before : List Row) → (if t then add_sorted row_cmp added before else before) ≡ add_sorted row_cmp (if t then added else []) before
  adds_either true added before = refl
  adds_either false added before = refl

  -- a statement takes no row from a table whose rows it doesn't read
  change_adds : (statement : Statement) (tables : Tables) (name : List ℕ) → is_among (Rows name) (reads_of statement) ≡ false → OnlyAdds name (change_of files statement tables)
  change_adds Begin tables name unread = λ before. refl
  change_adds Commit tables name unread = λ before. refl
  change_adds Rollback tables name unread = λ before. refl
  change_adds (Vacuum table) tables name unread = λ before. refl
  change_adds (Create spec) tables name unread =
      of_create (OnlyAdds name) spec.name (def_made spec) (create_refusal spec (def_of tables spec.name)) (rows_of tables) (λ before. refl)
      (λ before. sym (keeps_else (same_name name spec.name) [] before unread))
  change_adds (Drop table) tables name unread =
      of_drop (OnlyAdds name) table (def_of tables table) (rows_of tables) (λ before. refl) (λ before. sym (keeps_else (same_name name table) [] before unread))
  change_adds (Lock tables) x name unread = of_lock (OnlyAdds name) (first_missing (def_of x) tables) (rows_of x) (λ before. refl)
  change_adds (Insert table listed tuples) tables name unread =
      of_insert (OnlyAdds name) table listed tuples (def_of tables table) (rows_of tables) (λ before. refl) (λ there added before. adds_either (same_name name table) added before)
  change_adds (Select query) tables name unread = of_select (OnlyAdds name) query (def_of tables query.table) (rows_of tables) (λ before. refl)

  pub unread_rows_framed : (statement : Statement) (tables : Tables) (name : List ℕ) → is_among (Rows name) (reads_of statement) ≡ false
      → rows_of (next_of files statement tables) name ≡ add_sorted row_cmp (added_to name (change_of files statement tables)) (rows_of tables name)
  unread_rows_framed statement tables name unread = rows_of-next statement tables name ∙ change_adds statement tables name unread (rows_of tables name)

  pub rows_added_framed : (statement : Statement) (tables : Tables) (name : List ℕ) → is_among (Rows name) (writes_of statement) ≡ true → is_among (Rows name) (reads_of statement) ≡ false
      → rows_of (next_of files statement tables) name ≡ add_sorted row_cmp (added_to name (change_of files statement tables)) (rows_of tables name)
  rows_added_framed statement tables name written unread = unread_rows_framed statement tables name unread

  -- ---- rows in ascending order
  pub ascending_framed : (statement : Statement) (tables : Tables) → AllAscending tables → AllAscending (next_of files statement tables)
  ascending_framed statement tables up name =
      subst IsAscending (sym (rows_of-next statement tables name)) (ascending_rows_by name (change_of files statement tables) (rows_of tables name) (up name))
