-- What a commit leaves, object by object.
use Rattle.std.proofs.Common.{◌≡◌, ℕ, Bool, true, false, cond, List, [], ◌∷◌, refl, sym, ap, ◌∙◌}
use Rattle.std.specs.Prelude.{Option, Some, None, ◌||◌}
use Rattle.std.specs.List.{list_any}
use Rattle.std.specs.FinMap as map_of
use Rattle.std.specs.Ordering.{nat_cmp, eq_by_cmp}
use Rattle.std.specs.Cmp.Lexicographic.{slice_cmp, nat_list_cmp_total}
use Rattle.std.proofs.lemmas.Map.Text.{is_eq-slice_cmp}
use Rattle.dw_value.specs.declared.values.Row.{Row}
use Rattle.dw_model.specs.declared.objects.Object.{Object}
use Rattle.dw_model.specs.declared.objects.Object.TheVariants.{Def, Rows}
use Rattle.dw_model.specs.declared.tables.Table.{Table}
use Rattle.dw_model.specs.declared.tables.TableDef.{TableDef}
use Rattle.dw_model.specs.Databases.{Tables, def_of, rows_of, rows_in}
use Rattle.dw_model.specs.Binding.{same_name}
use Rattle.dw_model.specs.Objects.{is_among, table_of}
use Rattle.dw_model.proofs.DatabaseLemmas.{names_same, def_in}
use Rattle.dw_journal.specs.Contents.{Effect, def_after, rows_after, with_table, with_tables, after_commit}

tied : (a b : List ℕ) (t : Bool) → same_name a b ≡ t → eq_by_cmp (slice_cmp nat_cmp) a b ≡ t
tied a b t e = is_eq-slice_cmp a b ∙ e

or_none : (a b : Bool) → (a || b) ≡ false → (a ≡ false) × (b ≡ false)
or_none true b e = cc
or_none false b e = (refl, e)

-- a table of this definition and these rows, where there is a definition
abbrev pub table_made : Option TableDef → List Row → Option Table
table_made None rows = None
table_made (Some def) rows = Some (record { def = def; rows = rows })

-- whether one of the objects is of a table
abbrev is_named : List ℕ → List Object → Bool
is_named name objects = list_any (λ object. same_name name (table_of object)) objects

got_table_by : (name q : List ℕ) (def : Option TableDef) (rows : List Row) (tables : Tables) (same : Bool) → same_name q name ≡ same
    → map_of.get (with_table name def rows tables) q ≡ cond same (table_made def rows) (map_of.get tables q)
got_table_by name q None rows tables same is =
    map_of.get-remove nat_list_cmp_total tables name q ∙ ap (λ b. cond b None (map_of.get tables q)) (tied q name same is)
got_table_by name q (Some def) rows tables same is =
    map_of.get-insert nat_list_cmp_total tables name (record { def = def; rows = rows }) q
    ∙ ap (λ b. cond b (Some (record { def = def; rows = rows })) (map_of.get tables q)) (tied q name same is)

not_named : (q : List ℕ) (objects : List Object) → is_named q objects ≡ false → (is_among (Def q) objects ≡ false) × (is_among (Rows q) objects ≡ false)
not_named q [] none = (refl, refl)
not_named q (Def name ∷ objects) none =
    let parts = or_none (same_name q name) (is_named q objects) none in
    let rest = not_named q objects parts.1 in
    (rw parts.0 rest.0, rest.1)
not_named q (Rows name ∷ objects) none =
    let parts = or_none (same_name q name) (is_named q objects) none in
    let rest = not_named q objects parts.1 in
    (rest.0, rw parts.0 rest.1)

made_def : (def : Option TableDef) (rows : List Row) → def_in (table_made def rows) ≡ def
made_def None rows = refl
made_def (Some def) rows = refl

made_rows : (def : Option TableDef) (rows : List Row) → (def ≡ None → rows ≡ []) → rows_in (table_made def rows) ≡ rows
made_rows None rows none = sym (none refl)
made_rows (Some def) rows none = refl

module _ (effect : Effect) (before : Tables) where
  abbrev table_after : List ℕ → Option Table
  table_after name = table_made (def_after effect before name) (rows_after effect before name)

  got_after_by : (q : List ℕ) (object : Object) (objects : List Object) (tables : Tables) (same : Bool) → same_name q (table_of object) ≡ same
      → map_of.get (with_tables effect before objects tables) q ≡ cond (is_named q objects) (table_after q) (map_of.get tables q)
      → map_of.get (with_tables effect before (object ∷ objects) tables) q ≡ cond (same || is_named q objects) (table_after q) (map_of.get tables q)
  got_after_by q object objects tables true is further =
      let name = table_of object in
      let q_is = names_same q name is in
      got_table_by name q (def_after effect before name) (rows_after effect before name) (with_tables effect before objects tables) true is
      ∙ ap table_after (sym q_is)
  got_after_by q object objects tables false is further =
      let name = table_of object in
      got_table_by name q (def_after effect before name) (rows_after effect before name) (with_tables effect before objects tables) false is
      ∙ further

  -- the tables of these objects are as the transaction leaves them, and all others stay
  got_after : (q : List ℕ) (objects : List Object) (tables : Tables)
      → map_of.get (with_tables effect before objects tables) q ≡ cond (is_named q objects) (table_after q) (map_of.get tables q)
  got_after q [] tables = refl
  got_after q (object ∷ objects) tables =
      let step = got_after_by q object objects tables (same_name q (table_of object)) refl (got_after q objects tables) in
      step

  def_by : (q : List ℕ) (named : Bool) → is_named q effect.taken.writes ≡ named
      → def_in (cond named (table_after q) (map_of.get before q)) ≡ def_after effect before q
  def_by q true is = made_def (def_after effect before q) (rows_after effect before q)
  def_by q false is = let unwritten = (not_named q effect.taken.writes is).0 in rw unwritten refl

  -- the definition of a table after the commit
  pub def_committed : (q : List ℕ) → def_of (after_commit effect before) q ≡ def_after effect before q
  def_committed q = ap def_in (got_after q effect.taken.writes before) ∙ def_by q (is_named q effect.taken.writes) refl

  rows_by : (q : List ℕ) (named : Bool) → is_named q effect.taken.writes ≡ named
      → (def_after effect before q ≡ None → rows_after effect before q ≡ [])
      → rows_in (cond named (table_after q) (map_of.get before q)) ≡ rows_after effect before q
  rows_by q true is none = made_rows (def_after effect before q) (rows_after effect before q) none
  rows_by q false is none = let unwritten = (not_named q effect.taken.writes is).1 in rw unwritten refl

  -- the rows of a table after the commit; a table that isn't there has none
  pub rows_committed : (q : List ℕ) → (def_after effect before q ≡ None → rows_after effect before q ≡ [])
      → rows_of (after_commit effect before) q ≡ rows_after effect before q
  rows_committed q none = ap rows_in (got_after q effect.taken.writes before) ∙ rows_by q (is_named q effect.taken.writes) refl none
