-- Columns by their names: what a table of names holds of a reference.
use Rattle.std.specs.Prelude.{◌≡◌, List, ℕ, Option, Some, None, String, if◌then◌else◌}
use Rattle.std.specs.Option.{unwrap_or}
use Rattle.dw_expr.specs.Sight.{RowColumn, Reference, same_name}
use Rattle.indexmap.specs.IndexMap.{IndexMap, get_by_text}
use Rattle.dw_bind.specs.declared.hits.Hits.{Hits}
use Rattle.dw_bind.specs.declared.hits.Hits.TheVariants.{Nothing}
use Rattle.dw_bind.specs.declared.names.NameTable.{NameTable}
use Rattle.dw_bind.specs.Hits.{hits}

module _ {Y S : Type 0} where
  -- what a name means: nothing where no column has it
  abbrev pub named : IndexMap (String Y) Hits S → List ℕ → Hits
  named names name = unwrap_or (get_by_text names name) Nothing

  -- what a name means of the columns of some sources, or of none
  abbrev pub named_of : Option (IndexMap (String Y) Hits S) → List ℕ → Hits
  named_of None name = Nothing
  named_of (Some names) name = named names name

-- what is held of another alias, once an alias is taken out
abbrev pub without : {X : Type 0} → (alias other : List ℕ) → Option X → Option X
without alias other held = if same_name alias other then None else held

-- what a table holds of a reference: of all columns, or of those of the sources of its alias
abbrev pub held_after : NameTable → Option (List ℕ) → List ℕ → Hits
held_after table None name = named table.every name
held_after table (Some source) name = named_of (get_by_text table.of_each source) name

abbrev pub held : NameTable → Reference → Hits
held table reference = held_after table reference.source reference.name

-- a table of these columns holds of each reference those that it may mean
abbrev pub IsTableOf : NameTable → List RowColumn → Type 0
IsTableOf table rows = (reference : Reference) → held table reference ≡ hits reference rows
