-- Which objects a statement reads and writes, in ascending order: by the table's name, definition before rows. They
-- depend on the statement alone, and stand also where no row is met.
use Rattle.std.specs.Prelude.{◌≡◌, ℕ, Bool, true, false, ◌||◌, List, [], ◌∷◌, map, if◌then◌else◌}
use Rattle.std.specs.Cmp.Lexicographic.{slice_cmp}
use Rattle.std.specs.List.{list_any}
use Rattle.std.specs.Ordering.{nat_cmp, is_lt}
use Rattle.dw_model.specs.declared.statements.Statement.{Statement}
use Rattle.dw_model.specs.declared.statements.Statement.TheVariants.{Begin, Commit, Rollback, Vacuum, Create, Drop, Lock, Insert, Select}
use Rattle.dw_model.specs.declared.objects.Object.{Object}
use Rattle.dw_model.specs.declared.objects.Object.TheVariants.{Def, Rows}
use Rattle.dw_model.specs.Databases.{Tables, def_of, rows_of}
use Rattle.dw_model.specs.Binding.{same_name}

-- two objects are the same
abbrev pub same_object : Object → Object → Bool
same_object (Def a) (Def b) = same_name a b
same_object (Def a) (Rows b) = false
same_object (Rows a) (Def b) = false
same_object (Rows a) (Rows b) = same_name a b

-- the object is one of these
abbrev pub is_among : Object → List Object → Bool
is_among object objects = list_any (same_object object) objects

-- the table of an object
abbrev pub table_of : Object → List ℕ
table_of (Def name) = name
table_of (Rows name) = name

-- a name comes before another by its bytes
abbrev pub name_before : List ℕ → List ℕ → Bool
name_before a b = is_lt (slice_cmp nat_cmp a b)

-- objects are ordered by the table's name, the definition before the rows
abbrev pub object_before : Object → Object → Bool
object_before (Def a) (Def b) = name_before a b
object_before (Def a) (Rows b) = name_before a b || same_name a b
object_before (Rows a) (Def b) = name_before a b
object_before (Rows a) (Rows b) = name_before a b

-- each object is before the next, so none stands twice
abbrev pub IsAscendingObjects : List Object → Type 0
IsAscendingObjects [] = Unit {0}
IsAscendingObjects (object ∷ []) = Unit {0}
IsAscendingObjects (object ∷ next ∷ objects) = (object_before object next ≡ true) × IsAscendingObjects (next ∷ objects)

-- an ascending list with this object at its place, once
abbrev pub with_object : Object → List Object → List Object
with_object object [] = object ∷ []
with_object object (first ∷ rest) =
    if object_before first object then first ∷ with_object object rest else
    (if same_object object first then first ∷ rest else object ∷ first ∷ rest)

-- an ascending list with all these objects, each once
abbrev pub with_objects : List Object → List Object → List Object
with_objects [] set = set
with_objects (object ∷ more) set = with_object object (with_objects more set)

-- the definitions of the tables of these names
abbrev pub defs_of : List (List ℕ) → List Object
defs_of tables = map (λ table. Def table) tables

-- the objects that a statement reads; those that begin and end blocks, and VACUUM, read and write none
abbrev pub reads_of : Statement → List Object
reads_of Begin = []
reads_of Commit = []
reads_of Rollback = []
reads_of (Vacuum table) = []
reads_of (Create spec) = Def spec.name ∷ Rows spec.name ∷ []
reads_of (Drop table) = Def table ∷ Rows table ∷ []
reads_of (Lock tables) = with_objects (defs_of tables) []
reads_of (Insert table columns rows) = Def table ∷ []
reads_of (Select query) = Def query.table ∷ Rows query.table ∷ []

-- the objects that a statement writes
abbrev pub writes_of : Statement → List Object
writes_of Begin = []
writes_of Commit = []
writes_of Rollback = []
writes_of (Vacuum table) = []
writes_of (Create spec) = Def spec.name ∷ Rows spec.name ∷ []
writes_of (Drop table) = Def table ∷ Rows table ∷ []
writes_of (Lock tables) = []
writes_of (Insert table columns rows) = Rows table ∷ []
writes_of (Select query) = []

-- two databases have the same object
abbrev pub SameAt : Tables → Tables → Object → Type 0
SameAt a b (Def name) = def_of a name ≡ def_of b name
SameAt a b (Rows name) = rows_of a name ≡ rows_of b name

-- and the same of each of these objects
abbrev pub SameAtAll : Tables → Tables → List Object → Type 0
SameAtAll a b [] = Unit {0}
SameAtAll a b (object ∷ objects) = SameAt a b object × SameAtAll a b objects
