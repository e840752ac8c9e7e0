-- Tuples of INSERT and new values of UPDATE, bound to the columns that take them, or what they are refused for. A name
-- that is no column comes first, in the order in which they are written, and only then what doesn't go together: a tuple
-- of another width than its columns, a column that is listed or set twice, and kinds that can't be assigned. After the
-- Amazon Redshift guide (INSERT, UPDATE); the order of refusals is this project's own.
use Rattle.std.specs.Prelude.{ℕ, Bool, true, false, not, ◌==◌, List, [], ◌∷◌, ◌++◌, map, length, position, is_some, Option, Some, None, Result, Ok, Err, if◌then◌else◌}
use Rattle.std.specs.List.{list_any}
use Rattle.dw_value.specs.declared.kinds.Kind.{Kind}
use Rattle.dw_expr.specs.declared.faults.BindFault.{BindFault}
use Rattle.dw_expr.specs.declared.faults.BindFault.TheVariants.{Unknown, Clash}
use Rattle.dw_expr.specs.declared.sight.NamedColumn.{NamedColumn}
use Rattle.dw_expr.specs.declared.typed.Wanted.{Wanted}
use Rattle.dw_expr.specs.declared.typed.Wanted.TheVariants.{Anything, Assigned}
use Rattle.dw_expr.specs.Tree.{Tree}
use Rattle.dw_expr.specs.BoundTree.{BoundTree}
use Rattle.dw_expr.specs.Sight.{Sight, same_name}
use Rattle.dw_expr.specs.Binding.{bound}
use Rattle.dw_query.specs.declared.filling.Target.{Target}
use Rattle.dw_query.specs.declared.queries.Assignment.{Assignment}
use Rattle.dw_query.specs.declared.queries.BoundTuples.{BoundTuples}
use Rattle.dw_query.specs.declared.queries.BoundChange.{BoundChange}
use Rattle.dw_query.specs.Binding.{beside, appended, bound_parts, only_bound, bound_condition}

-- the column of a name
abbrev pub column_named : List NamedColumn → List ℕ → Option NamedColumn
column_named [] name = None
column_named (column ∷ rest) name = if same_name name column.name then Some column else column_named rest name

-- a name stands in a list twice
abbrev pub is_repeated : List (List ℕ) → Bool
is_repeated [] = false
is_repeated (name ∷ rest) = if list_any (same_name name) rest then true else is_repeated rest

-- a clash, where nothing else is wrong
abbrev pub clash_if : {A : Type 0} → Bool → Result A BindFault → Result A BindFault
clash_if false outcome = outcome
clash_if true (Ok a) = Err Clash
clash_if true (Err fault) = Err fault

-- the first of these names that is no column
abbrev pub first_missing : List NamedColumn → List (List ℕ) → Option (List ℕ)
first_missing columns [] = None
first_missing columns (name ∷ rest) = if is_some (column_named columns name) then first_missing columns rest else Some name

abbrev pub unless_missing : {A : Type 0} → Option (List ℕ) → Result A BindFault → Result A BindFault
unless_missing None outcome = outcome
unless_missing (Some name) outcome = Err (Unknown name)

-- the columns that a tuple is for, by name: those that are listed, and without a list all in order
abbrev pub name_in : NamedColumn → List ℕ
name_in column = column.name

abbrev pub names_for : List NamedColumn → List (List ℕ) → List (List ℕ)
names_for columns [] = map name_in columns
names_for columns (name ∷ rest) = name ∷ rest

-- a table's column, where the columns of these names are given something
abbrev pub target_in : List (List ℕ) → NamedColumn → Target
target_in names column = record { kind = column.kind; place = position (same_name column.name) names }

abbrev pub targets_in : List (List ℕ) → List NamedColumn → List Target
targets_in names columns = map (target_in names) columns

-- what an expression for the column of a name has to be
abbrev pub wanted_by : Option NamedColumn → Wanted
wanted_by None = Anything
wanted_by (Some column) = Assigned column.kind

abbrev pub wanted_for : List NamedColumn → List ℕ → Wanted
wanted_for columns name = wanted_by (column_named columns name)

-- a tuple's expressions, which know no column; those past the columns are wanted for nothing
abbrev pub bound_values : List Wanted → List Tree → Result (List BoundTree) BindFault
bound_values wanted [] = Ok []
bound_values [] (expr ∷ rest) = appended (only_bound (bound [] false Anything expr)) (bound_values [] rest)
bound_values (one ∷ wanted) (expr ∷ rest) = appended (only_bound (bound [] false one expr)) (bound_values wanted rest)

abbrev pub bound_tuple : List Wanted → List Tree → Result (List BoundTree) BindFault
bound_tuple wanted tuple = clash_if (not (length tuple == length wanted)) (bound_values wanted tuple)

abbrev pub a_tuple : List Wanted → List Tree → Result (List (List BoundTree)) BindFault
a_tuple wanted tuple = only_bound (bound_tuple wanted tuple)

abbrev pub tuples_of : List Target → Result (List (List BoundTree)) BindFault → Result BoundTuples BindFault
tuples_of targets (Ok tuples) = Ok (record { targets = targets; tuples = tuples })
tuples_of targets (Err fault) = Err fault

-- the tuples of an INSERT into a table of these columns, of which these are listed
abbrev pub bound_tuples : List NamedColumn → List (List ℕ) → List (List Tree) → Result BoundTuples BindFault
bound_tuples columns listed tuples =
    unless_missing (first_missing columns listed) (clash_if (is_repeated listed)
    (tuples_of (targets_in (names_for columns listed) columns)
    (bound_parts (a_tuple (map (wanted_for columns) (names_for columns listed))) tuples)))

-- a new value: its column first, and then the names in it
abbrev pub bound_set : Sight → Assignment → Option NamedColumn → Result BoundTree BindFault
bound_set sight assignment None = Err (Unknown assignment.column)
bound_set sight assignment (Some column) = bound sight false (Assigned column.kind) assignment.value

abbrev pub a_set : Sight → List NamedColumn → Assignment → Result (List BoundTree) BindFault
a_set sight columns assignment = only_bound (bound_set sight assignment (column_named columns assignment.column))

abbrev pub set_name : Assignment → List ℕ
set_name assignment = assignment.column

abbrev pub change_with : List Target → List BoundTree → Option BoundTree → BoundChange
change_with targets sets keep = record { targets = targets; sets = sets; keep = keep }

-- an UPDATE of a table of these columns, which are the only ones in sight
abbrev pub bound_change : Sight → List NamedColumn → List Assignment → Option Tree → Result BoundChange BindFault
bound_change sight columns sets keep =
    clash_if (is_repeated (map set_name sets))
    (beside (change_with (targets_in (map set_name sets) columns)) (bound_parts (a_set sight columns) sets)
    (bound_condition sight keep))
