-- Queries and changes of rows, bound to the columns in sight, or what they are refused for: the first name that means
-- nothing, in the order in which they are written, and only after all names what doesn't go together. The order is this
-- project's own; names of columns and the rules on tuples follow the Amazon Redshift guide (SELECT list, INSERT, UPDATE).
use Rattle.std.specs.Prelude.{◌≡◌, ℕ, Bool, true, false, ◌==◌, List, [], ◌∷◌, ◌++◌, map, flat_map, length, position, slice_get, is_some, Option, Some, None, Result, Ok, Err, codes, if◌then◌else◌}
use Rattle.dw_value.specs.declared.kinds.Kind.{Kind}
use Rattle.dw_expr.specs.declared.faults.BindFault.{BindFault}
use Rattle.dw_expr.specs.declared.faults.BindFault.TheVariants.{Unknown, Clash}
use Rattle.dw_expr.specs.declared.sight.NamedColumn.{NamedColumn}
use Rattle.dw_expr.specs.declared.trees.Aggregate.{Aggregate}
use Rattle.dw_expr.specs.declared.trees.Aggregate.TheVariants.{Count, CountDistinct, Sum, Min, Max}
use Rattle.dw_expr.specs.declared.typed.Wanted.{Wanted}
use Rattle.dw_expr.specs.declared.typed.Wanted.TheVariants.{Anything, Condition, Assigned}
use Rattle.dw_expr.specs.Tree.{Tree, column, count_rows, aggregate}
use Rattle.dw_expr.specs.BoundTree as b
use Rattle.dw_expr.specs.BoundTree.{BoundTree}
use Rattle.dw_expr.specs.Sight.{Sight, RowColumn, row_columns, same_name}
use Rattle.dw_expr.specs.Binding.{bound}
use Rattle.dw_query.specs.declared.filling.Target.{Target}
use Rattle.dw_query.specs.declared.queries.Item.{Item}
use Rattle.dw_query.specs.declared.queries.Item.TheVariants.{All, One}
use Rattle.dw_query.specs.declared.queries.Query.{Query}
use Rattle.dw_query.specs.declared.queries.Assignment.{Assignment}
use Rattle.dw_query.specs.declared.queries.BoundQuery.{BoundQuery}
use Rattle.dw_query.specs.declared.queries.BoundTuples.{BoundTuples}
use Rattle.dw_query.specs.declared.queries.BoundChange.{BoundChange}

-- of two refusals a name that means nothing, the first one, and else a clash
abbrev pub first_refusal : BindFault → BindFault → BindFault
first_refusal (Unknown name) other = Unknown name
first_refusal fault (Unknown name) = Unknown name
first_refusal fault other = Clash

-- what is made of two parts, or the refusal of one or both
abbrev pub beside : {A B C : Type 0} → (A → B → C) → Result A BindFault → Result B BindFault → Result C BindFault
beside make (Ok a) (Ok b) = Ok (make a b)
beside make (Ok a) (Err fault) = Err fault
beside make (Err fault) (Ok b) = Err fault
beside make (Err fault) (Err other) = Err (first_refusal fault other)

-- some parts, and then others
abbrev pub after : {A : Type 0} → List A → List A → List A
after before more = before ++ more

abbrev pub appended : {A : Type 0} → Result (List A) BindFault → Result (List A) BindFault → Result (List A) BindFault
appended before more = beside after before more

-- the parts that `bind` makes of each, one after another
abbrev pub bound_parts : {A B : Type 0} → (A → Result (List B) BindFault) → List A → Result (List B) BindFault
bound_parts bind [] = Ok []
bound_parts bind (a ∷ rest) = appended (bind a) (bound_parts bind rest)

abbrev pub only_bound : {A : Type 0} → Result A BindFault → Result (List A) BindFault
only_bound (Ok a) = Ok (a ∷ [])
only_bound (Err fault) = Err fault

-- a condition, if there is one
abbrev pub some_bound : Result BoundTree BindFault → Result (Option BoundTree) BindFault
some_bound (Ok a) = Ok (Some a)
some_bound (Err fault) = Err fault

abbrev pub bound_condition : Sight → Option Tree → Result (Option BoundTree) BindFault
bound_condition sight None = Ok None
bound_condition sight (Some condition) = some_bound (bound sight false Condition condition)

-- a column of the joined row as an expression
abbrev pub column_itself : RowColumn → BoundTree
column_itself one = b.column one.source one.place one.kind

-- `*` needs a source
abbrev pub all_columns : Sight → Result (List BoundTree) BindFault
all_columns [] = Err Clash
all_columns (first ∷ rest) = Ok (map column_itself (row_columns (first ∷ rest)))

abbrev pub bound_item : Sight → Item → Result (List BoundTree) BindFault
bound_item sight All = all_columns sight
bound_item sight (One expr name) = only_bound (bound sight false Anything expr)

abbrev pub bound_items : Sight → List Item → Result (List BoundTree) BindFault
bound_items sight items = bound_parts (bound_item sight) items

-- the names of the answer's columns: the one that is written, or else the column's, or else the aggregate's
abbrev pub function_name : Aggregate → List ℕ
function_name Count = codes "count"
function_name CountDistinct = codes "count"
function_name Sum = codes "sum"
function_name Min = codes "min"
function_name Max = codes "max"

abbrev pub name_of : Tree → List ℕ
name_of (column source name) = name
name_of count_rows = codes "count"
name_of (aggregate function a) = function_name function
name_of other = codes "?column?"

abbrev pub column_name : RowColumn → List ℕ
column_name one = one.name

abbrev pub item_names : Sight → Item → List (List ℕ)
item_names sight All = map column_name (row_columns sight)
item_names sight (One expr (Some name)) = name ∷ []
item_names sight (One expr None) = name_of expr ∷ []

-- a query of these sources; there is no group yet, so no aggregate may stand in it
abbrev pub query_of : List (List ℕ) → List BoundTree → Option BoundTree → BoundQuery
query_of names items keep = record { names = names; items = items; keep = keep }

abbrev pub bound_query : Sight → Query → Result BoundQuery BindFault
bound_query sight query =
    beside (query_of (flat_map (item_names sight) query.items)) (bound_items sight query.items)
    (bound_condition sight query.keep)
