-- The stages of a statement. A stage makes rows or values for each item of a list, on all items before the next stage
-- begins, or has a fault: of all that are met in it the one with the least number. After the SQL standard (query
-- expressions); which of several faults is told is this project's own.
use Rattle.std.specs.Prelude.{true, false, List, [], ◌∷◌, ◌++◌, map, Option, Some, None, Result, Ok, Err}
use Rattle.dw_value.specs.declared.kinds.Fault.{Fault}
use Rattle.dw_value.specs.declared.values.Value.{Value}
use Rattle.dw_value.specs.declared.values.Value.TheVariants.{Truth}
use Rattle.dw_value.specs.declared.values.Row.{Row}
use Rattle.dw_value.specs.Values.{row_cmp}
use Rattle.dw_value.specs.Sorted.{sort}
use Rattle.dw_expr.specs.BoundTree.{BoundTree}
use Rattle.dw_expr.specs.Evaluation.{Outcome, least_fault, value}

-- what two parts of a stage come to: what is made in the one and then in the other, or the least fault
abbrev pub joined : {A : Type 0} → Result (List A) Fault → Result (List A) Fault → Result (List A) Fault
joined (Ok before) (Ok after) = Ok (before ++ after)
joined (Ok before) (Err fault) = Err fault
joined (Err fault) (Ok after) = Err fault
joined (Err fault) (Err other) = Err (least_fault fault other)

-- what a stage comes to in which `make` says what is made for an item
abbrev pub stage : {A B : Type 0} → (A → Result (List B) Fault) → List A → Result (List B) Fault
stage make [] = Ok []
stage make (item ∷ rest) = joined (make item) (stage make rest)

-- what comes of a stage that has no fault
abbrev pub and_then : {A B : Type 0} → (A → Result B Fault) → Result A Fault → Result B Fault
and_then next (Ok made) = next made
and_then next (Err fault) = Err fault

abbrev pub and_made : {A B : Type 0} → (A → B) → Result A Fault → Result B Fault
and_made make (Ok a) = Ok (make a)
and_made make (Err fault) = Err fault

-- one thing that is made for an item, as a list
abbrev pub only : {A : Type 0} → A → List A
only a = a ∷ []

abbrev pub single : {A : Type 0} → Result A Fault → Result (List A) Fault
single made = and_made only made

abbrev pub row_with : List Value → Row
row_with values = record { values = values }

-- the row of the values of these expressions, all of which are evaluated, on a row of these values
abbrev pub value_on : List Value → BoundTree → Result (List Value) Fault
value_on values expr = single (value values expr)

abbrev pub row_on : List BoundTree → List Value → Result Row Fault
row_on exprs values = and_made row_with (stage (value_on values) exprs)

-- items: for each row the row of the values of these expressions
abbrev pub items_of : List BoundTree → Row → Result (List Row) Fault
items_of exprs row = single (row_on exprs row.values)

abbrev pub item_rows : List BoundTree → List Row → Result (List Row) Fault
item_rows exprs rows = stage (items_of exprs) rows

-- WHERE: a row is kept where the condition is true, and not where it is false or unknown
abbrev pub where_true : Row → Value → List Row
where_true row (Truth true) = row ∷ []
where_true row other = []

abbrev pub kept_row : Option BoundTree → Row → Result (List Row) Fault
kept_row None row = Ok (row ∷ [])
kept_row (Some condition) row = and_made (where_true row) (value row.values condition)

abbrev pub kept_rows : Option BoundTree → List Row → Result (List Row) Fault
kept_rows condition rows = stage (kept_row condition) rows

-- the rows of tuples: their expressions are evaluated on a row without values
abbrev pub tuple_row : List BoundTree → Result (List Row) Fault
tuple_row tuple = single (row_on tuple [])

abbrev pub tuple_rows : List (List BoundTree) → Result (List Row) Fault
tuple_rows tuples = stage tuple_row tuples

-- a query of one source without groups: WHERE, then the items, then the order, which without keys is that of whole rows
abbrev pub selected_rows : Option BoundTree → List BoundTree → List Row → Result (List Row) Fault
selected_rows condition items rows =
    and_made (sort row_cmp) (and_then (item_rows items) (kept_rows condition rows))
