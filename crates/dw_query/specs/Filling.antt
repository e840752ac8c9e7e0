-- The rows that a statement puts into a table. A column takes what it is given, as an assignment makes it, and else what
-- stands for it: its default where a row is inserted, its old value where a row is changed. After the SQL standard
-- (store assignment); a value that doesn't fit is one outside its kind.
use Rattle.std.specs.Prelude.{ℕ, ◌+◌, List, [], ◌∷◌, zip, Option, Some, None, option_map, unwrap_or, slice_get, Result, Ok, Err}
use Rattle.dw_value.specs.declared.kinds.Kind.{Kind}
use Rattle.dw_value.specs.declared.kinds.Kind.TheVariants.{Int}
use Rattle.dw_value.specs.declared.kinds.Fault.{Fault}
use Rattle.dw_value.specs.declared.values.Value.{Value}
use Rattle.dw_value.specs.declared.values.Value.TheVariants.{Null}
use Rattle.dw_value.specs.declared.values.Row.{Row}
use Rattle.dw_value.specs.Values.{row_cmp}
use Rattle.dw_value.specs.Sorted.{sort}
use Rattle.dw_value.specs.Assignment.{admitted}
use Rattle.dw_expr.specs.BoundTree.{BoundTree, kind_of}
use Rattle.dw_expr.specs.Casting.{fitting}
use Rattle.dw_expr.specs.Evaluation.{Outcome}
use Rattle.dw_query.specs.declared.filling.Target.{Target}
use Rattle.dw_query.specs.Stages.{joined, stage, single, and_then, and_made, row_with, item_rows, kept_rows, tuple_rows}

-- the kind of the expression at a place, and the value there
abbrev pub given_kind : List BoundTree → ℕ → Kind
given_kind exprs place = unwrap_or (option_map kind_of (slice_get exprs place)) Int

abbrev pub given_value : List Value → ℕ → Value
given_value values place = unwrap_or (slice_get values place) Null

-- What a column takes, given the expressions and their values: its own of them, assigned to its kind, or else what stands
-- for it.
abbrev pub taken : List BoundTree → List Value → Value → Kind → Option ℕ → Outcome
taken exprs values other kind None = Ok other
taken exprs values other kind (Some place) =
    fitting (admitted kind (given_value values place) (given_kind exprs place))

-- the values of a row of these columns, the first of which has this place in the table
abbrev pub filled_from : ℕ → List Target → List BoundTree → (values others : List Value) → Result (List Value) Fault
filled_from column [] exprs values others = Ok []
filled_from column (target ∷ rest) exprs values others =
    joined (single (taken exprs values (given_value others column) target.kind target.place))
    (filled_from (column + 1) rest exprs values others)

-- the row of these columns
abbrev pub filled_row : List Target → List BoundTree → (values others : List Value) → Result Row Fault
filled_row targets exprs values others = and_made row_with (filled_from 0 targets exprs values others)

-- INSERT: each tuple with its row of values, beside the defaults
abbrev pub filled_tuple : List Target → List Value → List BoundTree × Row → Result (List Row) Fault
filled_tuple targets defaults tuple = single (filled_row targets tuple.0 tuple.1.values defaults)

abbrev pub filled_tuples : List Target → List Value → List (List BoundTree) → List Row → Result (List Row) Fault
filled_tuples targets defaults tuples rows = stage (filled_tuple targets defaults) (zip tuples rows)

-- the rows that INSERT of tuples adds, in order: first all tuples, then the assignments
abbrev pub inserted_rows : List Target → List Value → List (List BoundTree) → Result (List Row) Fault
inserted_rows targets defaults tuples = and_then (filled_tuples targets defaults tuples) (tuple_rows tuples)

-- UPDATE: each old row with its row of new values
abbrev pub changed_row : List Target → List BoundTree → Row × Row → Result (List Row) Fault
changed_row targets sets pair = single (filled_row targets sets pair.1.values pair.0.values)

abbrev pub changed_rows : List Target → List BoundTree → List Row → List Row → Result (List Row) Fault
changed_rows targets sets rows values = stage (changed_row targets sets) (zip rows values)

-- the rows that come in the place of these, in ascending order: first all new values, which see the old rows alone, then
-- the assignments
abbrev pub rows_after : List Target → List BoundTree → List Row → Result (List Row) Fault
rows_after targets sets rows =
    and_made (sort row_cmp) (and_then (changed_rows targets sets rows) (item_rows sets rows))
