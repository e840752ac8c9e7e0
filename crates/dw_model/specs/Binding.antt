-- Names, looked up in the definitions of a database, and what a query is refused for. The order of refusals is this
-- project's own.
use Rattle.std.specs.Prelude.{ℕ, Bool, true, false, List, [], ◌∷◌, ◌++◌, nat_eq, Option, Some, None, is_some, if◌then◌else◌}
use Rattle.std.specs.Cmp.Lexicographic.{pointwise}
use Rattle.std.specs.List.{list_any}
use Rattle.dw_model.specs.declared.refusals.Refusal.{Refusal}
use Rattle.dw_model.specs.declared.refusals.Refusal.TheVariants.{Unknown, Clash}
use Rattle.dw_model.specs.declared.statements.Literal.{Literal}
use Rattle.dw_model.specs.declared.statements.Query.{Query}
use Rattle.dw_model.specs.declared.statements.Test.{Test}
use Rattle.dw_model.specs.declared.tables.Column.{Column}
use Rattle.dw_model.specs.declared.tables.TableDef.{TableDef}
use Rattle.dw_model.specs.Literals.{compared_with}

-- the definition of the table of each name, where there is one
abbrev pub Definitions : Type 0
Definitions = List ℕ → Option TableDef

-- two names are the same where their bytes are
abbrev pub same_name : List ℕ → List ℕ → Bool
same_name a b = pointwise nat_eq a b

-- a name is one of these
abbrev pub is_name_in : List (List ℕ) → List ℕ → Bool
is_name_in names name = list_any (same_name name) names

-- the first name that stands in the list a second time, where `seen` stand before it
abbrev pub repeated_after : List (List ℕ) → List (List ℕ) → Option (List ℕ)
repeated_after seen [] = None
repeated_after seen (name ∷ names) =
    if is_name_in seen name then Some name else repeated_after (seen ++ name ∷ []) names

-- the column of a name among these
abbrev pub column_of : List Column → List ℕ → Option Column
column_of [] name = None
column_of (column ∷ columns) name = if same_name column.name name then Some column else column_of columns name

-- the first of these names that is no column
abbrev pub first_unknown : List Column → List (List ℕ) → Option (List ℕ)
first_unknown columns [] = None
first_unknown columns (name ∷ names) =
    if is_some (column_of columns name) then first_unknown columns names else Some name

-- a refusal where a name is at fault
abbrev pub refused_name : (List ℕ → Refusal) → Option (List ℕ) → Option Refusal
refused_name refusal None = None
refused_name refusal (Some name) = Some (refusal name)

-- the first of two refusals
abbrev pub first_refusal : Option Refusal → Option Refusal → Option Refusal
first_refusal None second = second
first_refusal (Some refusal) second = Some refusal

-- the columns that a query names, in text order
abbrev pub tested_column : Option Test → List (List ℕ)
tested_column None = []
tested_column (Some test) = test.column ∷ []

abbrev pub names_in : Query → List (List ℕ)
names_in query = query.items ++ tested_column query.keep

-- a literal may stand beside this column in a comparison
abbrev pub column_goes_with : Option Column → Literal → Bool
column_goes_with None literal = false
column_goes_with (Some column) literal = is_some (compared_with column.kind literal)

-- the test's literal goes with the kind of its column
abbrev pub test_goes_with : List Column → Option Test → Bool
test_goes_with columns None = true
test_goes_with columns (Some test) = column_goes_with (column_of columns test.column) test.literal

-- what a query's test is refused for, once its columns are known
abbrev pub test_refusal : List Column → Option Test → Option Refusal
test_refusal columns test = if test_goes_with columns test then None else Some Clash

-- what a query is refused for, once its table is known
abbrev pub columns_refusal : List Column → Query → Option Refusal
columns_refusal columns query =
    first_refusal (refused_name Unknown (first_unknown columns (names_in query))) (test_refusal columns query.keep)
