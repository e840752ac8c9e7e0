-- The columns that an expression may name, and which of them a name means. After the SQL standard (column references):
-- a name means a column where it is the name of exactly one.
use Rattle.std.specs.Prelude.{ℕ, ◌+◌, Bool, true, ◌&&◌, List, [], ◌∷◌, ◌++◌, length, nat_eq, filter, Option, Some, None, is_some, if◌then◌else◌}
use Rattle.std.specs.Cmp.Lexicographic.{pointwise}
use Rattle.dw_value.specs.declared.kinds.Kind.{Kind}
use Rattle.dw_expr.specs.declared.sight.NamedColumn.{NamedColumn}
use Rattle.dw_expr.specs.declared.sight.NamedSource.{NamedSource}
use Rattle.dw_expr.specs.Tree.{Tree, Trees, Branches, column, literal, negative, arithmetic, joined, compared, both, either, opposite, is_null, between, in_list, like, choice, choice_else, cast, coalesce, count_rows, aggregate, none, more, no_branch, branch}

-- the sources in sight, from left to right: those of a query, those up to a join, a table that is changed, or none
abbrev pub Sight : Type 0
Sight = List NamedSource

-- a column of a joined row: the number and the alias of its source, its place in the row, its name and its kind
pub record RowColumn : Type 0 where
  pub source : ℕ
  pub alias : List ℕ
  pub place : ℕ
  pub name : List ℕ
  pub kind : Kind

-- the columns of the source of this number, of which the first has this place
abbrev pub columns_from : (source : ℕ) → (alias : List ℕ) → (place : ℕ) → List NamedColumn → List RowColumn
columns_from source alias place [] = []
columns_from source alias place (named ∷ rest) =
    record { source = source; alias = alias; place = place; name = named.name; kind = named.kind }
    ∷ columns_from source alias (place + 1) rest

-- the columns of sources, of which the first has this number, and its first column this place
abbrev pub columns_after : (source place : ℕ) → Sight → List RowColumn
columns_after source place [] = []
columns_after source place (first ∷ rest) =
    columns_from source first.alias place first.columns
    ++ columns_after (source + 1) (place + length first.columns) rest

-- the columns of a joined row: those of all sources, one after another
abbrev pub row_columns : Sight → List RowColumn
row_columns sight = columns_after 0 0 sight

-- a column as it is written: its name, after its source's where that is written
pub record Reference : Type 0 where
  pub source : Option (List ℕ)
  pub name : List ℕ

abbrev pub same_name : List ℕ → List ℕ → Bool
same_name a b = pointwise nat_eq a b

abbrev pub is_of : Option (List ℕ) → List ℕ → Bool
is_of None alias = true
is_of (Some source) alias = same_name source alias

-- whether a reference may mean a column
abbrev pub may_mean : Reference → RowColumn → Bool
may_mean reference candidate = same_name reference.name candidate.name && is_of reference.source candidate.alias

-- the item of a list that has just one
abbrev pub only_one : List RowColumn → Option RowColumn
only_one [] = None
only_one (one ∷ []) = Some one
only_one (one ∷ other ∷ rest) = None

-- the column that a reference means
abbrev pub meant : Sight → Reference → Option RowColumn
meant sight reference = only_one (filter (may_mean reference) (row_columns sight))

-- the name of the first reference that means no column, since there is none of it or more than one
abbrev pub first_unknown : Sight → List Reference → Option (List ℕ)
first_unknown sight [] = None
first_unknown sight (reference ∷ rest) =
    if is_some (meant sight reference) then first_unknown sight rest else Some reference.name

-- the columns that an expression names, in text order
abbrev mutual
  pub references : Tree → List Reference
  references (column source name) = record { source = source; name = name } ∷ []
  references (literal written) = []
  references (negative a) = references a
  references (arithmetic op a b) = references a ++ references b
  references (joined a b) = references a ++ references b
  references (compared comparison a b) = references a ++ references b
  references (both a b) = references a ++ references b
  references (either a b) = references a ++ references b
  references (opposite a) = references a
  references (is_null negated a) = references a
  references (between negated a low high) = references a ++ references low ++ references high
  references (in_list negated a list) = references a ++ references_all list
  references (like negated a pattern) = references a ++ references pattern
  references (choice branches) = references_in branches
  references (choice_else branches other) = references_in branches ++ references other
  references (cast a kind) = references a
  references (coalesce list) = references_all list
  references count_rows = []
  references (aggregate function a) = references a

  pub references_all : Trees → List Reference
  references_all none = []
  references_all (more a rest) = references a ++ references_all rest

  pub references_in : Branches → List Reference
  references_in no_branch = []
  references_in (branch condition result rest) = references condition ++ references result ++ references_in rest
