-- A statement bound to the definitions of a database, or its first refusal, in this order: unknown tables; then a name
-- that is there already; then unknown columns, in the order in which the statement writes them; then what doesn't go
-- together. The order is this project's own.
use Rattle.std.specs.Prelude.{ℕ, List, [], ◌∷◌, Option, Some, None, is_some, Result, Ok, Err, if◌then◌else◌}
use Rattle.std.specs.Result.{result_err}
use Rattle.dw_model.specs.declared.refusals.Refusal.{Refusal}
use Rattle.dw_model.specs.declared.refusals.Refusal.TheVariants.{Syntax, Unknown}
use Rattle.dw_model.specs.declared.statements.Literal.{Literal}
use Rattle.dw_model.specs.declared.statements.Statement.{Statement}
use Rattle.dw_model.specs.declared.statements.Statement.TheVariants as statements
use Rattle.dw_model.specs.declared.statements.Query.{Query}
use Rattle.dw_model.specs.declared.tables.Column.{Column}
use Rattle.dw_model.specs.declared.tables.TableDef.{TableDef}
use Rattle.dw_model.specs.Binding.{Definitions, columns_refusal}
use Rattle.dw_model.specs.Creating.{create_refusal, def_made}
use Rattle.dw_model.specs.Inserting.{insert_refusal, names_given}
use Rattle.dw_model.specs.Refusals.{unless_refused}

-- A statement whose names are looked up: it holds what it needs of the definitions. `names` are the columns that the
-- tuples of an INSERT are for.
pub data BoundStatement : Type 0 where
  Create : (table : List ℕ) (def : TableDef) → BoundStatement
  Drop : (table : List ℕ) → BoundStatement
  Lock : BoundStatement
  Insert : (table : List ℕ) (columns : List Column) (names : List (List ℕ)) (tuples : List (List Literal)) → BoundStatement
  Select : (columns : List Column) (query : Query) → BoundStatement

-- a table that goes, where it is there
abbrev pub bound_drop : List ℕ → Option TableDef → Result BoundStatement Refusal
bound_drop table None = Err (Unknown table)
bound_drop table (Some def) = Ok (Drop table)

-- the first of these names that is no table
abbrev pub first_missing : Definitions → List (List ℕ) → Option (List ℕ)
first_missing definitions [] = None
first_missing definitions (table ∷ tables) =
    if is_some (definitions table) then first_missing definitions tables else Some table

-- tables that are locked, where all of them are there
abbrev pub bound_lock : Option (List ℕ) → Result BoundStatement Refusal
bound_lock None = Ok Lock
bound_lock (Some table) = Err (Unknown table)

-- tuples for a table, bound to its columns
abbrev pub bound_insert : List ℕ → List (List ℕ) → List (List Literal) → Option TableDef → Result BoundStatement Refusal
bound_insert table listed tuples None = Err (Unknown table)
bound_insert table listed tuples (Some def) =
    unless_refused (insert_refusal def.columns listed tuples)
    (Ok (Insert table def.columns (names_given def.columns listed) tuples))

-- a query, bound to its table's columns
abbrev pub bound_query : Query → Option TableDef → Result BoundStatement Refusal
bound_query query None = Err (Unknown query.table)
bound_query query (Some def) = unless_refused (columns_refusal def.columns query) (Ok (Select def.columns query))

-- The statement bound to these definitions, or its refusal. Those that begin and end blocks, and VACUUM, are not for a
-- database: what becomes of them is a session's matter, and here they are refused.
abbrev pub bound : Definitions → Statement → Result BoundStatement Refusal
bound definitions statements.Begin = Err (Syntax 0)
bound definitions statements.Commit = Err (Syntax 0)
bound definitions statements.Rollback = Err (Syntax 0)
bound definitions (statements.Vacuum table) = Err (Syntax 0)
bound definitions (statements.Create spec) =
    unless_refused (create_refusal spec (definitions spec.name)) (Ok (Create spec.name (def_made spec)))
bound definitions (statements.Drop table) = bound_drop table (definitions table)
bound definitions (statements.Lock tables) = bound_lock (first_missing definitions tables)
bound definitions (statements.Insert table columns tuples) = bound_insert table columns tuples (definitions table)
bound definitions (statements.Select query) = bound_query query (definitions query.table)

-- the refusal of a statement that can't be bound to these definitions; none where it is bound
abbrev pub bound_refusal : Statement → Definitions → Option Refusal
bound_refusal statement definitions = result_err (bound definitions statement)
