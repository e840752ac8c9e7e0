-- A statement run alone on a database: its answer with the next database, or its refusal. Its names and kinds are
-- bound to the definitions alone, and what is bound is carried out on the rows and the files alone.
use Rattle.std.specs.Prelude.{ℕ, List, [], ◌∷◌, map, length, Option, Some, None, Result, Ok, Err}
use Rattle.dw_value.specs.declared.values.Row.{Row}
use Rattle.dw_model.specs.declared.refusals.Refusal.{Refusal}
use Rattle.dw_model.specs.declared.refusals.Refusal.TheVariants.{Range, NullIn}
use Rattle.dw_model.specs.declared.statements.Statement.{Statement}
use Rattle.dw_model.specs.declared.statements.Query.{Query}
use Rattle.dw_model.specs.declared.tables.Column.{Column}
use Rattle.dw_model.specs.declared.tables.TableDef.{TableDef}
use Rattle.dw_model.specs.declared.answers.Word.TheVariants as words
use Rattle.dw_model.specs.declared.answers.Answer.{Answer}
use Rattle.dw_model.specs.declared.answers.Answer.TheVariants as answers
use Rattle.dw_model.specs.declared.answers.Plain.{Plain}
use Rattle.dw_model.specs.declared.answers.Plain.TheVariants.{Done, Refused}
use Rattle.dw_model.specs.declared.changes.Change.{Change}
use Rattle.dw_model.specs.declared.changes.Change.TheVariants.{Unchanged, Creates, Drops, Alters}
use Rattle.dw_model.specs.declared.changes.Outcome.{Outcome}
use Rattle.dw_model.specs.Bound.{BoundStatement, Create, Drop, Lock, Insert, Select, bound}
use Rattle.dw_model.specs.Changes.{changed}
use Rattle.dw_model.specs.Databases.{Tables, def_of, rows_of}
use Rattle.dw_model.specs.Files.{Files}
use Rattle.dw_model.specs.Refusals.{after_result}
use Rattle.dw_model.specs.Inserting.{rows_made, null_column}
use Rattle.dw_model.specs.Selection.{selected, fields_of, kinds_of}

-- what CREATE TABLE comes to: a table of this definition is made
abbrev pub create_outcome : List ℕ → TableDef → Outcome
create_outcome table def = record { answer = answers.Plain words.CreateTable; change = Creates table def }

-- what DROP TABLE comes to: the table goes
abbrev pub drop_outcome : List ℕ → Outcome
drop_outcome table = record { answer = answers.Plain words.DropTable; change = Drops table }

-- what LOCK comes to: the answer alone
abbrev pub lock_outcome : Outcome
lock_outcome = record { answer = answers.Plain words.LockTable; change = Unchanged }

-- what INSERT of these rows comes to, where this column, if there is one, would hold NULL and takes none: they are added
-- in order
abbrev pub added_outcome : List ℕ → List Row → Option (List ℕ) → Result Outcome Refusal
added_outcome table rows None =
    Ok (record { answer = answers.Count words.Insert (length rows); change = Alters table [] rows })
added_outcome table rows (Some column) = Err (NullIn column)

-- what INSERT comes to, where these are the rows as the table holds them, if all of them fit
abbrev pub insert_outcome : List ℕ → List Column → Option (List Row) → Result Outcome Refusal
insert_outcome table columns None = Err Range
insert_outcome table columns (Some rows) = added_outcome table rows (null_column columns rows)

-- what SELECT from a table with these columns and rows comes to: the answer alone
abbrev pub select_outcome : List Column → Query → List Row → Outcome
select_outcome columns query rows = record {
  answer =
      answers.Rows words.Select query.items (map (fields_of (kinds_of columns query.items)) (selected query columns rows));
  change = Unchanged;
}

-- What a bound statement comes to, where `rows` gives the rows of each table. Nothing else of a database is looked at.
abbrev pub outcome_of : Files → (List ℕ → List Row) → BoundStatement → Result Outcome Refusal
outcome_of files rows (Create table def) = Ok (create_outcome table def)
outcome_of files rows (Drop table) = Ok (drop_outcome table)
outcome_of files rows Lock = Ok lock_outcome
outcome_of files rows (Insert table columns names tuples) =
    insert_outcome table columns (rows_made columns names tuples)
outcome_of files rows (Select columns query) = Ok (select_outcome columns query (rows query.table))

-- what a statement comes to on a database: its answer and its change, or its refusal
abbrev pub outcome_on : Files → Statement → Tables → Result Outcome Refusal
outcome_on files statement tables = after_result (outcome_of files (rows_of tables)) (bound (def_of tables) statement)

-- an outcome on a database: its answer, and the database after its change
abbrev pub plain_of : Tables → Result Outcome Refusal → Plain
plain_of tables (Ok outcome) = Done outcome.answer (changed outcome.change tables)
plain_of tables (Err refusal) = Refused refusal

-- the statement run alone
abbrev pub alone : Files → Statement → Tables → Plain
alone files statement tables = plain_of tables (outcome_on files statement tables)

-- the change of an outcome: a refused statement changes nothing
abbrev pub change_in : Result Outcome Refusal → Change
change_in (Ok outcome) = outcome.change
change_in (Err refusal) = Unchanged

-- what the statement changes, run alone
abbrev pub change_of : Files → Statement → Tables → Change
change_of files statement tables = change_in (outcome_on files statement tables)

-- the database after the statement, run alone
abbrev pub next_of : Files → Statement → Tables → Tables
next_of files statement tables = changed (change_of files statement tables) tables

-- what a user sees of an outcome: the answer, or the refusal
abbrev pub reply_in : Result Outcome Refusal → Result Answer Refusal
reply_in (Ok outcome) = Ok outcome.answer
reply_in (Err refusal) = Err refusal

-- what the statement answers, run alone, or why it is refused
abbrev pub reply_of : Files → Statement → Tables → Result Answer Refusal
reply_of files statement tables = reply_in (outcome_on files statement tables)
