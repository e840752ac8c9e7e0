-- A statement that is run alone is never refused for want of memory, nor is one whose names or kinds don't fit.
use Rattle.std.proofs.Common.{◌≡◌, ℕ, Bool, true, false, List, [], Result, Ok, Err, refl}
use Rattle.std.specs.Prelude.{Option, Some, None, if◌then◌else◌}
use Rattle.std.specs.Result.{result_err}
use Rattle.dw_value.specs.declared.values.Row.{Row}
use Rattle.dw_model.specs.declared.changes.Outcome.{Outcome}
use Rattle.dw_model.specs.declared.refusals.Refusal.{Refusal}
use Rattle.dw_model.specs.declared.refusals.Refusal.TheVariants.{Unknown, Exists, Clash, Limit, Memory}
use Rattle.dw_model.specs.declared.statements.Literal.{Literal}
use Rattle.dw_model.specs.declared.statements.Query.{Query}
use Rattle.dw_model.specs.declared.statements.Statement.{Statement}
use Rattle.dw_model.specs.declared.statements.Statement.TheVariants as forms
use Rattle.dw_model.specs.declared.statements.TableSpec.{TableSpec}
use Rattle.dw_model.specs.declared.tables.Column.{Column}
use Rattle.dw_model.specs.declared.tables.TableDef.{TableDef}
use Rattle.dw_model.specs.Alone.{added_outcome, alone, insert_outcome, outcome_of, plain_of}
use Rattle.dw_model.specs.Binding.{Definitions, columns_refusal, first_refusal, first_unknown, names_in, refused_name, repeated_after, test_goes_with, test_refusal}
use Rattle.dw_model.specs.Bound.{BoundStatement, Create, Drop, Lock, Insert, Select, bound, bound_drop, bound_insert, bound_lock, bound_query, bound_refusal, first_missing}
use Rattle.dw_model.specs.Creating.{clash_refusal, create_refusal, is_clash, names_of, taken_refusal, unknown_named}
use Rattle.dw_model.specs.Databases.{Tables, def_of, rows_of}
use Rattle.dw_model.specs.Files.{Files}
use Rattle.dw_model.specs.Inserting.{insert_refusal, names_given, null_column, rows_made, tuples_go_with}
use Rattle.dw_model.specs.Limits.{too_many_in, written_table}
use Rattle.dw_model.specs.Refusals.{after_result, unless_refused}
use Rattle.dw_journal.specs.Blocks.{is_memory}
use Rattle.dw_journal.specs.Legal.{work_refusal}

-- a refusal, if there is one, isn't for want of memory
abbrev pub IsOwn : Option Refusal → Type 0
IsOwn None = Unit {0}
IsOwn (Some refusal) = is_memory refusal ≡ false

abbrev IsOwnIn : {A : Type 0} → Result A Refusal → Type 0
IsOwnIn (Ok value) = Unit {0}
IsOwnIn (Err refusal) = is_memory refusal ≡ false

unknown_own : (found : Option (List ℕ)) → IsOwn (refused_name Unknown found)
unknown_own None = tt
unknown_own (Some name) = refl

exists_own : (found : Option (List ℕ)) → IsOwn (refused_name Exists found)
exists_own None = tt
exists_own (Some name) = refl

first_own : (first second : Option Refusal) → IsOwn first → IsOwn second → IsOwn (first_refusal first second)
first_own None second one other = other
first_own (Some refusal) second one other = one

clash_own : (b : Bool) → IsOwn (if b then Some Clash else None)
clash_own true = refl
clash_own false = tt

fits_own : (b : Bool) → IsOwn (if b then None else Some Clash)
fits_own true = tt
fits_own false = refl

unless_own : {A : Type 0} (found : Option Refusal) (result : Result A Refusal) → IsOwn found → IsOwnIn result → IsOwnIn (unless_refused found result)
unless_own None result own rest = rest
unless_own (Some refusal) result own rest = own

-- the names and kinds of a statement
taken_own : (spec : TableSpec) (there : Option TableDef) → IsOwn (taken_refusal spec there)
taken_own spec None = tt
taken_own spec (Some def) = refl

create_own : (spec : TableSpec) (there : Option TableDef) → IsOwn (create_refusal spec there)
create_own spec there =
    first_own (taken_refusal spec there) _ (taken_own spec there)
    (first_own (refused_name Exists (repeated_after [] (names_of spec.columns))) _ (exists_own (repeated_after [] (names_of spec.columns)))
    (first_own (refused_name Unknown (unknown_named spec)) (clash_refusal spec) (unknown_own (unknown_named spec)) (clash_own (is_clash spec))))

drop_own : (table : List ℕ) (there : Option TableDef) → IsOwnIn (bound_drop table there)
drop_own table None = refl
drop_own table (Some def) = tt

lock_own : (missing : Option (List ℕ)) → IsOwnIn (bound_lock missing)
lock_own None = tt
lock_own (Some table) = refl

insert_own : (table : List ℕ) (listed : List (List ℕ)) (tuples : List (List Literal)) (there : Option TableDef) → IsOwnIn (bound_insert table listed tuples there)
insert_own table listed tuples None = refl
insert_own table listed tuples (Some def) =
    unless_own (insert_refusal def.columns listed tuples) (Ok (Insert table def.columns (names_given def.columns listed) tuples))
    (first_own (refused_name Unknown (first_unknown def.columns listed)) (if tuples_go_with def.columns listed tuples then None else Some Clash)
    (unknown_own (first_unknown def.columns listed)) (fits_own (tuples_go_with def.columns listed tuples))) tt

query_own : (query : Query) (there : Option TableDef) → IsOwnIn (bound_query query there)
query_own query None = refl
query_own query (Some def) =
    unless_own (columns_refusal def.columns query) (Ok (Select def.columns query))
    (first_own (refused_name Unknown (first_unknown def.columns (names_in query))) (test_refusal def.columns query.keep)
    (unknown_own (first_unknown def.columns (names_in query))) (fits_own (test_goes_with def.columns query.keep))) tt

bound_own : (definitions : Definitions) (statement : Statement) → IsOwnIn (bound definitions statement)
bound_own definitions forms.Begin = refl
bound_own definitions forms.Commit = refl
bound_own definitions forms.Rollback = refl
bound_own definitions (forms.Vacuum table) = refl
bound_own definitions (forms.Create spec) = unless_own (create_refusal spec (definitions spec.name)) _ (create_own spec (definitions spec.name)) tt
bound_own definitions (forms.Drop table) = drop_own table (definitions table)
bound_own definitions (forms.Lock tables) = lock_own (first_missing definitions tables)
bound_own definitions (forms.Insert table columns tuples) = insert_own table columns tuples (definitions table)
bound_own definitions (forms.Select query) = query_own query (definitions query.table)

err_own : (result : Result BoundStatement Refusal) → IsOwnIn result → IsOwn (result_err result)
err_own (Ok value) own = tt
err_own (Err refusal) own = own

pub bound_refusal_own : (statement : Statement) (definitions : Definitions) → IsOwn (bound_refusal statement definitions)
bound_refusal_own statement definitions = err_own (bound definitions statement) (bound_own definitions statement)

-- what a bound statement comes to
added_own : (table : List ℕ) (rows : List Row) (column : Option (List ℕ)) → IsOwnIn (added_outcome table rows column)
added_own table rows None = tt
added_own table rows (Some column) = refl

rows_own : (table : List ℕ) (columns : List Column) (rows : Option (List Row)) → IsOwnIn (insert_outcome table columns rows)
rows_own table columns None = refl
rows_own table columns (Some rows) = added_own table rows (null_column columns rows)

outcome_own : (files : Files) (rows : List ℕ → List Row) (statement : BoundStatement) → IsOwnIn (outcome_of files rows statement)
outcome_own files rows (Create table def) = tt
outcome_own files rows (Drop table) = tt
outcome_own files rows Lock = tt
outcome_own files rows (Insert table columns names tuples) = rows_own table columns (rows_made columns names tuples)
outcome_own files rows (Select columns query) = tt

after_own : (files : Files) (rows : List ℕ → List Row) (result : Result BoundStatement Refusal) → IsOwnIn result → IsOwnIn (after_result (outcome_of files rows) result)
after_own files rows (Ok statement) own = outcome_own files rows statement
after_own files rows (Err refusal) own = own

many_own : (b : Bool) (count : ℕ) → IsOwn (if b then Some (Limit count) else None)
many_own true count = refl
many_own false count = tt

limit_own : (written : Option (List ℕ)) (next : Tables) → IsOwn (too_many_in written next)
limit_own None next = tt
limit_own (Some name) next = many_own _ _

plain_own : (statement : Statement) (tables : Tables) (outcome : Result Outcome Refusal) → IsOwnIn outcome → IsOwn (work_refusal statement (plain_of tables outcome))
plain_own statement tables (Ok outcome) own = limit_own (written_table statement) _
plain_own statement tables (Err refusal) own = own

pub work_refusal_own : (files : Files) (statement : Statement) (tables : Tables) → IsOwn (work_refusal statement (alone files statement tables))
work_refusal_own files statement tables =
    plain_own statement tables (after_result (outcome_of files (rows_of tables)) (bound (def_of tables) statement))
    (after_own files (rows_of tables) (bound (def_of tables) statement) (bound_own (def_of tables) statement))

-- any refusal but the one for want of memory
pub other_refusal : (refusal : Refusal) → (refusal ≡ Memory → ⊥) → is_memory refusal ≡ false
other_refusal Memory other = absurd (other refl)
other_refusal refusal other = refl
