-- The committed database after each commit, object by object, and what a session sees.
use Rattle.std.specs.Prelude.{ℕ, nat_le, if◌then◌else◌, List, [], ◌∷◌, flat_map, length, Option, Some, None, Result}
use Rattle.std.specs.FinMap as map_of
use Rattle.dw_value.specs.declared.values.Row.{Row}
use Rattle.dw_value.specs.Values.{row_cmp}
use Rattle.dw_value.specs.Sorted.{add_sorted}
use Rattle.dw_model.specs.declared.answers.Answer.{Answer as Reply}
use Rattle.dw_model.specs.declared.changes.Change.{Change}
use Rattle.dw_model.specs.declared.refusals.Refusal.{Refusal}
use Rattle.dw_model.specs.declared.statements.Statement.{Statement}
use Rattle.dw_model.specs.declared.tables.TableDef.{TableDef}
use Rattle.dw_model.specs.declared.objects.Object.{Object}
use Rattle.dw_model.specs.declared.objects.Object.TheVariants.{Def, Rows}
use Rattle.dw_model.specs.Alone.{change_of, next_of, reply_of}
use Rattle.dw_model.specs.Changes.{added_to}
use Rattle.dw_model.specs.Databases.{Tables, def_of, rows_of}
use Rattle.dw_model.specs.Files.{Files}
use Rattle.dw_model.specs.Objects.{reads_of, writes_of, is_among, table_of}
use Rattle.dw_journal.specs.declared.Event.{Event}
use Rattle.dw_journal.specs.declared.Taken.{Taken}
use Rattle.dw_journal.specs.declared.World.{World}
use Rattle.dw_journal.specs.History.{History}
use Rattle.dw_journal.specs.Transactions.{Transaction, transaction_of, CommittedTransaction, committed, statements_in, taken_by}

-- the database after these statements, each run alone on what the one before left
abbrev pub view_after : Files → Tables → List Statement → Tables
view_after files tables [] = tables
view_after files tables (statement ∷ later) = view_after files (next_of files statement tables) later

-- what these statements reply, each run alone on what the one before left
abbrev pub replies_of : Files → List Statement → Tables → List (Result Reply Refusal)
replies_of files [] tables = []
replies_of files (statement ∷ later) tables =
    reply_of files statement tables ∷ replies_of files later (next_of files statement tables)

-- their changes, in order
abbrev pub changes_of : Files → List Statement → Tables → List Change
changes_of files [] tables = []
changes_of files (statement ∷ later) tables =
    change_of files statement tables ∷ changes_of files later (next_of files statement tables)

-- the rows that changes add to a table
abbrev pub added_by : List Change → List ℕ → List Row
added_by changes name = flat_map (added_to name) changes

-- the objects that statements read, and those that they write
abbrev pub reads_in : List Statement → List Object
reads_in statements = flat_map reads_of statements

abbrev pub writes_in : List Statement → List Object
writes_in statements = flat_map writes_of statements

-- what a transaction did: what it took, the changes of its statements in order, and the view that they leave
pub record Effect : Type 0 where
  pub taken : Taken
  pub changes : List Change
  pub view : Tables

-- The definition of a table once the transaction is committed on the database `before`: as in its view where it wrote
-- the definition, which it then has read, too; and else as before.
abbrev pub def_after : Effect → Tables → List ℕ → Option TableDef
def_after effect before name =
    if is_among (Def name) effect.taken.writes then def_of effect.view name else def_of before name

-- The rows of a table once it is committed: as in its view where it read and wrote them; the former ones with those
-- that its statements added where it wrote them without reading them; and else as before.
abbrev pub rows_after : Effect → Tables → List ℕ → List Row
rows_after effect before name =
    if is_among (Rows name) effect.taken.writes
    then (if is_among (Rows name) effect.taken.reads then rows_of effect.view name
    else add_sorted row_cmp (added_by effect.changes name) (rows_of before name))
    else rows_of before name

-- a database with this table under a name, or with none there
abbrev pub with_table : List ℕ → Option TableDef → List Row → Tables → Tables
with_table name None rows tables = map_of.remove tables name
with_table name (Some def) rows tables = map_of.insert tables name (record { def = def; rows = rows })

-- a database in which the tables of these objects are as the transaction leaves them
abbrev pub with_tables : Effect → Tables → List Object → Tables → Tables
with_tables effect before [] tables = tables
with_tables effect before (object ∷ objects) tables =
    let name = table_of object in
    with_table name (def_after effect before name) (rows_after effect before name) (with_tables effect before objects tables)

-- the database once the transaction is committed on `before`
abbrev pub after_commit : Effect → Tables → Tables
after_commit effect before = with_tables effect before effect.taken.writes before

-- what a committed transaction did that began on the database `start`
abbrev pub effect_of : World → CommittedTransaction → Tables → Effect
effect_of world commit start =
    let statements = statements_in world commit.session commit.answered in record {
      taken = taken_by world commit;
      changes = changes_of world.files statements start;
      view = view_after world.files start statements;
    }

-- the last of these databases, of which there is always one more than commits
abbrev pub newest_state : List Tables → Tables
newest_state [] = map_of.empty
newest_state (tables ∷ older) = tables

-- the database after so many commits, from those after 0, 1, .. commits, newest first; past the last commit it is the
-- newest
abbrev pub state_at : List Tables → ℕ → Tables
state_at [] count = map_of.empty
state_at (tables ∷ older) count = if nat_le (length older) count then tables else state_at older count

-- the databases after all commits, after all but the last, .., and after none, which is the empty database
abbrev pub states : World → List CommittedTransaction → List Tables
states world [] = map_of.empty ∷ []
states world (commit ∷ older) =
    after_commit (effect_of world commit (state_at (states world older) commit.snapshot)) (newest_state (states world older))
    ∷ states world older

-- the committed database after so many commits; past the last one it is the committed database now
abbrev pub contents_at : World → List Event → ℕ → Tables
contents_at world events count = state_at (states world (committed events)) count

-- the committed database now
abbrev pub contents : History → Tables
contents history = newest_state (states history.world (committed history.events))

-- what a session sees: the database at its transaction's snapshot after its answered statements, or the committed one
abbrev pub view_in : History → ℕ → Option Transaction → Tables
view_in history session None = contents history
view_in history session (Some transaction) =
    view_after history.world.files (contents_at history.world history.events transaction.snapshot)
    (statements_in history.world session transaction.answered)

abbrev pub view : History → ℕ → Tables
view history session = view_in history session (transaction_of session history.events)
