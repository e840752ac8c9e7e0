-- What an engine keeps: the committed database, and what each session sees in its open transaction.
use Rattle.std.specs.Prelude.{◌≡◌, ℕ, ◌+◌, ◌≤◌, List, length, slice_get, Option, Some, None}
use Rattle.dw_model.specs.declared.statements.Statement.{Statement}
use Rattle.dw_model.specs.declared.statements.Statement.TheVariants.{Vacuum}
use Rattle.dw_model.specs.Databases.{Tables}
use Rattle.dw_model.specs.Files.{Files}
use Rattle.dw_journal.specs.declared.World.{World}
use Rattle.dw_journal.specs.Worlds.{session_count, statement_at}
use Rattle.dw_journal.specs.History.{History}
use Rattle.dw_journal.specs.Transactions.{Transaction, transaction_of, commits, statements_in}
use Rattle.dw_journal.specs.Contents.{contents, contents_at, view_after, changes_of}
use Rattle.dw_commit.specs.declared.views.View.{View}
use Rattle.dw_commit.specs.Views.{IsViewOf}

-- it is the view of a session's transaction, whose snapshot is committed
pub record Sees (history : History) (session : ℕ) (transaction : Transaction) (view : View) : Type 0 where
  pub snapshot : transaction.snapshot ≤ commits history.events
  pub seen : IsViewOf history.world.files (statements_in history.world session transaction.answered)
      (contents_at history.world history.events transaction.snapshot) view

-- there is a view exactly where there is a transaction
abbrev pub HasView : History → ℕ → Option Transaction → Option View → Type 0
HasView history session None None = Unit {0}
HasView history session None (Some view) = ⊥
HasView history session (Some transaction) None = ⊥
HasView history session (Some transaction) (Some view) = Sees history session transaction view

-- no script sweeps a table: vacuums can't be driven yet
abbrev pub HaveNoVacuum : World → Type 0
HaveNoVacuum world = (session statement : ℕ) (table : List ℕ) → statement_at world session statement ≡ Some (Vacuum table) → ⊥

-- The database is the committed one, each session has the view of its transaction, and no script sweeps a table.
pub record EngineInvariant (history : History) (database : Tables) (views : List (Option View)) : Type 0 where
  pub newest : database ≡ contents history
  pub as_many : length views ≡ session_count history.world
  pub each : (place : ℕ) (view : Option View) → slice_get views place ≡ Some view
      → HasView history (place + 1) (transaction_of (place + 1) history.events) view
  pub no_vacuum : HaveNoVacuum history.world
