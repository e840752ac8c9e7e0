-- What is kept of the events so far, and that it stands for their history.
use Rattle.std.specs.Prelude.{◌≡◌, ℕ, suc, ◌≤◌, Bool, true, false, List, [], length, reverse, slice_get, Option, Some, None, is_some, option_and_then, unwrap_or}
use Rattle.dw_journal.specs.declared.Event.{Event}
use Rattle.dw_journal.specs.declared.Event.TheVariants.{VacuumBegin, VacuumEnd}
use Rattle.dw_journal.specs.Worlds.{session_count}
use Rattle.dw_journal.specs.History.{History, newest_event, statements_taken, up_to_newest}
use Rattle.dw_journal.specs.Blocks.{block_of}
use Rattle.dw_journal.specs.Transactions.{Transaction, transaction_of, opened_statements, taken_over, statements_in, commits, horizon}
use Rattle.dw_journal.specs.Contents.{contents, contents_at}
use Rattle.dw_journal.specs.Vacuums.{swept_by}
use Rattle.dw_journal.specs.Routes.{refreshed}
use Rattle.dw_journal.specs.Legal.{certified}
use Rattle.dw_commit.specs.Views.{IsViewOf}
use Rattle.dw_judge.specs.declared.sessions.OpenOne.{OpenOne}
use Rattle.dw_judge.specs.declared.sessions.Session.{Session}
use Rattle.dw_judge.specs.declared.summaries.Summary.{Summary}

-- whether a session's vacuum runs once the session has this event
abbrev pub sweeps_after : Event → Bool → Bool
sweeps_after (VacuumBegin session statement table) before = true
sweeps_after (VacuumEnd session statement) before = false
sweeps_after event before = before

-- what is kept of a session's open transaction: what it took, and what it sees
pub record IsOpen (history : History) (session : ℕ) (transaction : Transaction) (kept : OpenOne) : Type 0 where
  pub snapshot : transaction.snapshot ≤ commits history.events
  pub taken : kept.taken
      ≡ taken_over history.world session (opened_statements session history.events) transaction.snapshot
  pub seen : IsViewOf history.world.files (statements_in history.world session transaction.answered)
      (contents_at history.world history.events transaction.snapshot) kept.view

-- something is kept exactly where a transaction is open; where none is, no statement is opened in it
abbrev pub HasOpen : History → ℕ → Option Transaction → Option OpenOne → Type 0
HasOpen history session None None = opened_statements session history.events ≡ []
HasOpen history session None (Some kept) = ⊥
HasOpen history session (Some transaction) None = ⊥
HasOpen history session (Some transaction) (Some kept) = IsOpen history session transaction kept

-- what is kept of a session is what the history says of it; its newest event is kept by its place among all events
pub record IsKept (events : List Event) (history : History) (session : ℕ) (kept : Session) : Type 0 where
  pub taken : kept.taken ≡ statements_taken session history.events
  pub block : kept.block ≡ block_of history session
  pub newest : option_and_then (slice_get events) kept.newest ≡ newest_event session history.events
  pub sweeps : kept.sweeps ≡ is_some (swept_by session history.events)
  pub transaction : HasOpen history session (transaction_of session history.events) kept.transaction

-- the stamp that is kept of a cluster
abbrev pub stamp_kept : List (Option ℕ) → ℕ → Option ℕ
stamp_kept stamps cluster = unwrap_or (slice_get stamps cluster) None

-- the horizon just after each session's newest event
abbrev pub AreHorizons : History → List ℕ → Type 0
AreHorizons history horizons = (session due : ℕ) → slice_get horizons session ≡ Some due
    → due ≡ horizon (session_count history.world) (up_to_newest session history.events)

-- The summary stands for the history. Its lists have a place for the background worker and for each session; the
-- clusters' stamps, one for each from 0 on, are those that are there.
pub record StandsFor (events : List Event) (history : History) (summary : Summary) : Type 0 where
  pub number : length summary.sessions.items ≡ suc (session_count history.world)
  pub as_many : length summary.horizons.items ≡ suc (session_count history.world)
  pub each : (session : ℕ) (kept : Session) → slice_get summary.sessions.items session ≡ Some kept
      → IsKept events history session kept
  pub horizons : AreHorizons history summary.horizons.items
  pub certified_are : reverse summary.commits.items ≡ certified history
  pub newest : summary.database ≡ contents history
  pub stamps : (cluster : ℕ) → stamp_kept summary.stamps.items cluster ≡ refreshed cluster history.events
