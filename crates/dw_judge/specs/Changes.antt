-- How an event that is right changes what is kept.
use Rattle.std.specs.Prelude.{◌≡◌, ◌≢◌, ℕ, suc, Bool, true, false, List, [], length, reverse, slice_get, Option, Some, None, is_some, option_and_then}
use Rattle.dw_model.specs.declared.statements.Statement.{Statement}
use Rattle.dw_model.specs.Databases.{Tables}
use Rattle.dw_model.specs.Objects.{reads_of, with_objects, writes_of}
use Rattle.dw_journal.specs.declared.Event.{Event}
use Rattle.dw_journal.specs.declared.Event.TheVariants.{Begin, Pass, Wait, Violation, Refuse, Rollback, VacuumBegin, VacuumSlice, VacuumEnd, End}
use Rattle.dw_journal.specs.declared.World.{World}
use Rattle.dw_journal.specs.Worlds.{session_count}
use Rattle.dw_journal.specs.History.{History, newest_event, statements_after, statements_taken, with_event}
use Rattle.dw_journal.specs.Blocks.{block_after, block_of}
use Rattle.dw_journal.specs.Transactions.{transaction_of}
use Rattle.dw_journal.specs.Contents.{contents}
use Rattle.dw_journal.specs.Vacuums.{swept_by}
use Rattle.dw_journal.specs.Routes.{refreshed}
use Rattle.dw_journal.specs.Legal.{IsLegalAfter, certified}
use Rattle.dw_judge.specs.declared.sessions.OpenOne.{OpenOne}
use Rattle.dw_judge.specs.declared.sessions.Session.{Session}
use Rattle.dw_judge.specs.declared.summaries.Summary.{Summary}
use Rattle.dw_judge.specs.Summaries.{AreHorizons, HasOpen, IsKept, StandsFor, stamp_kept, sweeps_after}

-- what is kept of a session once it has this event, which stands at this place, and this transaction
abbrev pub session_after : World → Event → ℕ → Option OpenOne → Session → Session
session_after world event place transaction kept = record {
  taken = statements_after event kept.taken;
  block = block_after world event kept.block;
  newest = Some place;
  sweeps = sweeps_after event kept.sweeps;
  transaction = transaction;
}

-- what is kept of a session is what the history says of it, its transaction apart
pub record IsKeptBut (events : List Event) (history : History) (session : ℕ) (kept : Session) : Type 0 where
  pub taken : kept.taken ≡ statements_taken session history.events
  pub block : kept.block ≡ block_of history session
  pub newest : option_and_then (slice_get events) kept.newest ≡ newest_event session history.events
  pub sweeps : kept.sweeps ≡ is_some (swept_by session history.events)

-- The summary stands for the history but that the commits, the database and the stamps are already those after the
-- event, as is the transaction that its session is to have, and the session's own is taken out.
pub record IsReady (events : List Event) (history : History) (event : Event) (session : ℕ)
    (transaction : Option OpenOne) (summary : Summary) : Type 0 where
  pub number : length summary.sessions.items ≡ suc (session_count history.world)
  pub as_many : length summary.horizons.items ≡ suc (session_count history.world)
  pub others : (other : ℕ) (kept : Session) → other ≢ session → slice_get summary.sessions.items other ≡ Some kept
      → IsKept events history other kept
  pub own : (kept : Session) → slice_get summary.sessions.items session ≡ Some kept
      → IsKeptBut events history session kept
  pub horizons : AreHorizons history summary.horizons.items
  pub certified_are : reverse summary.commits.items ≡ certified (with_event history event)
  pub newest : summary.database ≡ contents (with_event history event)
  pub stamps : (cluster : ℕ)
      → stamp_kept summary.stamps.items cluster ≡ refreshed cluster (with_event history event).events
  pub has_open : HasOpen (with_event history event) session
      (transaction_of session (with_event history event).events) transaction

-- an event that leaves its session's transaction as it is, and commits and refreshes nothing
abbrev pub LeavesTransaction : Event → Type 0
LeavesTransaction (Begin session statement) = Unit {0}
LeavesTransaction (Pass session statement word) = Unit {0}
LeavesTransaction (Wait session statement holders) = Unit {0}
LeavesTransaction (VacuumBegin session statement table) = Unit {0}
LeavesTransaction (VacuumSlice session statement slice horizon) = Unit {0}
LeavesTransaction (VacuumEnd session statement) = Unit {0}
LeavesTransaction event = ⊥

-- an event that ends its session's transaction, and commits nothing
abbrev pub EndsTransaction : Event → Type 0
EndsTransaction (Violation session statement low high object) = Unit {0}
EndsTransaction (Refuse session statement refusal) = Unit {0}
EndsTransaction (Rollback session statement) = Unit {0}
EndsTransaction (End session) = Unit {0}
EndsTransaction event = ⊥

-- the open transaction, or one of this snapshot that begins on a database
abbrev pub begun_in : ℕ → Tables → Option OpenOne → OpenOne
begun_in snapshot database None = record {
  taken = record { snapshot = snapshot; reads = []; writes = [] };
  view = record { database = database; changes = [] };
}
begun_in snapshot database (Some one) = one

-- a transaction with a statement's objects
abbrev pub widened_by : Statement → OpenOne → OpenOne
widened_by statement one = record {
  taken = record {
    snapshot = one.taken.snapshot;
    reads = with_objects (reads_of statement) one.taken.reads;
    writes = with_objects (writes_of statement) one.taken.writes;
  };
  view = one.view;
}

-- an event that follows is legal, and the summary stands for the history with it; or it isn't legal
abbrev pub IsJudged : List Event → History → Event → Summary → Bool → Type 0
IsJudged events history event after true =
    IsLegalAfter history event × StandsFor events (with_event history event) after
IsJudged events history event after false = IsLegalAfter history event → ⊥
