-- What a core keeps of its sessions is what its history says of them.
use Rattle.std.specs.Prelude.{◌≡◌, ℕ, ◌+◌, ◌-◌, ◌≤◌, true, List, length, slice_get, Option, Some, None, is_some, option_map}
use Rattle.std.specs.List.{sum_by}
use Rattle.dw_model.specs.declared.statements.Statement.{Statement}
use Rattle.dw_journal.specs.declared.BlockState.{BlockState}
use Rattle.dw_journal.specs.declared.BlockState.TheVariants.{Outside, Within, Aborted}
use Rattle.dw_journal.specs.declared.Event.{Event}
use Rattle.dw_journal.specs.declared.Event.TheVariants.{Wait}
use Rattle.dw_journal.specs.declared.Shape.{Shape}
use Rattle.dw_journal.specs.declared.Taken.{Taken}
use Rattle.dw_journal.specs.declared.World.{World}
use Rattle.dw_journal.specs.Worlds.{IsSession, session_count, given_at, statement_at, AreShort}
use Rattle.dw_journal.specs.History.{History, newest_event, statements_taken}
use Rattle.dw_journal.specs.Blocks.{block_of}
use Rattle.dw_journal.specs.Transactions.{Transaction, transaction_of, opened_statements, snapshot_in, snapshot_of, taken_over, commits}
use Rattle.dw_journal.specs.Vacuums.{swept_by}
use Rattle.dw_journal.specs.Locks.{lock_state}
use Rattle.dw_journal.specs.Routes.{refreshed}
use Rattle.dw_journal.specs.Turns.{Turn, Nothing, AnswerOf, CommitOf, Works, call_of_statement, taking, turn_after}
use Rattle.dw_journal.specs.Follows.{EachFollows}
use Rattle.dw_journal.specs.Legal.{EachIsLegal, certified}
use Rattle.dw_ssn.specs.Summaries.{Summaries, StandsFor}
use Rattle.dw_locks.specs.LockTable.{LockTable, StandsForLocks}
use Rattle.dw_core.specs.Pruned.{pruned_at}
use Rattle.dw_core.specs.declared.sessions.Session.{Session}
use Rattle.dw_core.specs.declared.sessions.Stage.{Stage}
use Rattle.dw_core.specs.declared.sessions.Stage.TheVariants.{Between, Opened, Answered, Ended}
use Rattle.dw_core.specs.declared.transactions.Transaction.{Transaction as KeptTransaction}

-- what is due of a session that has taken so many statements
abbrev pub turn_meant : World → ℕ → Stage → ℕ → Turn
turn_meant world session Between count = taking (count + 1) (given_at world session (count + 1))
turn_meant world session Opened count = AnswerOf count
turn_meant world session Answered count = CommitOf count
turn_meant world session Ended count = Nothing

-- the statement that is open, which is run on what the session sees
pub record IsOpen (world : World) (session count : ℕ) : Type 0 where
  pub statement : Statement
  pub given : statement_at world session count ≡ Some statement
  pub works : call_of_statement statement ≡ Works statement

-- what holds at a stage: a statement is open, or its commit is due outside a block; in both cases of a transaction
abbrev pub IsAtStage : World → ℕ → Stage → ℕ → BlockState → Option Transaction → Type 0
IsAtStage world session Between count block transaction = Unit {0}
IsAtStage world session Opened count block transaction = IsOpen world session count × (is_some transaction ≡ true)
IsAtStage world session Answered count block transaction = (block ≡ Outside) × (is_some transaction ≡ true)
IsAtStage world session Ended count block transaction = Unit {0}

-- what is kept of what a transaction took
abbrev pub taken_in : Option KeptTransaction → Option Taken
taken_in None = None
taken_in (Some kept) = Some kept.taken

-- the second copy of what it read
abbrev pub HasNames : Option KeptTransaction → Type 0
HasNames None = Unit {0}
HasNames (Some kept) = kept.named ≡ kept.taken.reads

-- the holders that a session's newest event says it waits for, where that is a wait
abbrev pub holders_in : Option Event → Option (List ℕ)
holders_in (Some (Wait session statement holders)) = Some holders
holders_in event = None

-- What is kept of a session is what its events say: how many statements it has taken, where it stands, what is due by
-- its newest event, whom it waits for by that, and what the statements took that were opened in its transaction.
pub record IsKeptBy (shape : Shape) (world : World) (session count : ℕ) (block : BlockState) (newest : Option Event)
    (opened : List ℕ) (transaction : Option Transaction) (kept : Session) : Type 0 where
  pub count_is : count ≡ kept.taken
  pub block_is : block ≡ kept.block
  pub turn_is : turn_after shape block newest (taking (count + 1) (given_at world session (count + 1)))
      ≡ turn_meant world session kept.stage kept.taken
  pub at_stage : IsAtStage world session kept.stage kept.taken block transaction
  pub taken_is : option_map (taken_over world session opened) (snapshot_in transaction) ≡ taken_in kept.transaction
  pub names : HasNames kept.transaction
  pub waits_is : holders_in newest ≡ kept.waits

abbrev pub IsKept : History → ℕ → Session → Type 0
IsKept history session kept =
    IsKeptBy history.shape history.world session (statements_taken session history.events) (block_of history session)
    (newest_event session history.events) (opened_statements session history.events)
    (transaction_of session history.events) kept

-- How many events a session may still need room for in which no memory can be asked for: its answer or refusal and the
-- commit of an open statement, the commit of an answered one, the end of a block.
abbrev pub owed_events : Stage → BlockState → ℕ
owed_events Opened block = 2
owed_events Answered block = 1
owed_events Ended block = 0
owed_events Between Outside = 0
owed_events Between Within = 1
owed_events Between Aborted = 1

abbrev pub total_owed : List Session → ℕ
total_owed sessions = sum_by (λ session. owed_events session.stage session.block) sessions

-- an open transaction's snapshot is not before the oldest one, nor after all commits
abbrev pub IsWithin : ℕ → ℕ → Option ℕ → Type 0
IsWithin oldest commits None = Unit {0}
IsWithin oldest commits (Some snapshot) = (oldest ≤ snapshot) × (snapshot ≤ commits)

-- The parts of a core agree with its history. The certifier stands for all commits, with the horizon just after the
-- newest one as its oldest number. The table of locks stands for the locks of the history: no grant stands there before
-- its statement is opened. There are so many events, with room for so many. No vacuum runs, and no cluster is attached.
pub record CoreInvariant (history : History) (sessions : List Session) (certifier : Summaries) (table : LockTable)
    (count capacity : ℕ) : Type 0 where
  pub number : length sessions ≡ session_count history.world
  pub shaped : history.shape.sessions ≡ session_count history.world
  pub short : AreShort history.world.scripts
  pub each : (session : ℕ) (kept : Session) → 1 ≤ session → slice_get sessions (session - 1) ≡ Some kept
      → IsKept history session kept
  pub stands : StandsFor certifier (record { oldest = pruned_at history; commits = certified history })
  pub snapshots : (session : ℕ) → IsSession history.world session
      → IsWithin certifier.oldest (commits history.events) (snapshot_of session history.events)
  pub locks : StandsForLocks table (lock_state history)
  pub unswept : (session : ℕ) → swept_by session history.events ≡ None
  pub unattached : (cluster : ℕ) → refreshed cluster history.events ≡ None
  pub follows : EachFollows history.shape history.world history.events
  pub legal : EachIsLegal history.shape history.world history.events
  pub room : count + total_owed sessions ≤ capacity
