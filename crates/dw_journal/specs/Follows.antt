-- Which event may come next by the scripts alone: that it is due. Each row of the tables is a case of these relations.
use Rattle.std.specs.Prelude.{◌≡◌, ℕ, ◌≤◌, true, List, [], ◌∷◌, Option, Some, None}
use Rattle.dw_model.specs.declared.answers.Answer.{Answer as Reply}
use Rattle.dw_model.specs.declared.answers.Word.TheVariants as words
use Rattle.dw_model.specs.declared.refusals.Refusal.{Refusal}
use Rattle.dw_model.specs.declared.statements.Statement.{Statement}
use Rattle.dw_model.specs.declared.objects.Object.{Object}
use Rattle.dw_journal.specs.declared.Event.{Event}
use Rattle.dw_journal.specs.declared.Event.TheVariants.{Begin, Pass, Wait, Opened, Answer, Commit, Violation, Refuse, Rollback, VacuumBegin, VacuumSlice, VacuumEnd, Refresh, End}
use Rattle.dw_journal.specs.declared.Journal.{Journal}
use Rattle.dw_journal.specs.declared.Route.{Route}
use Rattle.dw_journal.specs.declared.Shape.{Shape}
use Rattle.dw_journal.specs.declared.BlockState.{BlockState}
use Rattle.dw_journal.specs.declared.BlockState.TheVariants.{Outside, Within, Aborted}
use Rattle.dw_journal.specs.declared.World.{World}
use Rattle.dw_journal.specs.Worlds.{IsSession, session_count}
use Rattle.dw_journal.specs.History.{History, events_of, has_ended}
use Rattle.dw_journal.specs.Blocks.{block_of}
use Rattle.dw_journal.specs.Transactions.{Transaction, transaction_of}
use Rattle.dw_journal.specs.Turns.{Call, IsForeign, Begins, Commits, RollsBack, Sweeps, Works, Turn, AnswerOf, CommitOf, SliceOf, SweepEndOf, Taking, AtEnd, Idle, turn_of}

-- an answer or a refusal of statement k
pub data IsAnswer (session k : ℕ) : Event → Type 0 where
  is_answer : (answer : Reply) → IsAnswer session k (Answer session k answer)
  is_answer_refused : (refusal : Refusal) → IsAnswer session k (Refuse session k refusal)

-- a commit, a violation or a refusal
pub data IsDecision (session k : ℕ) : Event → Type 0 where
  is_commit : (stamp low high : ℕ) → IsDecision session k (Commit session k stamp low high)
  is_violation : (low high : ℕ) (object : Object) → IsDecision session k (Violation session k low high object)
  is_commit_refused : (refusal : Refusal) → IsDecision session k (Refuse session k refusal)

-- a wait, a refusal or an opening
pub data IsOpening (session k : ℕ) : Event → Type 0 where
  is_wait : (holders : List ℕ) → IsOpening session k (Wait session k holders)
  is_opening_refused : (refusal : Refusal) → IsOpening session k (Refuse session k refusal)
  is_opened : (snapshot : ℕ) (route : Route) → IsOpening session k (Opened session k snapshot route)

-- a wait, a refusal or the begin of a vacuum of this table
pub data IsSweepOpening (session k : ℕ) (table : List ℕ) : Event → Type 0 where
  is_sweep_wait : (holders : List ℕ) → IsSweepOpening session k table (Wait session k holders)
  is_sweep_refused : (refusal : Refusal) → IsSweepOpening session k table (Refuse session k refusal)
  is_sweep_begin : IsSweepOpening session k table (VacuumBegin session k table)

-- What comes of the next statement k, by what it calls for and where the session stands: outside a block, in one, or in
-- an aborted one. A COMMIT in a block passes where no transaction is open, since nothing was opened in the block.
pub data IsTaken (session k : ℕ) : Call → BlockState → Option Transaction → Event → Type 0 where
  -- not in the grammar
  foreign : {given refusal : Refusal} {block : BlockState} {transaction : Option Transaction}
      → IsTaken session k (IsForeign given) block transaction (Refuse session k refusal)
  -- BEGIN
  begin_outside : {transaction : Option Transaction} → IsTaken session k Begins Outside transaction (Begin session k)
  begin_within : {transaction : Option Transaction} → IsTaken session k Begins Within transaction (Pass session k words.Begin)
  begin_aborted : {transaction : Option Transaction} {refusal : Refusal}
      → IsTaken session k Begins Aborted transaction (Refuse session k refusal)
  -- COMMIT
  commit_outside : {transaction : Option Transaction} → IsTaken session k Commits Outside transaction (Pass session k words.Commit)
  commit_of_nothing : IsTaken session k Commits Within None (Pass session k words.Commit)
  commit_within : {transaction : Transaction} {event : Event} → IsDecision session k event
      → IsTaken session k Commits Within (Some transaction) event
  commit_aborted : {transaction : Option Transaction} → IsTaken session k Commits Aborted transaction (Rollback session k)
  -- ROLLBACK
  rollback_outside : {transaction : Option Transaction} → IsTaken session k RollsBack Outside transaction (Pass session k words.Rollback)
  rollback_within : {transaction : Option Transaction} → IsTaken session k RollsBack Within transaction (Rollback session k)
  rollback_aborted : {transaction : Option Transaction} → IsTaken session k RollsBack Aborted transaction (Rollback session k)
  -- VACUUM
  vacuum_outside : {table : List ℕ} {transaction : Option Transaction} {event : Event} → IsSweepOpening session k table event
      → IsTaken session k (Sweeps table) Outside transaction event
  vacuum_within : {table : List ℕ} {transaction : Option Transaction} {refusal : Refusal}
      → IsTaken session k (Sweeps table) Within transaction (Refuse session k refusal)
  vacuum_aborted : {table : List ℕ} {transaction : Option Transaction} {refusal : Refusal}
      → IsTaken session k (Sweeps table) Aborted transaction (Refuse session k refusal)
  -- any other
  work_outside : {statement : Statement} {transaction : Option Transaction} {event : Event} → IsOpening session k event
      → IsTaken session k (Works statement) Outside transaction event
  work_within : {statement : Statement} {transaction : Option Transaction} {event : Event} → IsOpening session k event
      → IsTaken session k (Works statement) Within transaction event
  work_aborted : {statement : Statement} {transaction : Option Transaction} {refusal : Refusal}
      → IsTaken session k (Works statement) Aborted transaction (Refuse session k refusal)

-- What comes of a session whose turn is this. Where nothing is due, nothing comes. The background worker's vacuum has
-- the statement 0.
pub data IsDue (session : ℕ) (block : BlockState) (transaction : Option Transaction) : Turn → Event → Type 0 where
  answers : {k : ℕ} {event : Event} → IsAnswer session k event → IsDue session block transaction (AnswerOf k) event
  decides : {k : ℕ} {event : Event} → IsDecision session k event → IsDue session block transaction (CommitOf k) event
  rebuilds : {k slice horizon : ℕ} → IsDue session block transaction (SliceOf k slice) (VacuumSlice session k slice horizon)
  has_rebuilt : {k : ℕ} → IsDue session block transaction (SweepEndOf k) (VacuumEnd session k)
  takes : {k : ℕ} {call : Call} {event : Event} → IsTaken session k call block transaction event
      → IsDue session block transaction (Taking k call) event
  ends : IsDue session block transaction AtEnd (End session)
  sweeps : {table : List ℕ} → IsDue session block transaction Idle (VacuumBegin session 0 table)

-- The event follows from the scripts after these older ones: it is due of a session, or of the background worker, which
-- is session 0. A refresh of a cluster always follows.
pub data FollowsAfter (older : History) : Event → Type 0 where
  due : {event : Event} (session : ℕ) → session ≤ session_count older.world
      → IsDue session (block_of older session) (transaction_of session older.events) (turn_of older session) event
      → FollowsAfter older event
  refreshes : {cluster stamp : ℕ} → FollowsAfter older (Refresh cluster stamp)

-- each of these events follows after those before it
abbrev pub EachFollows : Shape → World → List Event → Type 0
EachFollows shape world [] = Unit {0}
EachFollows shape world (event ∷ older) =
    FollowsAfter (record { shape = shape; world = world; events = older }) event × EachFollows shape world older

-- the journal follows from the scripts: event by event, with as many sessions as scripts, each of them to its end
pub record Follows (world : World) (journal : Journal) : Type 0 where
  pub each : EachFollows journal.shape world (events_of journal)
  pub sessions : journal.shape.sessions ≡ session_count world
  pub ends : (session : ℕ) → IsSession world session → has_ended session (events_of journal) ≡ true
