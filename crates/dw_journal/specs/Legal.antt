-- Which events are legal: one definition for each kind of event. Each speaks of an event that follows.
use Rattle.std.specs.Prelude.{◌≡◌, ◌≢◌, ℕ, zero, suc, ◌+◌, ◌≤◌, ◌<◌, ◌⊎◌, List, [], ◌∷◌, length, map, Option, Some, None}
use Rattle.std.specs.FinMap as map_of
use Rattle.dw_model.specs.declared.answers.Answer.{Answer as Reply}
use Rattle.dw_model.specs.declared.answers.Plain.{Plain}
use Rattle.dw_model.specs.declared.answers.Plain.TheVariants.{Done, Refused as PlainRefused}
use Rattle.dw_model.specs.declared.refusals.Refusal.{Refusal}
use Rattle.dw_model.specs.declared.refusals.Refusal.TheVariants.{Unknown, Deadlock, Aborted as AbortedRefusal, InBlock, Vacuuming, Memory}
use Rattle.dw_model.specs.declared.statements.Statement.{Statement}
use Rattle.dw_model.specs.declared.objects.Object.{Object}
use Rattle.dw_model.specs.declared.tables.Table.{Table}
use Rattle.dw_model.specs.Databases.{Tables, def_of}
use Rattle.dw_model.specs.Files.{Files}
use Rattle.dw_model.specs.Bound.{bound_refusal}
use Rattle.dw_model.specs.Alone.{alone}
use Rattle.dw_model.specs.Limits.{limit_refusal}
use Rattle.dw_journal.specs.declared.BlockState.{BlockState}
use Rattle.dw_journal.specs.declared.BlockState.TheVariants.{Outside, Within, Aborted}
use Rattle.dw_journal.specs.declared.Certified.{Certified}
use Rattle.dw_journal.specs.declared.Event.{Event}
use Rattle.dw_journal.specs.declared.Event.TheVariants.{Begin, Pass, Wait, Opened, Answer, Commit, Violation, Refuse, Rollback, VacuumBegin, VacuumSlice, VacuumEnd, Refresh, End}
use Rattle.dw_journal.specs.declared.Journal.{Journal}
use Rattle.dw_journal.specs.declared.Route.{Route}
use Rattle.dw_journal.specs.declared.Shape.{Shape}
use Rattle.dw_journal.specs.declared.Taken.{Taken}
use Rattle.dw_journal.specs.declared.World.{World}
use Rattle.dw_journal.specs.Worlds.{session_count, statement_at}
use Rattle.dw_journal.specs.History.{History, events_of, newest_event, up_to_newest}
use Rattle.dw_journal.specs.Blocks.{block_of}
use Rattle.dw_journal.specs.Transactions.{Transaction, transaction_of, CommittedTransaction, committed, commits, horizon, taken_by, taken_of}
use Rattle.dw_journal.specs.Contents.{view, contents}
use Rattle.dw_journal.specs.Vacuums.{sweeper}
use Rattle.dw_journal.specs.Locks.{sweep_lock, wants_of, lock_state, blockers, deadlock_cycle}
use Rattle.dw_journal.specs.Routes.{route_of}
use Rattle.dw_journal.specs.Turns.{Call, IsForeign, Commits, Sweeps, Works, Turn, AnswerOf, CommitOf, Taking, turn_of}
use Rattle.dw_journal.specs.Follows.{FollowsAfter, EachFollows}
use Rattle.dw_journal.specs.Watermarks.{low_watermark, high_watermark, violated_object}

-- the commits as the watermarks see them
abbrev pub certified_as : World → CommittedTransaction → Certified
certified_as world commit = record { low = commit.low; taken = taken_by world commit }

abbrev pub certified : History → List Certified
certified history = map (certified_as history.world) (committed history.events)

-- the watermarks of what a transaction took, if there is one and it came next
abbrev pub low_by : List Certified → Option Taken → ℕ
low_by commits None = 0
low_by commits (Some taken) = low_watermark taken commits

abbrev pub high_by : List Certified → Option Taken → ℕ
high_by commits None = 0
high_by commits (Some taken) = high_watermark taken commits

abbrev pub object_by : List Certified → Option Taken → Option Object
object_by commits None = None
object_by commits (Some taken) = violated_object taken commits

-- the watermarks of a session's transaction, if it came next, and the object that its violation names
abbrev pub low_of : History → ℕ → ℕ
low_of history session = low_by (certified history) (taken_of history session)

abbrev pub high_of : History → ℕ → ℕ
high_of history session = high_by (certified history) (taken_of history session)

abbrev pub object_of : History → ℕ → Option Object
object_of history session = object_by (certified history) (taken_of history session)

-- the snapshot of a session's transaction; one that begins sees all commits
abbrev pub snapshot_in_or : ℕ → Option Transaction → ℕ
snapshot_in_or commits None = commits
snapshot_in_or commits (Some transaction) = transaction.snapshot

abbrev pub snapshot_due : History → ℕ → ℕ
snapshot_due history session = snapshot_in_or (commits history.events) (transaction_of session history.events)

-- the other sessions that hold locks in the way of a statement
abbrev pub blockers_of : History → ℕ → ℕ → List ℕ
blockers_of history session statement =
    blockers (lock_state history) session (wants_of history.world session statement)

-- the cycle that the statement's wait would close
abbrev pub cycle_of : History → ℕ → ℕ → Option (List ℕ)
cycle_of history session statement =
    deadlock_cycle (lock_state history) session (wants_of history.world session statement)

-- a statement waits for its blockers, of which there is one, where no cycle is closed
abbrev pub IsLockWait : History → ℕ → ℕ → List ℕ → Type 0
IsLockWait older session statement holders =
    (holders ≡ blockers_of older session statement) × (0 < length holders) × (cycle_of older session statement ≡ None)

-- A statement waits for its locks. A VACUUM does so where no vacuum runs; it waits for the background worker's vacuum,
-- too.
abbrev pub IsWaitOf : History → ℕ → ℕ → List ℕ → Turn → Type 0
IsWaitOf older session statement holders (Taking k (Sweeps table)) =
    ((sweeper older ≡ None) × IsLockWait older session statement holders)
    ⊎ ((sweeper older ≡ Some 0) × (holders ≡ 0 ∷ []))
IsWaitOf older session statement holders turn = IsLockWait older session statement holders

abbrev pub IsWait : History → ℕ → ℕ → List ℕ → Type 0
IsWait older session statement holders = IsWaitOf older session statement holders (turn_of older session)

-- a wait is legal where it is due and isn't the session's newest event
abbrev pub IsLegalWait : History → ℕ → ℕ → List ℕ → Type 0
IsLegalWait older session statement holders =
    IsWait older session statement holders
    × (newest_event session older.events ≢ Some (Wait session statement holders))

-- A statement is opened where no lock stands in its way and its names are bound in what the session sees. The snapshot
-- is its transaction's.
abbrev pub IsLegalOpened : History → ℕ → ℕ → ℕ → Route → Option Statement → Type 0
IsLegalOpened older session statement snapshot route None = ⊥
IsLegalOpened older session statement snapshot route (Some given) =
    (blockers_of older session statement ≡ [])
    × (bound_refusal given (def_of (view older session)) ≡ None)
    × (snapshot ≡ snapshot_due older session)
    × (route ≡ route_of older session snapshot given)

-- the refusal of an open statement that was run alone and gave this: its own, or the one of too many rows
abbrev pub work_refusal : Statement → Plain → Option Refusal
work_refusal statement (Done answer next) = limit_refusal statement next
work_refusal statement (PlainRefused refusal) = Some refusal

-- the answer is that of the statement run alone on what the session sees, and leaves no table with too many rows
abbrev pub IsLegalAnswer : Files → Option Statement → Tables → Reply → Type 0
IsLegalAnswer files None tables answer = ⊥
IsLegalAnswer files (Some statement) tables answer =
    (next : Tables) × (alone files statement tables ≡ Done answer next) × (limit_refusal statement next ≡ None)

-- the stamp is the next place, the watermarks are the transaction's, and the low one is above the high one
abbrev pub IsLegalCommit : History → ℕ → ℕ → ℕ → ℕ → Type 0
IsLegalCommit older session stamp low high =
    (stamp ≡ commits older.events + 1) × (low ≡ low_of older session) × (high ≡ high_of older session) × (high < low)

-- the watermarks are the transaction's, the low one is at most the high one, and the object is the one to be named
abbrev pub IsLegalViolation : History → ℕ → ℕ → ℕ → Object → Type 0
IsLegalViolation older session low high object =
    (low ≡ low_of older session) × (high ≡ high_of older session) × (low ≤ high) × (object_of older session ≡ Some object)

-- a refusal that comes where nothing stands in the way of the locks
abbrev pub unless_blocked : List ℕ → Option (List ℕ) → Option Refusal → Option Refusal
unless_blocked [] cycle refusal = refusal
unless_blocked (holder ∷ holders) None refusal = None
unless_blocked (holder ∷ holders) (Some cycle) refusal = Some (Deadlock cycle)

abbrev pub lock_refusal : History → ℕ → ℕ → Option Refusal → Option Refusal
lock_refusal older session statement otherwise =
    unless_blocked (blockers_of older session statement) (cycle_of older session statement) otherwise

-- the refusal where there is no such table
abbrev pub absent_refusal : List ℕ → Option Table → Option Refusal
absent_refusal name None = Some (Unknown name)
absent_refusal name (Some table) = None

abbrev pub table_refusal : List ℕ → Tables → Option Refusal
table_refusal name tables = absent_refusal name (map_of.get tables name)

-- The refusal of a VACUUM by the vacuum that runs: another session's refuses it, the background worker's makes it wait.
abbrev pub sweep_refusal : Option ℕ → Option Refusal → Option Refusal
sweep_refusal None otherwise = otherwise
sweep_refusal (Some zero) otherwise = None
sweep_refusal (Some (suc n)) otherwise = Some (Vacuuming (suc n))

-- The first refusal with which a statement isn't opened, in this order: that of the grammar; an aborted block; for a
-- VACUUM its block and another vacuum; a deadlock; that of its names and kinds. None where a wait is due before it.
-- Outside a block a VACUUM sees the committed database.
abbrev pub opening_refusal : History → ℕ → ℕ → Call → BlockState → Option Refusal
opening_refusal older session statement (IsForeign refusal) block = Some refusal
opening_refusal older session statement call Aborted = Some AbortedRefusal
opening_refusal older session statement (Sweeps table) Within = Some InBlock
opening_refusal older session statement (Sweeps table) Outside =
    sweep_refusal (sweeper older) (lock_refusal older session statement (table_refusal table (contents older)))
opening_refusal older session statement (Works given) block =
    lock_refusal older session statement (bound_refusal given (def_of (view older session)))
opening_refusal older session statement call block = None

-- the refusal of an open statement: what it gives when run alone on what the session sees
abbrev pub IsWorkRefusal : Files → Option Statement → Tables → Refusal → Type 0
IsWorkRefusal files None tables refusal = ⊥
IsWorkRefusal files (Some statement) tables refusal = work_refusal statement (alone files statement tables) ≡ Some refusal

-- a commit would be legal, so it may be refused for want of memory
abbrev pub IsCommitRefusal : History → ℕ → Refusal → Type 0
IsCommitRefusal older session refusal = (refusal ≡ Memory) × (high_of older session < low_of older session)

-- the refusal of the next statement
abbrev pub IsTakingRefusal : History → ℕ → Refusal → ℕ → Call → BlockState → Type 0
IsTakingRefusal older session refusal k Commits Within = IsCommitRefusal older session refusal
IsTakingRefusal older session refusal k call block = opening_refusal older session k call block ≡ Some refusal

-- A refusal is the first that applies. An open statement may also be refused for want of memory, and so may a commit
-- that would be legal.
abbrev pub IsRefusal : History → ℕ → ℕ → Refusal → Turn → Type 0
IsRefusal older session statement refusal (AnswerOf k) =
    (refusal ≡ Memory)
    ⊎ IsWorkRefusal older.world.files (statement_at older.world session statement) (view older session) refusal
IsRefusal older session statement refusal (CommitOf k) = IsCommitRefusal older session refusal
IsRefusal older session statement refusal (Taking k call) =
    IsTakingRefusal older session refusal k call (block_of older session)
IsRefusal older session statement refusal turn = ⊥

-- A vacuum begins where none runs, no lock stands in its way, and the table is among the committed ones.
abbrev pub IsLegalSweep : History → ℕ → List ℕ → Type 0
IsLegalSweep older session table =
    (sweeper older ≡ None) × (blockers (lock_state older) session (sweep_lock table ∷ []) ≡ [])
    × (table_refusal table (contents older) ≡ None)

-- A slice is rebuilt at the horizon just after the vacuum's event before.
abbrev pub IsLegalSlice : History → ℕ → ℕ → Type 0
IsLegalSlice older session due = due ≡ horizon (session_count older.world) (up_to_newest session older.events)

-- a refresh brings a cluster of the shape up to all commits
abbrev pub IsLegalRefresh : History → ℕ → ℕ → Type 0
IsLegalRefresh older cluster stamp =
    (1 ≤ cluster) × (cluster ≤ older.shape.clusters) × (stamp ≡ commits older.events)

-- The event, which follows, is legal after these older ones.
abbrev pub IsLegalAfter : History → Event → Type 0
IsLegalAfter older (Begin session statement) = Unit {0}
IsLegalAfter older (Pass session statement word) = Unit {0}
IsLegalAfter older (Wait session statement holders) = IsLegalWait older session statement holders
IsLegalAfter older (Opened session statement snapshot route) =
    IsLegalOpened older session statement snapshot route (statement_at older.world session statement)
IsLegalAfter older (Answer session statement answer) =
    IsLegalAnswer older.world.files (statement_at older.world session statement) (view older session) answer
IsLegalAfter older (Commit session statement stamp low high) = IsLegalCommit older session stamp low high
IsLegalAfter older (Violation session statement low high object) = IsLegalViolation older session low high object
IsLegalAfter older (Refuse session statement refusal) = IsRefusal older session statement refusal (turn_of older session)
IsLegalAfter older (Rollback session statement) = Unit {0}
IsLegalAfter older (VacuumBegin session statement table) = IsLegalSweep older session table
IsLegalAfter older (VacuumSlice session statement slice due) = IsLegalSlice older session due
IsLegalAfter older (VacuumEnd session statement) = Unit {0}
IsLegalAfter older (Refresh cluster stamp) = IsLegalRefresh older cluster stamp
IsLegalAfter older (End session) = Unit {0}

-- the event may come next: it follows from the scripts, and it is legal
abbrev pub IsNextEvent : History → Event → Type 0
IsNextEvent older event = FollowsAfter older event × IsLegalAfter older event

-- each of these events is legal after those before it
abbrev pub EachIsLegal : Shape → World → List Event → Type 0
EachIsLegal shape world [] = Unit {0}
EachIsLegal shape world (event ∷ older) =
    IsLegalAfter (record { shape = shape; world = world; events = older }) event × EachIsLegal shape world older

-- the journal is legal: each event follows after those before it and is legal after them
pub record IsLegal (world : World) (journal : Journal) : Type 0 where
  pub follows : EachFollows journal.shape world (events_of journal)
  pub legal : EachIsLegal journal.shape world (events_of journal)
