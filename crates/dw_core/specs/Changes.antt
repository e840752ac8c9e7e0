-- How an event of a session changes what is kept of it.
use Rattle.std.specs.Prelude.{◌≡◌, ℕ, Bool, true, false, if◌then◌else◌, List, [], Option, Some, None}
use Rattle.std.specs.List.{slice_set}
use Rattle.dw_model.specs.declared.statements.Statement.{Statement}
use Rattle.dw_model.specs.Objects.{reads_of, writes_of, with_objects, IsAscendingObjects}
use Rattle.dw_journal.specs.declared.BlockState.{BlockState}
use Rattle.dw_journal.specs.declared.BlockState.TheVariants.{Outside, Within, Aborted}
use Rattle.dw_journal.specs.declared.Event.{Event}
use Rattle.dw_journal.specs.declared.Event.TheVariants.{Begin, Pass, Wait, Opened, Answer, Commit, Violation, Refuse, Rollback, End}
use Rattle.dw_journal.specs.declared.World.{World}
use Rattle.dw_journal.specs.History.{History, statements_after}
use Rattle.dw_journal.specs.Blocks.{block_after}
use Rattle.dw_journal.specs.Transactions.{objects_by}
use Rattle.dw_journal.specs.Turns.{AnswerOf, number_due, turn_of}
use Rattle.dw_locks.specs.LockTable.{LockTable, free_entry}
use Rattle.dw_core.specs.declared.sessions.Session.{Session}
use Rattle.dw_core.specs.declared.sessions.Stage.{Stage}
use Rattle.dw_core.specs.declared.sessions.Stage.TheVariants as stages
use Rattle.dw_core.specs.declared.transactions.Footprint.{Footprint}
use Rattle.dw_core.specs.declared.transactions.Transaction.{Transaction}

-- an answered statement outside a block is to be committed
abbrev pub answered_stage : BlockState → Stage
answered_stage Outside = stages.Answered
answered_stage Within = stages.Between
answered_stage Aborted = stages.Between

-- how far a session has come with its statement once it has this event, and then stands in this block
abbrev pub stage_after : Event → BlockState → Stage
stage_after (Opened session statement snapshot route) block = stages.Opened
stage_after (Answer session statement answer) block = answered_stage block
stage_after (End session) block = stages.Ended
stage_after event block = stages.Between

-- whether the session's transaction ends with this event
abbrev pub ends_transaction : Event → Bool
ends_transaction (Commit session statement stamp low high) = true
ends_transaction (Violation session statement low high object) = true
ends_transaction (Refuse session statement refusal) = true
ends_transaction (Rollback session statement) = true
ends_transaction (End session) = true
ends_transaction event = false

-- the table of locks once the session has this event: a transaction that ends releases its locks; what an opened statement
-- is granted, and what a session waits for, is in the table before
abbrev pub locks_after : Event → ℕ → LockTable → LockTable
locks_after event session table = if ends_transaction event then slice_set table session free_entry else table

-- the holders that a session waits for, once it has this event; those of a wait are kept before
abbrev pub waits_after : Event → Option (List ℕ) → Option (List ℕ)
waits_after (Wait session statement holders) before = before
waits_after event before = None

-- what is kept of a session once it has this event; what an opened statement takes is kept before
abbrev pub session_after : World → Event → Session → Session
session_after world event kept = record {
  taken = statements_after event kept.taken;
  stage = stage_after event (block_after world event kept.block);
  block = block_after world event kept.block;
  transaction = if ends_transaction event then None else kept.transaction;
  waits = waits_after event kept.waits;
}

-- what a statement takes, if it is there
abbrev pub footprint_of : Option Statement → Footprint
footprint_of statement =
    record {
      reads = objects_by reads_of statement;
      writes = objects_by writes_of statement;
      named = objects_by reads_of statement;
    }

-- a transaction that takes these objects, too
abbrev pub wider_transaction : Footprint → Transaction → Transaction
wider_transaction more kept = record {
  taken = record {
    snapshot = kept.taken.snapshot;
    reads = with_objects more.reads kept.taken.reads;
    writes = with_objects more.writes kept.taken.writes;
  };
  named = with_objects more.named kept.named;
}

-- what is kept once a statement is opened that takes these objects, and that begins a transaction of this snapshot
-- where none is open
abbrev pub opened_transaction : Footprint → ℕ → Option Transaction → Transaction
opened_transaction more snapshot None =
    wider_transaction more (record { taken = record { snapshot = snapshot; reads = []; writes = [] }; named = [] })
opened_transaction more snapshot (Some kept) = wider_transaction more kept

-- the sets of a transaction ascend
pub record AreSets (kept : Transaction) : Type 0 where
  pub reads : IsAscendingObjects kept.taken.reads
  pub writes : IsAscendingObjects kept.taken.writes
  pub named : IsAscendingObjects kept.named

-- An event of this session that opens nothing and decides on no commit. It leaves the locks, the vacuums and the
-- clusters as they are, but that its session may hold no lock any more.
abbrev pub IsPlain : ℕ → Event → Type 0
IsPlain session (Begin other statement) = other ≡ session
IsPlain session (Pass other statement word) = other ≡ session
IsPlain session (Answer other statement answer) = other ≡ session
IsPlain session (Refuse other statement refusal) = other ≡ session
IsPlain session (Rollback other statement) = other ≡ session
IsPlain session (End other) = other ≡ session
IsPlain session event = ⊥

-- Room is kept for the answer or the refusal of an open statement, and for the end of a block.
abbrev pub HasRoomKept : History → ℕ → Event → Type 0
HasRoomKept history session (Answer other statement answer) = Unit {0}
HasRoomKept history session (Refuse other statement refusal) =
    turn_of history session ≡ AnswerOf (number_due history session)
HasRoomKept history session (Rollback other statement) = Unit {0}
HasRoomKept history session event = ⊥
