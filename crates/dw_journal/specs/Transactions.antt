-- Transactions: what a session does between its first opened statement and its commit, and what that reads and writes.
use Rattle.std.specs.Prelude.{ℕ, min, if◌then◌else◌, List, [], ◌∷◌, map, reverse, length, Option, Some, None, option_map, unwrap_or}
use Rattle.std.specs.List.{filter_map, fold, range_with_len}
use Rattle.dw_model.specs.declared.answers.Answer.{Answer as Reply}
use Rattle.dw_model.specs.declared.statements.Statement.{Statement}
use Rattle.dw_model.specs.declared.objects.Object.{Object}
use Rattle.dw_model.specs.Objects.{reads_of, writes_of, with_objects}
use Rattle.dw_journal.specs.declared.Event.{Event}
use Rattle.dw_journal.specs.declared.Event.TheVariants.{Begin, Pass, Wait, Opened, Answer, Commit, Violation, Refuse, Rollback, VacuumBegin, VacuumSlice, VacuumEnd, Refresh, End}
use Rattle.dw_journal.specs.declared.Taken.{Taken}
use Rattle.dw_journal.specs.declared.World.{World}
use Rattle.dw_journal.specs.Worlds.{statement_at}
use Rattle.dw_journal.specs.History.{History, is_of}

-- a transaction: the number of commits that it sees, and its answered statements with their answers, the latest first
pub record Transaction : Type 0 where
  pub snapshot : ℕ
  pub answered : List (ℕ × Reply)

-- a statement is opened: it begins a transaction, or goes on with the one that is there
abbrev pub opened_in : ℕ → Option Transaction → Option Transaction
opened_in snapshot None = Some (record { snapshot = snapshot; answered = [] })
opened_in snapshot (Some transaction) = Some transaction

-- a statement of it is answered
abbrev pub answered_in : ℕ → Reply → Option Transaction → Option Transaction
answered_in statement answer None = None
answered_in statement answer (Some transaction) =
    Some (record { snapshot = transaction.snapshot; answered = (statement, answer) ∷ transaction.answered })

-- what an event of its session makes of a transaction
abbrev pub transaction_after : Event → Option Transaction → Option Transaction
transaction_after (Begin session statement) before = before
transaction_after (Pass session statement word) before = before
transaction_after (Wait session statement holders) before = before
transaction_after (Opened session statement snapshot route) before = opened_in snapshot before
transaction_after (Answer session statement answer) before = answered_in statement answer before
transaction_after (Commit session statement stamp low high) before = None
transaction_after (Violation session statement low high object) before = None
transaction_after (Refuse session statement refusal) before = None
transaction_after (Rollback session statement) before = None
transaction_after (VacuumBegin session statement table) before = before
transaction_after (VacuumSlice session statement slice horizon) before = before
transaction_after (VacuumEnd session statement) before = before
transaction_after (Refresh cluster stamp) before = before
transaction_after (End session) before = None

-- the session's open transaction: it begins at the first statement that is opened since the last one ended, and ends at
-- a commit, a violation, any refusal, a rollback, and the script's end
abbrev pub transaction_of : ℕ → List Event → Option Transaction
transaction_of session [] = None
transaction_of session (event ∷ older) =
    if is_of session event then transaction_after event (transaction_of session older) else transaction_of session older

-- the statements that were opened in a session's open transaction, the latest first
abbrev pub opened_after : Event → List ℕ → List ℕ
opened_after (Begin session statement) before = before
opened_after (Pass session statement word) before = before
opened_after (Wait session statement holders) before = before
opened_after (Opened session statement snapshot route) before = statement ∷ before
opened_after (Answer session statement answer) before = before
opened_after (Commit session statement stamp low high) before = []
opened_after (Violation session statement low high object) before = []
opened_after (Refuse session statement refusal) before = []
opened_after (Rollback session statement) before = []
opened_after (VacuumBegin session statement table) before = before
opened_after (VacuumSlice session statement slice horizon) before = before
opened_after (VacuumEnd session statement) before = before
opened_after (Refresh cluster stamp) before = before
opened_after (End session) before = []

abbrev pub opened_statements : ℕ → List Event → List ℕ
opened_statements session [] = []
opened_statements session (event ∷ older) =
    if is_of session event then opened_after event (opened_statements session older) else opened_statements session older

-- the snapshot of a session's open transaction, if one is open
abbrev pub snapshot_in : Option Transaction → Option ℕ
snapshot_in transaction = option_map (λ transaction. transaction.snapshot) transaction

abbrev pub snapshot_of : ℕ → List Event → Option ℕ
snapshot_of session events = snapshot_in (transaction_of session events)

-- a committed transaction; its stamp is its place among the commits, from 1
pub record CommittedTransaction : Type 0 where
  pub session : ℕ
  pub stamp : ℕ
  pub low : ℕ
  pub snapshot : ℕ
  -- the statements that were opened in it, the latest first, and the answered ones with their answers
  pub opened : List ℕ
  pub answered : List (ℕ × Reply)

-- the session's transaction as it is committed; none is there in no legal journal
abbrev pub committed_as : ℕ → ℕ → ℕ → List ℕ → Option Transaction → CommittedTransaction
committed_as session stamp low opened None =
    record { session = session; stamp = stamp; low = low; snapshot = 0; opened = opened; answered = [] }
committed_as session stamp low opened (Some transaction) =
    record {
      session = session;
      stamp = stamp;
      low = low;
      snapshot = transaction.snapshot;
      opened = opened;
      answered = transaction.answered;
    }

-- the committed transactions, newest first
abbrev pub committed : List Event → List CommittedTransaction
committed [] = []
committed (Begin session statement ∷ older) = committed older
committed (Pass session statement word ∷ older) = committed older
committed (Wait session statement holders ∷ older) = committed older
committed (Opened session statement snapshot route ∷ older) = committed older
committed (Answer session statement answer ∷ older) = committed older
committed (Commit session statement stamp low high ∷ older) =
    committed_as session stamp low (opened_statements session older) (transaction_of session older) ∷ committed older
committed (Violation session statement low high object ∷ older) = committed older
committed (Refuse session statement refusal ∷ older) = committed older
committed (Rollback session statement ∷ older) = committed older
committed (VacuumBegin session statement table ∷ older) = committed older
committed (VacuumSlice session statement slice horizon ∷ older) = committed older
committed (VacuumEnd session statement ∷ older) = committed older
committed (Refresh cluster stamp ∷ older) = committed older
committed (End session ∷ older) = committed older

-- how many transactions were committed
abbrev pub commits : List Event → ℕ
commits events = length (committed events)

-- the least number so far, with one more
abbrev pub least_with : Option ℕ → ℕ → Option ℕ
least_with None number = Some number
least_with (Some least) number = Some (min least number)

-- the least of these numbers, if there is one
abbrev pub least_of : List ℕ → Option ℕ
least_of numbers = fold least_with None numbers

-- the snapshots of the open transactions of these many sessions
abbrev pub open_snapshots : ℕ → List Event → List ℕ
open_snapshots sessions events = filter_map (λ session. snapshot_of session events) (range_with_len 1 sessions)

-- the horizon: the least snapshot of an open transaction, or all commits where none is open
abbrev pub horizon : ℕ → List Event → ℕ
horizon sessions events = unwrap_or (least_of (open_snapshots sessions events)) (commits events)

-- a statement of a session with its answer, where the script has that statement
abbrev pub statement_with : Option Statement → Reply → Option (Statement × Reply)
statement_with None answer = None
statement_with (Some statement) answer = Some (statement, answer)

-- the answered statements of a session's transaction with their answers, in order
abbrev pub answered_statements : World → ℕ → List (ℕ × Reply) → List (Statement × Reply)
answered_statements world session answered =
    filter_map (λ pair. statement_with (statement_at world session pair.0) pair.1) (reverse answered)

-- those statements alone
abbrev pub statements_in : World → ℕ → List (ℕ × Reply) → List Statement
statements_in world session answered = map (λ pair. pair.0) (answered_statements world session answered)

-- the objects that a statement has, if it is there
abbrev pub objects_by : (Statement → List Object) → Option Statement → List Object
objects_by objects None = []
objects_by objects (Some statement) = objects statement

-- the objects that these statements of a session's script have, each once, in ascending order
abbrev pub objects_over : (Statement → List Object) → World → ℕ → List ℕ → List Object
objects_over objects world session [] = []
objects_over objects world session (statement ∷ earlier) =
    with_objects (objects_by objects (statement_at world session statement)) (objects_over objects world session earlier)

-- What a transaction of a session took that sees so many commits, and in which these statements were opened: the union
-- of what they read, and of what they write.
abbrev pub taken_over : World → ℕ → List ℕ → ℕ → Taken
taken_over world session opened snapshot =
    record {
      snapshot = snapshot;
      reads = objects_over reads_of world session opened;
      writes = objects_over writes_of world session opened;
    }

-- what a session's open transaction took, the open statement's objects among it
abbrev pub taken_of : History → ℕ → Option Taken
taken_of history session =
    option_map (taken_over history.world session (opened_statements session history.events)) (snapshot_of session history.events)

-- the objects that a session's open transaction has written
abbrev pub written_in : Option Taken → List Object
written_in None = []
written_in (Some taken) = taken.writes

-- what a committed transaction took
abbrev pub taken_by : World → CommittedTransaction → Taken
taken_by world commit = taken_over world commit.session commit.opened commit.snapshot
