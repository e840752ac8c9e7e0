-- Whose turn it is to do what: what is due of a session after some events, by its script.
use Rattle.std.specs.Prelude.{ℕ, zero, suc, ◌+◌, nat_lt, if◌then◌else◌, List, Option, Some, None}
use Rattle.dw_model.specs.declared.refusals.Refusal.{Refusal}
use Rattle.dw_model.specs.declared.statements.Statement.{Statement}
use Rattle.dw_model.specs.declared.statements.Statement.TheVariants as forms
use Rattle.dw_journal.specs.declared.Event.{Event}
use Rattle.dw_journal.specs.declared.Event.TheVariants.{Opened, Answer, VacuumBegin, VacuumSlice, End}
use Rattle.dw_journal.specs.declared.Given.{Given}
use Rattle.dw_journal.specs.declared.Given.TheVariants.{Read, Refused}
use Rattle.dw_journal.specs.declared.Shape.{Shape}
use Rattle.dw_journal.specs.Worlds.{given_at, statement_at}
use Rattle.dw_journal.specs.History.{History, newest_event, statements_taken}
use Rattle.dw_journal.specs.declared.BlockState.{BlockState}
use Rattle.dw_journal.specs.declared.BlockState.TheVariants.{Outside, Within, Aborted}
use Rattle.dw_journal.specs.Blocks.{block_of}
use Rattle.dw_journal.specs.Vacuums.{slices_in}

-- what a statement of a script calls for
pub data Call : Type 0 where
  -- it isn't in the grammar, and this is its refusal
  IsForeign : Refusal → Call
  -- BEGIN
  Begins : Call
  -- COMMIT
  Commits : Call
  -- ROLLBACK
  RollsBack : Call
  -- VACUUM of this table
  Sweeps : List ℕ → Call
  -- any other statement: it is run on what the session sees
  Works : Statement → Call

abbrev pub call_of_statement : Statement → Call
call_of_statement forms.Begin = Begins
call_of_statement forms.Commit = Commits
call_of_statement forms.Rollback = RollsBack
call_of_statement (forms.Vacuum table) = Sweeps table
call_of_statement (forms.Create spec) = Works (forms.Create spec)
call_of_statement (forms.Drop table) = Works (forms.Drop table)
call_of_statement (forms.Lock tables) = Works (forms.Lock tables)
call_of_statement (forms.Insert table columns rows) = Works (forms.Insert table columns rows)
call_of_statement (forms.Select query) = Works (forms.Select query)

abbrev pub call_of : Given → Call
call_of (Refused refusal) = IsForeign refusal
call_of (Read statement) = call_of_statement statement

-- what is due of a session
pub data Turn : Type 0 where
  -- nothing: its script is at its end
  Nothing : Turn
  -- the answer of this statement, which is open
  AnswerOf : ℕ → Turn
  -- the commit of this statement, which was answered outside a block
  CommitOf : ℕ → Turn
  -- this statement's vacuum has this slice to rebuild
  SliceOf : ℕ → ℕ → Turn
  -- this statement's vacuum has rebuilt all slices
  SweepEndOf : ℕ → Turn
  -- this statement is to be taken, which calls for this
  Taking : ℕ → Call → Turn
  -- no statement is left
  AtEnd : Turn
  -- the background worker may begin a vacuum
  Idle : Turn

-- the statement to be taken, where one is left
abbrev pub taking : ℕ → Option Given → Turn
taking statement None = AtEnd
taking statement (Some given) = Taking statement (call_of given)

-- where nothing is under way, the next statement is taken; the background worker has none
abbrev pub next_turn : History → ℕ → Turn
next_turn history zero = Idle
next_turn history (suc n) =
    let k = statements_taken (suc n) history.events + 1 in taking k (given_at history.world (suc n) k)

-- a vacuum goes on with this slice, if there is one
abbrev pub sweeping : Shape → ℕ → ℕ → Turn
sweeping shape statement slice = if nat_lt slice (slices_in shape) then SliceOf statement slice else SweepEndOf statement

-- an answered statement outside a block is committed; in a block the next one is taken
abbrev pub answered_turn : BlockState → ℕ → Turn → Turn
answered_turn Outside statement next = CommitOf statement
answered_turn Within statement next = next
answered_turn Aborted statement next = next

-- what is due, by the session's newest event
abbrev pub turn_after : Shape → BlockState → Option Event → Turn → Turn
turn_after shape block (Some (Opened session statement snapshot route)) next = AnswerOf statement
turn_after shape block (Some (Answer session statement answer)) next = answered_turn block statement next
turn_after shape block (Some (VacuumBegin session statement table)) next = sweeping shape statement 0
turn_after shape block (Some (VacuumSlice session statement slice horizon)) next = sweeping shape statement (slice + 1)
turn_after shape block (Some (End session)) next = Nothing
turn_after shape block event next = next

-- what is due of a session
abbrev pub turn_of : History → ℕ → Turn
turn_of history session =
    turn_after history.shape (block_of history session) (newest_event session history.events) (next_turn history session)

-- the statement that a turn is of; 0 where it is of none
abbrev pub number_of : Turn → ℕ
number_of Nothing = 0
number_of (AnswerOf k) = k
number_of (CommitOf k) = k
number_of (SliceOf k slice) = k
number_of (SweepEndOf k) = k
number_of (Taking k call) = k
number_of AtEnd = 0
number_of Idle = 0

-- the number of the statement that is due of a session
abbrev pub number_due : History → ℕ → ℕ
number_due history session = number_of (turn_of history session)

-- that statement, where the grammar read it
abbrev pub statement_due : History → ℕ → Option Statement
statement_due history session = statement_at history.world session (number_due history session)
