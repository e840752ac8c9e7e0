-- Which event is due, as a test: the turn of a session as it is kept, and whether an event is one that comes of it.
use Rattle.std.specs.Prelude.{ℕ, zero, suc, ◌+◌, Bool, true, false, ◌&&◌, nat_eq, List}
use Rattle.dw_model.specs.declared.answers.Word.{Word}
use Rattle.dw_model.specs.declared.answers.Word.TheVariants as words
use Rattle.dw_model.specs.Binding.{same_name}
use Rattle.dw_journal.specs.declared.BlockState.{BlockState}
use Rattle.dw_journal.specs.declared.BlockState.TheVariants.{Outside, Within, Aborted}
use Rattle.dw_journal.specs.declared.Event.{Event}
use Rattle.dw_journal.specs.declared.Event.TheVariants.{Begin, Pass, Wait, Opened, Answer, Commit, Violation, Refuse, Rollback, VacuumBegin, VacuumSlice, VacuumEnd, End}
use Rattle.dw_journal.specs.declared.World.{World}
use Rattle.dw_journal.specs.Worlds.{given_at}
use Rattle.dw_journal.specs.Turns.{Call, IsForeign, Begins, Commits, RollsBack, Sweeps, Works, Turn, AnswerOf, CommitOf, SliceOf, SweepEndOf, Taking, AtEnd, Idle, taking}
use Rattle.dw_journal.specs.Turns.{Nothing as NoTurn}
use Rattle.dw_judge.specs.declared.dues.Due.{Due}
use Rattle.dw_judge.specs.declared.dues.Due.TheVariants as due

-- the turn that is kept; a next statement that isn't there is the script's end
abbrev pub turn_kept : World → ℕ → Due → Turn
turn_kept world session due.Nothing = NoTurn
turn_kept world session (due.Answer k) = AnswerOf k
turn_kept world session (due.Commit k) = CommitOf k
turn_kept world session (due.Slice k slice) = SliceOf k slice
turn_kept world session (due.SweepEnd k) = SweepEndOf k
turn_kept world session (due.Take k) = taking k (given_at world session k)
turn_kept world session due.Idle = Idle

-- the turn of a session that has taken so many statements and has nothing under way
abbrev pub turn_between : World → ℕ → ℕ → Turn
turn_between world zero taken = Idle
turn_between world (suc n) taken = taking (taken + 1) (given_at world (suc n) (taken + 1))

-- words by their number
abbrev pub word_number : Word → ℕ
word_number words.Begin = 0
word_number words.Commit = 1
word_number words.Rollback = 2
word_number words.CreateTable = 3
word_number words.DropTable = 4
word_number words.LockTable = 5
word_number words.Insert = 6
word_number words.Select = 7

abbrev pub same_word : Word → Word → Bool
same_word a b = nat_eq (word_number a) (word_number b)

-- events of statement k
abbrev pub is_begin_of : ℕ → Event → Bool
is_begin_of k (Begin session statement) = nat_eq statement k
is_begin_of k event = false

abbrev pub is_pass_of : ℕ → Word → Event → Bool
is_pass_of k word (Pass session statement passed) = nat_eq statement k && same_word passed word
is_pass_of k word event = false

abbrev pub is_rollback_of : ℕ → Event → Bool
is_rollback_of k (Rollback session statement) = nat_eq statement k
is_rollback_of k event = false

abbrev pub is_refusal_of : ℕ → Event → Bool
is_refusal_of k (Refuse session statement refusal) = nat_eq statement k
is_refusal_of k event = false

abbrev pub is_answer_of : ℕ → Event → Bool
is_answer_of k (Answer session statement answer) = nat_eq statement k
is_answer_of k (Refuse session statement refusal) = nat_eq statement k
is_answer_of k event = false

abbrev pub is_decision_of : ℕ → Event → Bool
is_decision_of k (Commit session statement stamp low high) = nat_eq statement k
is_decision_of k (Violation session statement low high object) = nat_eq statement k
is_decision_of k (Refuse session statement refusal) = nat_eq statement k
is_decision_of k event = false

abbrev pub is_opening_of : ℕ → Event → Bool
is_opening_of k (Wait session statement holders) = nat_eq statement k
is_opening_of k (Refuse session statement refusal) = nat_eq statement k
is_opening_of k (Opened session statement snapshot route) = nat_eq statement k
is_opening_of k event = false

abbrev pub is_sweep_opening_of : ℕ → List ℕ → Event → Bool
is_sweep_opening_of k table (Wait session statement holders) = nat_eq statement k
is_sweep_opening_of k table (Refuse session statement refusal) = nat_eq statement k
is_sweep_opening_of k table (VacuumBegin session statement swept) = nat_eq statement k && same_name swept table
is_sweep_opening_of k table event = false

abbrev pub is_slice_of : ℕ → ℕ → Event → Bool
is_slice_of k slice (VacuumSlice session statement rebuilt horizon) = nat_eq statement k && nat_eq rebuilt slice
is_slice_of k slice event = false

abbrev pub is_sweep_end_of : ℕ → Event → Bool
is_sweep_end_of k (VacuumEnd session statement) = nat_eq statement k
is_sweep_end_of k event = false

abbrev pub is_end_of_script : Event → Bool
is_end_of_script (End session) = true
is_end_of_script event = false

abbrev pub is_idle_sweep : Event → Bool
is_idle_sweep (VacuumBegin session statement table) = nat_eq statement 0
is_idle_sweep event = false

-- an event of a BEGIN, by the block where its session stands
abbrev pub is_begin_taken : ℕ → BlockState → Event → Bool
is_begin_taken k Outside event = is_begin_of k event
is_begin_taken k Within event = is_pass_of k words.Begin event
is_begin_taken k Aborted event = is_refusal_of k event

-- of a COMMIT, where a transaction is open or not
abbrev pub is_decision_or_pass : ℕ → Bool → Event → Bool
is_decision_or_pass k true event = is_decision_of k event
is_decision_or_pass k false event = is_pass_of k words.Commit event

abbrev pub is_commit_taken : ℕ → BlockState → Bool → Event → Bool
is_commit_taken k Outside is_open event = is_pass_of k words.Commit event
is_commit_taken k Within is_open event = is_decision_or_pass k is_open event
is_commit_taken k Aborted is_open event = is_rollback_of k event

-- of a ROLLBACK
abbrev pub is_rollback_taken : ℕ → BlockState → Event → Bool
is_rollback_taken k Outside event = is_pass_of k words.Rollback event
is_rollback_taken k Within event = is_rollback_of k event
is_rollback_taken k Aborted event = is_rollback_of k event

-- of a VACUUM
abbrev pub is_sweep_taken : ℕ → List ℕ → BlockState → Event → Bool
is_sweep_taken k table Outside event = is_sweep_opening_of k table event
is_sweep_taken k table Within event = is_refusal_of k event
is_sweep_taken k table Aborted event = is_refusal_of k event

-- of any other statement
abbrev pub is_work_taken : ℕ → BlockState → Event → Bool
is_work_taken k Outside event = is_opening_of k event
is_work_taken k Within event = is_opening_of k event
is_work_taken k Aborted event = is_refusal_of k event

-- of what the next statement calls for
abbrev pub is_taken_of : ℕ → Call → BlockState → Bool → Event → Bool
is_taken_of k (IsForeign refusal) block is_open event = is_refusal_of k event
is_taken_of k Begins block is_open event = is_begin_taken k block event
is_taken_of k Commits block is_open event = is_commit_taken k block is_open event
is_taken_of k RollsBack block is_open event = is_rollback_taken k block event
is_taken_of k (Sweeps table) block is_open event = is_sweep_taken k table block event
is_taken_of k (Works statement) block is_open event = is_work_taken k block event

-- whether the event is due at this turn of its session, where a transaction is open or not
abbrev pub is_due_at : BlockState → Bool → Turn → Event → Bool
is_due_at block is_open NoTurn event = false
is_due_at block is_open (AnswerOf k) event = is_answer_of k event
is_due_at block is_open (CommitOf k) event = is_decision_of k event
is_due_at block is_open (SliceOf k slice) event = is_slice_of k slice event
is_due_at block is_open (SweepEndOf k) event = is_sweep_end_of k event
is_due_at block is_open (Taking k call) event = is_taken_of k call block is_open event
is_due_at block is_open AtEnd event = is_end_of_script event
is_due_at block is_open Idle event = is_idle_sweep event
