-- How much of its script a session has before it: why a run ends.
use Rattle.std.specs.Prelude.{ℕ, ◌+◌, ◌-◌, ◌*◌, Bool, true, false, length}
use Rattle.dw_journal.specs.declared.Event.{Event}
use Rattle.dw_journal.specs.declared.Event.TheVariants.{Begin, Pass, Wait, Opened, Answer, Commit, Violation, Refuse, Rollback, VacuumBegin, VacuumSlice, VacuumEnd, Refresh, End}
use Rattle.dw_journal.specs.Worlds.{script_of}
use Rattle.dw_journal.specs.History.{History, statements_taken}
use Rattle.dw_journal.specs.Turns.{Turn, Nothing, AnswerOf, CommitOf, SliceOf, SweepEndOf, Taking, AtEnd, Idle, turn_of}

-- the most events that the turn and those up to the next statement have before them
abbrev pub weight : Turn → ℕ
weight Nothing = 0
weight (AnswerOf k) = 3
weight (CommitOf k) = 2
weight (SliceOf k slice) = 1
weight (SweepEndOf k) = 1
weight (Taking k call) = 1
weight AtEnd = 1
weight Idle = 1

-- the most events that a session has before it: up to three for each statement that it hasn't taken, and its end
abbrev pub events_left : History → ℕ → ℕ
events_left history session =
    3 * (length (script_of history.world session) - statements_taken session history.events) + weight (turn_of history session)

-- whether an event is a wait, of a vacuum or of a scaling cluster: these bring no session nearer to its end
abbrev pub waits_or_sweeps : Event → Bool
waits_or_sweeps (Begin session statement) = false
waits_or_sweeps (Pass session statement word) = false
waits_or_sweeps (Wait session statement holders) = true
waits_or_sweeps (Opened session statement snapshot route) = false
waits_or_sweeps (Answer session statement answer) = false
waits_or_sweeps (Commit session statement stamp low high) = false
waits_or_sweeps (Violation session statement low high object) = false
waits_or_sweeps (Refuse session statement refusal) = false
waits_or_sweeps (Rollback session statement) = false
waits_or_sweeps (VacuumBegin session statement table) = true
waits_or_sweeps (VacuumSlice session statement slice horizon) = true
waits_or_sweeps (VacuumEnd session statement) = true
waits_or_sweeps (Refresh cluster stamp) = true
waits_or_sweeps (End session) = false
