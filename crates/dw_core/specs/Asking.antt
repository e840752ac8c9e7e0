-- What asking for the locks of a session's next statement is answered, and what comes of it.
use Rattle.std.specs.Prelude.{◌≡◌, ◌≢◌, ◌<◌, ◌⊎◌, ℕ, List, [], length, Some}
use Rattle.dw_model.specs.declared.refusals.Refusal.TheVariants as refusals
use Rattle.dw_model.specs.declared.statements.Statement.{Statement}
use Rattle.dw_journal.specs.declared.BlockState.TheVariants.{Aborted}
use Rattle.dw_journal.specs.declared.Event.{Event}
use Rattle.dw_journal.specs.declared.Event.TheVariants.{Wait, Refuse}
use Rattle.dw_journal.specs.History.{History, newest_event, with_event}
use Rattle.dw_journal.specs.Blocks.{block_of}
use Rattle.dw_journal.specs.Turns.{Works, Taking, turn_of, number_due}
use Rattle.dw_journal.specs.Follows.{FollowsAfter}
use Rattle.dw_journal.specs.Legal.{IsLockWait, IsNextEvent, IsWait, blockers_of, cycle_of}
use Rattle.dw_locks.specs.declared.locks.Asked.{Asked}
use Rattle.dw_locks.specs.declared.locks.Asked.TheVariants.{Granted, Waits, Deadlock}
use Rattle.dw_core.specs.Traces.{LeavesNoTrace}

-- The session's next statement is one that is run on what the session sees, and its block isn't aborted: its locks are to
-- be asked for.
abbrev pub IsToAsk : History → ℕ → Type 0
IsToAsk history session =
    ((statement : Statement) × (turn_of history session ≡ Taking (number_due history session) (Works statement)))
    × (block_of history session ≢ Aborted)

-- the wait for these holders that is due of a session
abbrev pub wait_due : History → ℕ → List ℕ → Event
wait_due history session holders = Wait session (number_due history session) holders

-- the refusal that is due of a session which would close this cycle
abbrev pub deadlock_due : History → ℕ → List ℕ → Event
deadlock_due history session cycle = Refuse session (number_due history session) (refusals.Deadlock cycle)

-- The wait is due, and is one. It has happened, unless it is the session's newest event already, so that it would be
-- repeated.
abbrev pub HasWaited : History → ℕ → List ℕ → History → Type 0
HasWaited before session holders after =
    let wait = wait_due before session holders in
    FollowsAfter before wait × IsWait before session (number_due before session) holders
    × (((newest_event session before.events ≡ Some wait) × (after ≡ before))
    ⊎ ((newest_event session before.events ≢ Some wait) × (after ≡ with_event before wait)))

-- What is answered is what the definitions of locks say. Where nobody stands in the way, nothing has happened yet; else
-- the session waits for those who do, or its transaction is refused, which leaves no trace.
abbrev pub IsAnswered : History → ℕ → Asked → History → Type 0
IsAnswered before session Granted after =
    (blockers_of before session (number_due before session) ≡ []) × (after ≡ before)
IsAnswered before session (Waits holders) after =
    IsLockWait before session (number_due before session) holders × HasWaited before session holders after
IsAnswered before session (Deadlock cycle) after =
    (0 < length (blockers_of before session (number_due before session)))
    × (cycle_of before session (number_due before session) ≡ Some cycle)
    × IsNextEvent before (deadlock_due before session cycle)
    × (after ≡ with_event before (deadlock_due before session cycle)) × LeavesNoTrace before session after
