-- A session that takes its next statement outside a block holds no lock; nor does one that has ended, nor the background
-- worker between its vacuums.
use Rattle.std.proofs.Common.{◌≡◌, ℕ, zero, suc, ◌+◌, Bool, true, false, List, [], ◌∷◌, ◌++◌, ap, refl, ◌∙◌, subst}
use Rattle.std.specs.Prelude.{Option, Some, None, flat_map, if◌then◌else◌}
use Rattle.std.proofs.lemmas.Bool.{eqb-true}
use Rattle.dw_journal.specs.declared.BlockState.{BlockState}
use Rattle.dw_journal.specs.declared.BlockState.TheVariants.{Outside, Within, Aborted}
use Rattle.dw_journal.specs.declared.Event.{Event}
use Rattle.dw_journal.specs.declared.Event.TheVariants.{Begin, Pass, Wait, Opened, Answer, Commit, Violation, Refuse, Rollback, VacuumBegin, VacuumSlice, VacuumEnd, Refresh, End}
use Rattle.dw_journal.specs.declared.Given.{Given}
use Rattle.dw_journal.specs.declared.Route.{Route}
use Rattle.dw_journal.specs.declared.Shape.{Shape}
use Rattle.dw_journal.specs.declared.World.{World}
use Rattle.dw_journal.specs.Worlds.{given_at}
use Rattle.dw_journal.specs.History.{History, has_ended, is_end, is_of, is_session, session_of, newest_event, statements_taken}
use Rattle.dw_journal.specs.Blocks.{block_of, block_by, block_after}
use Rattle.dw_journal.specs.Locks.{LockState, held_locks, sweep_locks}
use Rattle.dw_journal.specs.Transactions.{Transaction, opened_after, opened_statements}
use Rattle.dw_journal.specs.Turns.{Call, Sweeps, Works, Turn, Nothing, AnswerOf, CommitOf, SliceOf, SweepEndOf, Taking, AtEnd, Idle, turn_of, turn_after, next_turn, taking}
use Rattle.dw_journal.specs.Vacuums.{swept_after, swept_by}
use Rattle.dw_journal.specs.Follows.{IsAnswer, is_answer, is_answer_refused, IsDecision, is_commit, is_violation, is_commit_refused, is_wait, is_opening_refused, is_opened, IsSweepOpening, is_sweep_wait, is_sweep_refused, is_sweep_begin, foreign, begin_outside, begin_within, begin_aborted, commit_outside, commit_of_nothing, commit_within, commit_aborted, rollback_outside, rollback_within, rollback_aborted, vacuum_outside, vacuum_within, vacuum_aborted, work_outside, work_within, work_aborted, IsDue, answers, decides, rebuilds, has_rebuilt, takes, ends, sweeps, FollowsAfter, EachFollows}
use Rattle.dw_journal.proofs.OneJournal.{due_of}
use Rattle.dw_journal.proofs.OpenedStatements.{AreAnswered, is_reply, settled_at}

-- outside a block no statement is open
abbrev Unless : BlockState → List ℕ → Type 0
Unless Outside opened = opened ≡ []
Unless Within opened = Unit {0}
Unless Aborted opened = Unit {0}

unless_none : (block : BlockState) → Unless block []
unless_none Outside = refl
unless_none Within = tt
unless_none Aborted = tt

-- what a session holds, by its newest event: statements are open outside a block only until they are committed, and a
-- vacuum runs only where it goes on
abbrev Holds : BlockState → Option Event → List ℕ → Option (List ℕ) → Type 0
Holds block (Some (Opened session k snapshot route)) opened swept = swept ≡ None
Holds Outside (Some (Answer session k answer)) opened swept = swept ≡ None
Holds block (Some (VacuumBegin session k table)) opened swept = Unless block opened
Holds block (Some (VacuumSlice session k slice horizon)) opened swept = Unless block opened
Holds block newest opened swept = Unless block opened × (swept ≡ None)

-- what it holds by what is due of it
abbrev HoldsAt : Turn → BlockState → List ℕ → Option (List ℕ) → Type 0
HoldsAt Nothing block opened swept = Unit {0}
HoldsAt (AnswerOf k) block opened swept = swept ≡ None
HoldsAt (CommitOf k) block opened swept = swept ≡ None
HoldsAt (SliceOf k slice) block opened swept = Unless block opened
HoldsAt (SweepEndOf k) block opened swept = Unless block opened
HoldsAt (Taking k call) block opened swept = Unless block opened × (swept ≡ None)
HoldsAt AtEnd block opened swept = Unless block opened × (swept ≡ None)
HoldsAt Idle block opened swept = Unless block opened × (swept ≡ None)

sweeping_holds : (k slice : ℕ) (block : BlockState) (opened : List ℕ) (swept : Option (List ℕ)) (b : Bool) → Unless block opened
    → HoldsAt (if b then SliceOf k slice else SweepEndOf k) block opened swept
sweeping_holds k slice block opened swept true holds = holds
sweeping_holds k slice block opened swept false holds = holds

due_holds : (shape : Shape) (block : BlockState) (newest : Option Event) (next : Turn) (opened : List ℕ) (swept : Option (List ℕ))
    → (Unless block opened × (swept ≡ None) → HoldsAt next block opened swept) → Holds block newest opened swept
    → HoldsAt (turn_after shape block newest next) block opened swept
due_holds shape block None next opened swept so holds = so holds
due_holds shape block (Some (Begin s k)) next opened swept so holds = so holds
due_holds shape block (Some (Pass s k word)) next opened swept so holds = so holds
due_holds shape block (Some (Wait s k holders)) next opened swept so holds = so holds
due_holds shape block (Some (Opened s k snapshot route)) next opened swept so holds = holds
due_holds shape Outside (Some (Answer s k answer)) next opened swept so holds = holds
due_holds shape Within (Some (Answer s k answer)) next opened swept so holds = so holds
due_holds shape Aborted (Some (Answer s k answer)) next opened swept so holds = so holds
due_holds shape block (Some (Commit s k stamp low high)) next opened swept so holds = so holds
due_holds shape block (Some (Violation s k low high object)) next opened swept so holds = so holds
due_holds shape block (Some (Refuse s k refusal)) next opened swept so holds = so holds
due_holds shape block (Some (Rollback s k)) next opened swept so holds = so holds
due_holds shape block (Some (VacuumBegin s k table)) next opened swept so holds = sweeping_holds k 0 block opened swept _ holds
due_holds shape block (Some (VacuumSlice s k slice horizon)) next opened swept so holds = sweeping_holds k (slice + 1) block opened swept _ holds
due_holds shape block (Some (VacuumEnd s k)) next opened swept so holds = so holds
due_holds shape block (Some (Refresh cluster stamp)) next opened swept so holds = so holds
due_holds shape block (Some (End s)) next opened swept so holds = tt

taking_holds : (k : ℕ) (given : Option Given) (block : BlockState) (opened : List ℕ) (swept : Option (List ℕ)) → Unless block opened × (swept ≡ None)
    → HoldsAt (taking k given) block opened swept
taking_holds k None block opened swept holds = holds
taking_holds k (Some given) block opened swept holds = holds

next_holds : (history : History) (session : ℕ) (block : BlockState) (opened : List ℕ) (swept : Option (List ℕ)) → Unless block opened × (swept ≡ None)
    → HoldsAt (next_turn history session) block opened swept
next_holds history zero block opened swept holds = holds
next_holds history (suc n) block opened swept holds =
    taking_holds (statements_taken (suc n) history.events + 1) (given_at history.world (suc n) (statements_taken (suc n) history.events + 1)) block opened swept holds

module _ (world : World) (opened : List ℕ) (swept : Option (List ℕ)) where
  abbrev HoldsNow : BlockState → Event → Type 0
  HoldsNow block event = Holds (block_after world event block) (Some event) (opened_after event opened) (swept_after event swept)

  own_holds : {session : ℕ} {block : BlockState} {transaction : Option Transaction} {turn : Turn} {event : Event}
      → IsDue session block transaction turn event → (is_reply event ≡ false → AreAnswered opened transaction) → HoldsAt turn block opened swept
      → HoldsNow block event
  own_holds {block = Outside} (answers (is_answer answer)) settled holds = holds
  own_holds {block = Within} (answers (is_answer answer)) settled holds = (tt, holds)
  own_holds {block = Aborted} (answers (is_answer answer)) settled holds = (tt, holds)
  own_holds (answers (is_answer_refused refusal)) settled holds = (unless_none _, holds)
  own_holds (decides (is_commit stamp low high)) settled holds = (refl, holds)
  own_holds (decides (is_violation low high object)) settled holds = (refl, holds)
  own_holds (decides (is_commit_refused refusal)) settled holds = (unless_none _, holds)
  own_holds rebuilds settled holds = holds
  own_holds has_rebuilt settled holds = (holds, refl)
  own_holds (takes foreign) settled holds = (unless_none _, holds.1)
  own_holds (takes begin_outside) settled holds = (tt, holds.1)
  own_holds (takes begin_within) settled holds = (tt, holds.1)
  own_holds (takes begin_aborted) settled holds = (unless_none _, holds.1)
  own_holds (takes commit_outside) settled holds = holds
  own_holds (takes commit_of_nothing) settled holds = (settled refl, holds.1)
  own_holds (takes (commit_within (is_commit stamp low high))) settled holds = (refl, holds.1)
  own_holds (takes (commit_within (is_violation low high object))) settled holds = (refl, holds.1)
  own_holds (takes (commit_within (is_commit_refused refusal))) settled holds = (unless_none _, holds.1)
  own_holds (takes commit_aborted) settled holds = (refl, holds.1)
  own_holds (takes rollback_outside) settled holds = holds
  own_holds (takes rollback_within) settled holds = (refl, holds.1)
  own_holds (takes rollback_aborted) settled holds = (refl, holds.1)
  own_holds (takes (vacuum_outside (is_sweep_wait holders))) settled holds = holds
  own_holds (takes (vacuum_outside (is_sweep_refused refusal))) settled holds = (unless_none _, holds.1)
  own_holds (takes (vacuum_outside is_sweep_begin)) settled holds = holds.0
  own_holds (takes vacuum_within) settled holds = (unless_none _, holds.1)
  own_holds (takes vacuum_aborted) settled holds = (unless_none _, holds.1)
  own_holds (takes (work_outside (is_wait holders))) settled holds = holds
  own_holds (takes (work_outside (is_opening_refused refusal))) settled holds = (unless_none _, holds.1)
  own_holds (takes (work_outside (is_opened snapshot route))) settled holds = holds.1
  own_holds (takes (work_within (is_wait holders))) settled holds = holds
  own_holds (takes (work_within (is_opening_refused refusal))) settled holds = (unless_none _, holds.1)
  own_holds (takes (work_within (is_opened snapshot route))) settled holds = holds.1
  own_holds (takes work_aborted) settled holds = (unless_none _, holds.1)
  own_holds ends settled holds = (refl, holds.1)
  own_holds sweeps settled holds = holds.0

-- a wait of a VACUUM comes outside a block
answer_waits : {session k s j : ℕ} {holders : List ℕ} → IsAnswer session k (Wait s j holders) → ⊥
answer_waits d = elim d [ ]

decision_waits : {session k s j : ℕ} {holders : List ℕ} → IsDecision session k (Wait s j holders) → ⊥
decision_waits d = elim d [ ]

works_sweeps : (k j : ℕ) (call other : Call) → Taking k call ≡ Taking j other → call ≡ other
works_sweeps k j call other same = cc

sweep_outside : {session s k j : ℕ} {block : BlockState} {transaction : Option Transaction} {turn : Turn} {holders table : List ℕ}
    → IsDue session block transaction turn (Wait s k holders) → turn ≡ Taking j (Sweeps table) → block ≡ Outside
sweep_outside (answers d) is = absurd (answer_waits d)
sweep_outside (decides d) is = absurd (decision_waits d)
sweep_outside (takes (commit_within d)) is = absurd (decision_waits d)
sweep_outside (takes (vacuum_outside d)) is = refl
sweep_outside (takes (work_outside d)) is = refl
sweep_outside {j = j} {table = table} (takes {k = k} (work_within {statement = statement} d)) is =
    let same = works_sweeps k j (Works statement) (Sweeps table) is in cc

-- a statement is opened where one is to be taken
answer_opens : {session k s j snapshot : ℕ} {route : Route} → IsAnswer session k (Opened s j snapshot route) → ⊥
answer_opens d = elim d [ ]

decision_opens : {session k s j snapshot : ℕ} {route : Route} → IsDecision session k (Opened s j snapshot route) → ⊥
decision_opens d = elim d [ ]

sweep_opens : {session k s j snapshot : ℕ} {table : List ℕ} {route : Route} → IsSweepOpening session k table (Opened s j snapshot route) → ⊥
sweep_opens d = elim d [ ]

opened_takes : {session s k snapshot : ℕ} {route : Route} {block : BlockState} {transaction : Option Transaction} {turn : Turn}
    → IsDue session block transaction turn (Opened s k snapshot route) → (j : ℕ) × (call : Call) × (turn ≡ Taking j call)
opened_takes (answers d) = absurd (answer_opens d)
opened_takes (decides d) = absurd (decision_opens d)
opened_takes (takes (commit_within d)) = absurd (decision_opens d)
opened_takes (takes (vacuum_outside d)) = absurd (sweep_opens d)
opened_takes (takes (work_outside d)) = (_, _, refl)
opened_takes (takes (work_within d)) = (_, _, refl)

-- none is to be taken of the background worker
sweeping_takes : (k slice j : ℕ) (call : Call) (b : Bool) → (if b then SliceOf k slice else SweepEndOf k) ≡ Taking j call → ⊥
sweeping_takes k slice j call true is = cc
sweeping_takes k slice j call false is = cc

idle_takes : (shape : Shape) (block : BlockState) (newest : Option Event) (j : ℕ) (call : Call) → turn_after shape block newest Idle ≡ Taking j call → ⊥
idle_takes shape Outside (Some (Answer s k answer)) j call is = cc
idle_takes shape Within (Some (Answer s k answer)) j call is = cc
idle_takes shape Aborted (Some (Answer s k answer)) j call is = cc
idle_takes shape block (Some (VacuumBegin s k table)) j call is = sweeping_takes k 0 j call _ is
idle_takes shape block (Some (VacuumSlice s k slice horizon)) j call is = sweeping_takes k (slice + 1) j call _ is
idle_takes shape block newest j call is = cc

module _ (shape : Shape) (world : World) where
  abbrev pub at : List Event → History
  at events = record { shape = shape; world = world; events = events }

  of_option : (session : ℕ) (found : Option ℕ) → is_session session found ≡ true → found ≡ Some session
  of_option session None is = cc
  of_option session (Some other) is = ap (λ (s : ℕ). Some s) (eqb-true other session is)

  pub of_it : (session : ℕ) (event : Event) → is_of session event ≡ true → session_of event ≡ Some session
  of_it session event is = of_option session (session_of event) is

  turn_holds : (older : List Event) (session : ℕ)
      → Holds (block_of (at older) session) (newest_event session older) (opened_statements session older) (swept_by session older)
      → HoldsAt (turn_of (at older) session) (block_of (at older) session) (opened_statements session older) (swept_by session older)
  turn_holds older session holds =
      due_holds shape (block_of (at older) session) (newest_event session older) (next_turn (at older) session) (opened_statements session older) (swept_by session older)
      (next_holds (at older) session (block_of (at older) session) (opened_statements session older) (swept_by session older)) holds

  holds_by : (event : Event) (older : List Event) (each : EachFollows shape world older) (session : ℕ) (b : Bool) → is_of session event ≡ b → FollowsAfter (at older) event
      → Holds (block_of (at older) session) (newest_event session older) (opened_statements session older) (swept_by session older)
      → Holds (if b then block_after world event (block_by world session older) else block_by world session older)
      (if b then Some event else newest_event session older)
      (if b then opened_after event (opened_statements session older) else opened_statements session older)
      (if b then swept_after event (swept_by session older) else swept_by session older)
  holds_by event older each session true is follows holds =
      own_holds world (opened_statements session older) (swept_by session older) (due_of shape world older session (of_it session event is) follows)
      (λ other. settled_at shape world older each session event (of_it session event is) follows other) (turn_holds older session holds)
  holds_by event older each session false is follows holds = holds

  holds : (events : List Event) → EachFollows shape world events → (session : ℕ)
      → Holds (block_of (at events) session) (newest_event session events) (opened_statements session events) (swept_by session events)
  holds [] each session = (refl, refl)
  holds (event ∷ older) each session = holds_by event older each.1 session (is_of session event) refl each.0 (holds older each.1 session)

  -- no lock is held without an opened statement and a vacuum
  none_held : (state : LockState) (session : ℕ) (opened : List ℕ) (swept : Option (List ℕ)) → opened ≡ [] → swept ≡ None
      → (flat_map (state.wants session) opened ++ sweep_locks swept) ≡ []
  none_held state session [] None none unswept = refl
  none_held state session [] (Some table) none unswept = cc
  none_held state session (one ∷ opened) swept none unswept = cc

  pub no_lock : (state : LockState) (session : ℕ) → opened_statements session state.events ≡ [] → swept_by session state.events ≡ None → held_locks state session ≡ []
  no_lock state session none unswept = none_held state session (opened_statements session state.events) (swept_by session state.events) none unswept

  -- so a session that is about to vacuum holds no lock
  pub sweeper_lockless : (older : List Event) → EachFollows shape world older → (session k j : ℕ) (holders table : List ℕ) (state : LockState) → state.events ≡ older
      → FollowsAfter (at older) (Wait session k holders) → turn_of (at older) session ≡ Taking j (Sweeps table) → held_locks state session ≡ []
  sweeper_lockless older each session k j holders table state same follows turn =
      let outside = sweep_outside (due_of shape world older session refl follows) turn in
      let held : HoldsAt (Taking j (Sweeps table)) Outside (opened_statements session older) (swept_by session older) =
      subst (λ (block : BlockState). HoldsAt (Taking j (Sweeps table)) block (opened_statements session older) (swept_by session older)) outside
      (subst (λ (t : Turn). HoldsAt t (block_of (at older) session) (opened_statements session older) (swept_by session older)) turn (turn_holds older session (holds older each session))) in
      no_lock state session (ap (opened_statements session) same ∙ held.0) (ap (swept_by session) same ∙ held.1)

  -- one that has ended has opened nothing that isn't at its end
  end_opens : (event : Event) (before : List ℕ) → is_end (Some event) ≡ true → opened_after event before ≡ []
  end_opens (End session) before ended = refl
  end_opens event before ended = cc

  ended_by : (event : Event) (older : List Event) (session : ℕ) (b : Bool) → is_end (if b then Some event else newest_event session older) ≡ true
      → (has_ended session older ≡ true → opened_statements session older ≡ [])
      → (if b then opened_after event (opened_statements session older) else opened_statements session older) ≡ []
  ended_by event older session true ended later = end_opens event (opened_statements session older) ended
  ended_by event older session false ended later = later ended

  pub ended_opened : (events : List Event) (session : ℕ) → has_ended session events ≡ true → opened_statements session events ≡ []
  ended_opened [] session ended = refl
  ended_opened (event ∷ older) session ended = ended_by event older session (is_of session event) ended (ended_opened older session)

  -- nor has the background worker
  worker_opens : (event : Event) (older : List Event) → session_of event ≡ Some 0 → FollowsAfter (at older) event → opened_statements 0 older ≡ []
      → opened_after event (opened_statements 0 older) ≡ []
  worker_opens (Opened s k snapshot route) older its follows none =
      let taken = opened_takes (due_of shape world older 0 its follows) in
      absurd (idle_takes shape (block_of (at older) 0) (newest_event 0 older) taken.0 taken.1 taken.2)
  worker_opens (Commit s k stamp low high) older its follows none = refl
  worker_opens (Violation s k low high object) older its follows none = refl
  worker_opens (Refuse s k refusal) older its follows none = refl
  worker_opens (Rollback s k) older its follows none = refl
  worker_opens (End s) older its follows none = refl
  worker_opens event older its follows none = none

  worker_by : (event : Event) (older : List Event) (b : Bool) → is_of 0 event ≡ b → FollowsAfter (at older) event → opened_statements 0 older ≡ []
      → (if b then opened_after event (opened_statements 0 older) else opened_statements 0 older) ≡ []
  worker_by event older true is follows none = worker_opens event older (of_it 0 event is) follows none
  worker_by event older false is follows none = none

  pub worker_opened : (events : List Event) → EachFollows shape world events → opened_statements 0 events ≡ []
  worker_opened [] each = refl
  worker_opened (event ∷ older) each = worker_by event older (is_of 0 event) refl each.0 (worker_opened older each.1)
