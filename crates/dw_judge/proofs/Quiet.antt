-- While a vacuum of a session runs, no statement is open in a transaction of the session; and where anything else is due of
-- it, none of its vacuums runs.
use Rattle.std.proofs.Common.{◌≡◌, ℕ, zero, suc, ◌+◌, Bool, true, false, List, [], ◌∷◌, refl, ap}
use Rattle.std.specs.Prelude.{Option, Some, None, if◌then◌else◌}
use Rattle.std.proofs.lemmas.Bool.{eqb-true, false≢true}
use Rattle.dw_journal.specs.declared.BlockState.{BlockState}
use Rattle.dw_journal.specs.declared.BlockState.TheVariants.{Outside, Within, Aborted}
use Rattle.dw_journal.specs.declared.Event.{Event}
use Rattle.dw_journal.specs.declared.Event.TheVariants.{Begin, Pass, Wait, Opened, Answer, Commit, Violation, Refuse, Rollback, VacuumBegin, VacuumSlice, VacuumEnd, Refresh, End}
use Rattle.dw_journal.specs.declared.Given.{Given}
use Rattle.dw_journal.specs.declared.Shape.{Shape}
use Rattle.dw_journal.specs.declared.World.{World}
use Rattle.dw_journal.specs.Worlds.{given_at}
use Rattle.dw_journal.specs.History.{History, is_of, is_session, newest_event, session_of, statements_taken}
use Rattle.dw_journal.specs.Blocks.{block_after, block_by, block_of}
use Rattle.dw_journal.specs.Transactions.{Transaction, opened_after, opened_statements, transaction_of}
use Rattle.dw_journal.specs.Vacuums.{swept_after, swept_by}
use Rattle.dw_journal.specs.Turns.{Turn, Nothing, AnswerOf, CommitOf, SliceOf, SweepEndOf, Taking, AtEnd, Idle, taking, turn_after, turn_of}
use Rattle.dw_journal.specs.Follows.{is_answer, is_answer_refused, is_commit, is_violation, is_commit_refused, is_wait, is_opening_refused, is_opened, is_sweep_wait, is_sweep_refused, is_sweep_begin, foreign, begin_outside, begin_within, begin_aborted, commit_outside, commit_of_nothing, commit_within, commit_aborted, rollback_outside, rollback_within, rollback_aborted, vacuum_outside, vacuum_within, vacuum_aborted, work_outside, work_within, work_aborted, IsDue, answers, decides, rebuilds, has_rebuilt, takes, ends, sweeps, FollowsAfter, EachFollows}
use Rattle.dw_journal.proofs.OneJournal.{due_of}
use Rattle.dw_journal.proofs.OpenedStatements.{AreOpened, are_opened}

-- no vacuum runs, and outside a block nothing is opened
abbrev IsStill : BlockState → List ℕ → Option (List ℕ) → Type 0
IsStill block opened swept = (swept ≡ None) × (block ≡ Outside → opened ≡ [])

-- by a session's newest event
abbrev IsQuiet : BlockState → Option Event → List ℕ → Option (List ℕ) → Type 0
IsQuiet block (Some (Opened session k snapshot route)) opened swept = swept ≡ None
IsQuiet block (Some (Answer session k answer)) opened swept = swept ≡ None
IsQuiet block (Some (VacuumBegin session k table)) opened swept = opened ≡ []
IsQuiet block (Some (VacuumSlice session k slice horizon)) opened swept = opened ≡ []
IsQuiet block newest opened swept = IsStill block opened swept

-- by its turn
abbrev IsQuietAt : Turn → BlockState → List ℕ → Option (List ℕ) → Type 0
IsQuietAt Nothing block opened swept = Unit {0}
IsQuietAt (AnswerOf k) block opened swept = swept ≡ None
IsQuietAt (CommitOf k) block opened swept = swept ≡ None
IsQuietAt (SliceOf k slice) block opened swept = opened ≡ []
IsQuietAt (SweepEndOf k) block opened swept = opened ≡ []
IsQuietAt (Taking k call) block opened swept = IsStill block opened swept
IsQuietAt AtEnd block opened swept = swept ≡ None
IsQuietAt Idle block opened swept = opened ≡ []

taking_quiet : (k : ℕ) (given : Option Given) (block : BlockState) (opened : List ℕ) (swept : Option (List ℕ)) → IsStill block opened swept
    → IsQuietAt (taking k given) block opened swept
taking_quiet k None block opened swept still = still.0
taking_quiet k (Some given) block opened swept still = still

sweeping_quiet : (k slice : ℕ) (b : Bool) (block : BlockState) (opened : List ℕ) (swept : Option (List ℕ)) → opened ≡ []
    → IsQuietAt (if b then SliceOf k slice else SweepEndOf k) block opened swept
sweeping_quiet k slice true block opened swept none = none
sweeping_quiet k slice false block opened swept none = none

within_still : (opened : List ℕ) (swept : Option (List ℕ)) → swept ≡ None → IsStill Within opened swept
within_still opened swept none = (none, (λ is. cc))

aborted_still : (opened : List ℕ) (swept : Option (List ℕ)) → swept ≡ None → IsStill Aborted opened swept
aborted_still opened swept none = (none, (λ is. cc))

turn_quiet : (shape : Shape) (block : BlockState) (newest : Option Event) (k : ℕ) (given : Option Given) (opened : List ℕ) (swept : Option (List ℕ)) → IsQuiet block newest opened swept
    → IsQuietAt (turn_after shape block newest (taking k given)) block opened swept
turn_quiet shape block None k given opened swept quiet = taking_quiet k given block opened swept quiet
turn_quiet shape block (Some (Begin s j)) k given opened swept quiet = taking_quiet k given block opened swept quiet
turn_quiet shape block (Some (Pass s j word)) k given opened swept quiet = taking_quiet k given block opened swept quiet
turn_quiet shape block (Some (Wait s j holders)) k given opened swept quiet = taking_quiet k given block opened swept quiet
turn_quiet shape block (Some (Opened s j snapshot route)) k given opened swept quiet = quiet
turn_quiet shape Outside (Some (Answer s j answer)) k given opened swept quiet = quiet
turn_quiet shape Within (Some (Answer s j answer)) k given opened swept quiet = taking_quiet k given Within opened swept (within_still opened swept quiet)
turn_quiet shape Aborted (Some (Answer s j answer)) k given opened swept quiet = taking_quiet k given Aborted opened swept (aborted_still opened swept quiet)
turn_quiet shape block (Some (Commit s j stamp low high)) k given opened swept quiet = taking_quiet k given block opened swept quiet
turn_quiet shape block (Some (Violation s j low high object)) k given opened swept quiet = taking_quiet k given block opened swept quiet
turn_quiet shape block (Some (Refuse s j refusal)) k given opened swept quiet = taking_quiet k given block opened swept quiet
turn_quiet shape block (Some (Rollback s j)) k given opened swept quiet = taking_quiet k given block opened swept quiet
turn_quiet shape block (Some (VacuumBegin s j table)) k given opened swept quiet = sweeping_quiet j 0 _ block opened swept quiet
turn_quiet shape block (Some (VacuumSlice s j slice horizon)) k given opened swept quiet = sweeping_quiet j (slice + 1) _ block opened swept quiet
turn_quiet shape block (Some (VacuumEnd s j)) k given opened swept quiet = taking_quiet k given block opened swept quiet
turn_quiet shape block (Some (Refresh cluster stamp)) k given opened swept quiet = taking_quiet k given block opened swept quiet
turn_quiet shape block (Some (End s)) k given opened swept quiet = tt

-- an event that is due leaves its session quiet
module _ (world : World) (opened : List ℕ) (swept : Option (List ℕ)) where
  abbrev IsLeft : BlockState → Event → Type 0
  IsLeft block event = IsQuiet (block_after world event block) (Some event) (opened_after event opened) (swept_after event swept)

  left_quiet : {session : ℕ} {block : BlockState} {transaction : Option Transaction} {turn : Turn} {event : Event} → IsDue session block transaction turn event
      → IsQuietAt turn block opened swept → (transaction ≡ None → opened ≡ []) → IsLeft block event
  left_quiet (answers (is_answer answer)) quiet none = quiet
  left_quiet (answers (is_answer_refused refusal)) quiet none = (quiet, (λ is. refl))
  left_quiet (decides (is_commit stamp low high)) quiet none = (quiet, (λ is. refl))
  left_quiet (decides (is_violation low high object)) quiet none = (quiet, (λ is. refl))
  left_quiet (decides (is_commit_refused refusal)) quiet none = (quiet, (λ is. refl))
  left_quiet rebuilds quiet none = quiet
  left_quiet has_rebuilt quiet none = (refl, (λ is. quiet))
  left_quiet (takes foreign) quiet none = (quiet.0, (λ is. refl))
  left_quiet (takes begin_outside) quiet none = within_still opened swept quiet.0
  left_quiet (takes begin_within) quiet none = within_still opened swept quiet.0
  left_quiet (takes begin_aborted) quiet none = (quiet.0, (λ is. refl))
  left_quiet (takes commit_outside) quiet none = quiet
  left_quiet (takes commit_of_nothing) quiet none = (quiet.0, (λ is. none refl))
  left_quiet (takes (commit_within (is_commit stamp low high))) quiet none = (quiet.0, (λ is. refl))
  left_quiet (takes (commit_within (is_violation low high object))) quiet none = (quiet.0, (λ is. refl))
  left_quiet (takes (commit_within (is_commit_refused refusal))) quiet none = (quiet.0, (λ is. refl))
  left_quiet (takes commit_aborted) quiet none = (quiet.0, (λ is. refl))
  left_quiet (takes rollback_outside) quiet none = quiet
  left_quiet (takes rollback_within) quiet none = (quiet.0, (λ is. refl))
  left_quiet (takes rollback_aborted) quiet none = (quiet.0, (λ is. refl))
  left_quiet (takes (vacuum_outside (is_sweep_wait holders))) quiet none = quiet
  left_quiet (takes (vacuum_outside (is_sweep_refused refusal))) quiet none = (quiet.0, (λ is. refl))
  left_quiet (takes (vacuum_outside is_sweep_begin)) quiet none = quiet.1 refl
  left_quiet (takes vacuum_within) quiet none = (quiet.0, (λ is. refl))
  left_quiet (takes vacuum_aborted) quiet none = (quiet.0, (λ is. refl))
  left_quiet (takes (work_outside (is_wait holders))) quiet none = quiet
  left_quiet (takes (work_outside (is_opening_refused refusal))) quiet none = (quiet.0, (λ is. refl))
  left_quiet (takes (work_outside (is_opened snapshot route))) quiet none = quiet.0
  left_quiet (takes (work_within (is_wait holders))) quiet none = quiet
  left_quiet (takes (work_within (is_opening_refused refusal))) quiet none = (quiet.0, (λ is. refl))
  left_quiet (takes (work_within (is_opened snapshot route))) quiet none = quiet.0
  left_quiet (takes work_aborted) quiet none = (quiet.0, (λ is. refl))
  left_quiet ends quiet none = (quiet, (λ is. refl))
  left_quiet sweeps quiet none = quiet

-- the background worker does nothing but vacuum
abbrev vacuums : Option Event → Bool
vacuums None = true
vacuums (Some (VacuumBegin session k table)) = true
vacuums (Some (VacuumSlice session k slice horizon)) = true
vacuums (Some (VacuumEnd session k)) = true
vacuums (Some event) = false

abbrev MayVacuum : Turn → Type 0
MayVacuum (SliceOf k slice) = Unit {0}
MayVacuum (SweepEndOf k) = Unit {0}
MayVacuum Idle = Unit {0}
MayVacuum turn = ⊥

sweeping_may : (k slice : ℕ) (b : Bool) → MayVacuum (if b then SliceOf k slice else SweepEndOf k)
sweeping_may k slice true = tt
sweeping_may k slice false = tt

idle_may : (shape : Shape) (block : BlockState) (newest : Option Event) → vacuums newest ≡ true → MayVacuum (turn_after shape block newest Idle)
idle_may shape block None is = tt
idle_may shape block (Some (VacuumBegin s j table)) is = sweeping_may j 0 _
idle_may shape block (Some (VacuumSlice s j slice horizon)) is = sweeping_may j (slice + 1) _
idle_may shape block (Some (VacuumEnd s j)) is = tt
idle_may shape block (Some (Begin s j)) is = cc
idle_may shape block (Some (Pass s j word)) is = cc
idle_may shape block (Some (Wait s j holders)) is = cc
idle_may shape block (Some (Opened s j snapshot route)) is = cc
idle_may shape block (Some (Answer s j answer)) is = cc
idle_may shape block (Some (Commit s j stamp low high)) is = cc
idle_may shape block (Some (Violation s j low high object)) is = cc
idle_may shape block (Some (Refuse s j refusal)) is = cc
idle_may shape block (Some (Rollback s j)) is = cc
idle_may shape block (Some (Refresh cluster stamp)) is = cc
idle_may shape block (Some (End s)) is = cc

left_idle : (opened : List ℕ) {session : ℕ} {block : BlockState} {transaction : Option Transaction} {turn : Turn} {event : Event} → IsDue session block transaction turn event → MayVacuum turn
    → opened ≡ [] → (vacuums (Some event) ≡ true) × (opened_after event opened ≡ [])
left_idle opened rebuilds may none = (refl, none)
left_idle opened has_rebuilt may none = (refl, none)
left_idle opened sweeps may none = (refl, none)
left_idle opened (answers d) may none = absurd may
left_idle opened (decides d) may none = absurd may
left_idle opened (takes d) may none = absurd may
left_idle opened ends may none = absurd may

-- ---- in journals that follow
opened_none : (newest : Option Event) (opened : List ℕ) (transaction : Option Transaction) → AreOpened newest opened transaction → transaction ≡ None → opened ≡ []
opened_none None opened None are is = are
opened_none (Some (Begin s j)) opened None are is = are
opened_none (Some (Pass s j word)) opened None are is = are
opened_none (Some (Wait s j holders)) opened None are is = are
opened_none (Some (Opened s j snapshot route)) opened None are is = are
opened_none (Some (Answer s j answer)) opened None are is = are
opened_none (Some (Commit s j stamp low high)) opened None are is = are
opened_none (Some (Violation s j low high object)) opened None are is = are
opened_none (Some (Refuse s j refusal)) opened None are is = are
opened_none (Some (Rollback s j)) opened None are is = are
opened_none (Some (VacuumBegin s j table)) opened None are is = are
opened_none (Some (VacuumSlice s j slice horizon)) opened None are is = are
opened_none (Some (VacuumEnd s j)) opened None are is = are
opened_none (Some (Refresh cluster stamp)) opened None are is = are
opened_none (Some (End s)) opened None are is = are
opened_none newest opened (Some transaction) are is = cc

owner : (session : ℕ) (found : Option ℕ) → is_session session found ≡ true → found ≡ Some session
owner session None is = absurd (false≢true is)
owner session (Some other) is = ap Some (eqb-true other session is)

module _ (shape : Shape) (world : World) where
  abbrev past : List Event → History
  past events = record { shape = shape; world = world; events = events }

  abbrev IsQuietIn : ℕ → List Event → Type 0
  IsQuietIn session events = IsQuiet (block_by world session events) (newest_event session events) (opened_statements session events) (swept_by session events)

  -- what is due of a session that is quiet
  pub quiet_turn : (events : List Event) (n : ℕ) → IsQuietIn (suc n) events
      → IsQuietAt (turn_of (past events) (suc n)) (block_by world (suc n) events) (opened_statements (suc n) events) (swept_by (suc n) events)
  quiet_turn events n quiet =
      let k = statements_taken (suc n) events + 1 in
      turn_quiet shape (block_by world (suc n) events) (newest_event (suc n) events) k (given_at world (suc n) k) (opened_statements (suc n) events) (swept_by (suc n) events) quiet

  quiet_by : (older : List Event) (n : ℕ) (event : Event) (its : Bool) → is_of (suc n) event ≡ its → FollowsAfter (past older) event → EachFollows shape world older → IsQuietIn (suc n) older
      → IsQuiet (if its then block_after world event (block_by world (suc n) older) else block_by world (suc n) older)
      (if its then Some event else newest_event (suc n) older)
      (if its then opened_after event (opened_statements (suc n) older) else opened_statements (suc n) older)
      (if its then swept_after event (swept_by (suc n) older) else swept_by (suc n) older)
  quiet_by older n event false is follows each quiet = quiet
  quiet_by older n event true is follows each quiet =
      left_quiet world (opened_statements (suc n) older) (swept_by (suc n) older) (due_of shape world older (suc n) (owner (suc n) (session_of event) is) follows)
      (quiet_turn older n quiet)
      (opened_none (newest_event (suc n) older) (opened_statements (suc n) older) (transaction_of (suc n) older) (are_opened shape world older each (suc n)))

  pub are_quiet : (events : List Event) → EachFollows shape world events → (n : ℕ) → IsQuietIn (suc n) events
  are_quiet [] each n = (refl, (λ is. refl))
  are_quiet (event ∷ older) each n = quiet_by older n event (is_of (suc n) event) refl each.0 each.1 (are_quiet older each.1 n)

  abbrev IsIdleIn : List Event → Type 0
  IsIdleIn events = (vacuums (newest_event 0 events) ≡ true) × (opened_statements 0 events ≡ [])

  idle_by : (older : List Event) (event : Event) (its : Bool) → is_of 0 event ≡ its → FollowsAfter (past older) event → IsIdleIn older
      → (vacuums (if its then Some event else newest_event 0 older) ≡ true)
      × ((if its then opened_after event (opened_statements 0 older) else opened_statements 0 older) ≡ [])
  idle_by older event false is follows idle = idle
  idle_by older event true is follows idle =
      left_idle (opened_statements 0 older) (due_of shape world older 0 (owner 0 (session_of event) is) follows)
      (idle_may shape (block_of (past older) 0) (newest_event 0 older) idle.0) idle.1

  pub is_idle : (events : List Event) → EachFollows shape world events → IsIdleIn events
  is_idle [] each = (refl, refl)
  is_idle (event ∷ older) each = idle_by older event (is_of 0 event) refl each.0 (is_idle older each.1)

-- ---- what is due tells what is held
-- an event that comes while no vacuum of its session runs
abbrev pub ends_locks : Event → Bool
ends_locks (Commit session k stamp low high) = true
ends_locks (Violation session k low high object) = true
ends_locks (Refuse session k refusal) = true
ends_locks (Rollback session k) = true
ends_locks (End session) = true
ends_locks event = false

due_unswept : {session : ℕ} {block : BlockState} {transaction : Option Transaction} {turn : Turn} {event : Event} (opened : List ℕ) (swept : Option (List ℕ))
    → IsDue session block transaction turn event → IsQuietAt turn block opened swept → ends_locks event ≡ true → swept ≡ None
due_unswept opened swept (answers d) quiet is = quiet
due_unswept opened swept (decides d) quiet is = quiet
due_unswept opened swept rebuilds quiet is = cc
due_unswept opened swept has_rebuilt quiet is = cc
due_unswept opened swept (takes d) quiet is = quiet.0
due_unswept opened swept ends quiet is = quiet
due_unswept opened swept sweeps quiet is = cc

end_opened : {session s k : ℕ} {block : BlockState} {transaction : Option Transaction} {turn : Turn} (opened : List ℕ) (swept : Option (List ℕ))
    → IsDue session block transaction turn (VacuumEnd s k) → IsQuietAt turn block opened swept → opened ≡ []
end_opened opened swept has_rebuilt quiet = quiet
end_opened opened swept (answers d) quiet = elim d [ ]
end_opened opened swept (decides d) quiet = elim d [ ]
end_opened opened swept (takes (commit_within d)) quiet = elim d [ ]
end_opened opened swept (takes (vacuum_outside d)) quiet = elim d [ ]
end_opened opened swept (takes (work_outside d)) quiet = elim d [ ]
end_opened opened swept (takes (work_within d)) quiet = elim d [ ]

idle_ends : {session : ℕ} {block : BlockState} {transaction : Option Transaction} {turn : Turn} {event : Event} → IsDue session block transaction turn event → MayVacuum turn
    → ends_locks event ≡ true → ⊥
idle_ends rebuilds may is = cc
idle_ends has_rebuilt may is = cc
idle_ends sweeps may is = cc
idle_ends (answers d) may is = absurd may
idle_ends (decides d) may is = absurd may
idle_ends (takes d) may is = absurd may
idle_ends ends may is = absurd may

module _ (history : History) (each : EachFollows history.shape history.world history.events) where
  -- an event that ends a transaction comes while no vacuum of its session runs
  pub ending_unswept : (session : ℕ) (event : Event) → session_of event ≡ Some session → FollowsAfter history event → ends_locks event ≡ true → swept_by session history.events ≡ None
  ending_unswept zero event own follows is =
      absurd (idle_ends (due_of history.shape history.world history.events 0 own follows)
      (idle_may history.shape (block_of history 0) (newest_event 0 history.events) (is_idle history.shape history.world history.events each).0) is)
  ending_unswept (suc n) event own follows is =
      due_unswept (opened_statements (suc n) history.events) (swept_by (suc n) history.events) (due_of history.shape history.world history.events (suc n) own follows)
      (quiet_turn history.shape history.world history.events n (are_quiet history.shape history.world history.events each n)) is

  -- and a vacuum ends while no statement is opened in a transaction of its session
  pub end_holds_none : (session s k : ℕ) → session_of (VacuumEnd s k) ≡ Some session → FollowsAfter history (VacuumEnd s k) → opened_statements session history.events ≡ []
  end_holds_none zero s k own follows = (is_idle history.shape history.world history.events each).1
  end_holds_none (suc n) s k own follows =
      end_opened (opened_statements (suc n) history.events) (swept_by (suc n) history.events) (due_of history.shape history.world history.events (suc n) own follows)
      (quiet_turn history.shape history.world history.events n (are_quiet history.shape history.world history.events each n))
