-- The table of locks stands for the history once more, after one more event.
use Rattle.std.proofs.Common.{◌≡◌, ℕ, ◌<◌, true, List, [], length, set, refl, sym, ap, subst, ◌∙◌, arith}
use Rattle.std.specs.Prelude.{Option, Some, None, ◌++◌, flat_map}
use Rattle.dw_journal.specs.declared.Event.{Event}
use Rattle.dw_journal.specs.declared.Event.TheVariants.{Begin, Pass, Wait, Answer, Commit, Violation, Refuse, Rollback, End}
use Rattle.dw_journal.specs.Worlds.{IsSession}
use Rattle.dw_journal.specs.History.{History, session_of, with_event}
use Rattle.dw_journal.specs.Transactions.{opened_after, opened_statements}
use Rattle.dw_journal.specs.Vacuums.{swept_after, swept_by}
use Rattle.dw_journal.specs.Locks.{held_locks, lock_state, sweep_locks}
use Rattle.dw_journal.specs.Follows.{EachFollows, FollowsAfter}
use Rattle.dw_locks.specs.LockTable.{LockTable, StandsForLocks, free_entry, wants_waited}
use Rattle.dw_locks.proofs.Lasting.{held_own, released_stands, unchanged_stands}
use Rattle.dw_core.specs.Changes.{IsPlain, ends_transaction, locks_after}
use Rattle.dw_core.proofs.Waiting.{plain_unwaited}

-- an event that ends a transaction leaves no statement of it
ended_opened : (event : Event) (opened : List ℕ) → ends_transaction event ≡ true → opened_after event opened ≡ []
ended_opened (Commit other k stamp low high) opened ends = refl
ended_opened (Violation other k low high object) opened ends = refl
ended_opened (Refuse other k refusal) opened ends = refl
ended_opened (Rollback other k) opened ends = refl
ended_opened (End other) opened ends = refl
ended_opened event opened ends = cc

ended_swept : (event : Event) (before : Option (List ℕ)) → ends_transaction event ≡ true → swept_after event before ≡ before
ended_swept (Commit other k stamp low high) before ends = refl
ended_swept (Violation other k low high object) before ends = refl
ended_swept (Refuse other k refusal) before ends = refl
ended_swept (Rollback other k) before ends = refl
ended_swept (End other) before ends = refl
ended_swept event before ends = cc

module _ (history : History) where
  ended_free : (session : ℕ) (event : Event) → ends_transaction event ≡ true → wants_waited (lock_state history) session (Some event) ≡ None
  ended_free session (Wait other k holders) ends = cc
  ended_free session event ends = refl

  -- so its session holds no lock
  pub none_held : (session : ℕ) → swept_by session history.events ≡ None → (event : Event) → session_of event ≡ Some session → ends_transaction event ≡ true
      → held_locks (lock_state (with_event history event)) session ≡ []
  none_held session unswept event of_it ends =
      let state = lock_state history in
      held_own state event session of_it
      ∙ ap (λ (opened : List ℕ). flat_map (state.wants session) opened ++ sweep_locks (swept_after event (swept_by session history.events))) (ended_opened event (opened_statements session history.events) ends)
      ∙ ap sweep_locks (ended_swept event (swept_by session history.events) ends ∙ unswept)

  module _ (table : LockTable) (stands : StandsForLocks table (lock_state history)) (session : ℕ) (is : IsSession history.world session)
      (unswept : swept_by session history.events ≡ None) where
    pub is_entry : session < length table
    is_entry = omega (arith, stands.counted, is.1)

    -- its locks are released
    pub ended_locked : (event : Event) → session_of event ≡ Some session → ends_transaction event ≡ true
        → StandsForLocks (locks_after event session table) (lock_state (with_event history event))
    ended_locked event of_it ends =
        subst (λ (t : LockTable). StandsForLocks t (lock_state (with_event history event))) (sym (released event ends))
        (released_stands table (lock_state history) stands session is_entry event of_it (none_held session unswept event of_it ends) (ended_free session event ends))
      where
        released : (event : Event) → ends_transaction event ≡ true → locks_after event session table ≡ set table session free_entry
        released event ends = rw ends refl

    -- a plain event that ends no transaction leaves the table as it is
    pub plain_locked : EachFollows history.shape history.world history.events → (event : Event) → IsPlain session event → session_of event ≡ Some session
        → FollowsAfter history event → StandsForLocks (locks_after event session table) (lock_state (with_event history event))
    plain_locked each (Begin other k) plain of_it follows =
        unchanged_stands table (lock_state history) stands session is_entry (Begin other k) of_it (held_own (lock_state history) (Begin other k) session of_it)
        (plain_unwaited history each (lock_state history) session is.0 (Begin other k) plain of_it follows refl) refl
    plain_locked each (Pass other k word) plain of_it follows =
        unchanged_stands table (lock_state history) stands session is_entry (Pass other k word) of_it (held_own (lock_state history) (Pass other k word) session of_it)
        (plain_unwaited history each (lock_state history) session is.0 (Pass other k word) plain of_it follows refl) refl
    plain_locked each (Answer other k answer) plain of_it follows =
        unchanged_stands table (lock_state history) stands session is_entry (Answer other k answer) of_it (held_own (lock_state history) (Answer other k answer) session of_it)
        (plain_unwaited history each (lock_state history) session is.0 (Answer other k answer) plain of_it follows refl) refl
    plain_locked each (Refuse other k refusal) plain of_it follows = ended_locked (Refuse other k refusal) of_it refl
    plain_locked each (Rollback other k) plain of_it follows = ended_locked (Rollback other k) of_it refl
    plain_locked each (End other) plain of_it follows = ended_locked (End other) of_it refl
    plain_locked each event plain of_it follows = absurd plain
