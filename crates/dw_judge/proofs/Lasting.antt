-- The table of locks stands for the history once more, after one more event that follows and is legal.
use Rattle.std.proofs.Common.{◌≡◌, ℕ, zero, suc, ◌+◌, ◌<◌, ◌≤◌, Bool, true, false, ◌||◌, List, [], ◌∷◌, ◌++◌, length, refl, sym, ap, subst, ◌∙◌, arith, append-nil}
use Rattle.std.specs.Prelude.{Option, Some, None, flat_map, is_some, not, replicate, ◌==◌, ◌&&◌}
use Rattle.std.specs.List.{filter, find, list_any, range_with_len}
use Rattle.std.proofs.lemmas.Bool.{false≢true}
use Rattle.std.proofs.lemmas.List.Folds.{list_any-append}
use Rattle.dw_model.specs.declared.statements.Statement.{Statement}
use Rattle.dw_journal.specs.declared.locks.Want.{Want}
use Rattle.dw_journal.specs.declared.Event.{Event}
use Rattle.dw_journal.specs.declared.Event.TheVariants.{Begin, Pass, Wait, Opened, Answer, Commit, Violation, Refuse, Rollback, VacuumBegin, VacuumSlice, VacuumEnd, Refresh, End}
use Rattle.dw_journal.specs.declared.Route.{Route}
use Rattle.dw_journal.specs.Worlds.{session_count, statement_at}
use Rattle.dw_journal.specs.History.{History, session_of, with_event}
use Rattle.dw_journal.specs.Transactions.{opened_after, opened_statements}
use Rattle.dw_journal.specs.Vacuums.{swept_after, swept_by, sweeper}
use Rattle.dw_journal.specs.Locks.{LockState, held_locks, lock_state, stands_in_way, sweep_lock, sweep_locks, wants_of}
use Rattle.dw_journal.specs.Follows.{EachFollows, FollowsAfter}
use Rattle.dw_journal.specs.Legal.{IsLegalAfter, IsLegalOpened, blockers_of}
use Rattle.dw_locks.specs.LockTable.{LockTable, StandsForLocks, entry_of, free_entry, granted, is_blocker, table_blockers, wants_waited}
use Rattle.dw_locks.proofs.HeldOnce.{grant_is}
use Rattle.dw_locks.proofs.Lasting.{granted_stands, held_own, new_stands, released_stands, stands_set, waiting_stands}
use Rattle.dw_locks.proofs.Standing.{blockers_are}
use Rattle.dw_judge.specs.Locking.{HasEntry, IsUnblocked, locks_after, with_grant, with_release}
use Rattle.dw_judge.proofs.Following.{follows_within}
use Rattle.dw_judge.proofs.Quiet.{end_holds_none, ending_unswept, ends_locks}

-- ---- nobody stands in the way of no lock
none_in_way : (locks : List Want) → list_any (λ (lock : Want). list_any (stands_in_way lock) []) locks ≡ false
none_in_way [] = refl
none_in_way (lock ∷ locks) = none_in_way locks

and_false : (b : Bool) → (b && false) ≡ false
and_false true = refl
and_false false = refl

none_block : (table : LockTable) (session : ℕ) (others : List ℕ) → filter (is_blocker table session []) others ≡ []
none_block table session [] = refl
none_block table session (other ∷ others) =
    let e : is_blocker table session [] other ≡ false =
    ap (λ (b : Bool). not (other == session) && b) (none_in_way (entry_of table other).held) ∙ and_false (not (other == session)) in
    rw e (none_block table session others)

pub nothing_unblocked : (table : LockTable) (session : ℕ) → table_blockers table session [] ≡ []
nothing_unblocked table session = none_block table session (range_with_len 0 (length table))

-- ---- no vacuum runs where none is found
found_some : (p : ℕ → Bool) (n : ℕ) (b : Bool) (ns : List ℕ) → p n ≡ b → find p (n ∷ ns) ≡ None → (p n ≡ false) × (find p ns ≡ None)
found_some p n true ns is none =
    let found : find p (n ∷ ns) ≡ Some n = rw is refl in cc
found_some p n false ns is none =
    let same : find p (n ∷ ns) ≡ find p ns = rw is refl in (is, sym same ∙ none)

none_found : (p : ℕ → Bool) (a n i : ℕ) → find p (range_with_len a n) ≡ None → i < n → p (a + i) ≡ false
none_found p a zero i none within = absurd (omega (arith, within))
none_found p a (suc n) zero none within = ap p (omega arith) ∙ (found_some p a (p a) (range_with_len (a + 1) n) refl none).0
none_found p a (suc n) (suc i) none within =
    ap p (omega arith) ∙ none_found p (a + 1) n i (found_some p a (p a) (range_with_len (a + 1) n) refl none).1 (omega (arith, within))

no_table : (swept : Option (List ℕ)) → is_some swept ≡ false → swept ≡ None
no_table None is = refl
no_table (Some table) is = absurd (false≢true (sym is))

pub unswept : (history : History) (session : ℕ) → sweeper history ≡ None → session ≤ session_count history.world → swept_by session history.events ≡ None
unswept history session none within =
    no_table (swept_by session history.events)
    (ap (λ (n : ℕ). is_some (swept_by n history.events)) (omega arith) ∙ none_found (λ (n : ℕ). is_some (swept_by n history.events)) 0 (suc (session_count history.world)) session none (omega (arith, within)))

-- ---- what an opening and the begin of a vacuum need
opened_free : (history : History) (session statement snapshot : ℕ) (route : Route) (found : Option Statement) → IsLegalOpened history session statement snapshot route found
    → blockers_of history session statement ≡ []
opened_free history session statement snapshot route None legal = absurd legal
opened_free history session statement snapshot route (Some given) legal = legal.0

module _ (history : History) (table : LockTable) (stands : StandsForLocks table (lock_state history)) where
  entry_by : (found : Option ℕ) (event : Event) → session_of event ≡ found → FollowsAfter history event → HasEntry found table
  entry_by None event own follows = tt
  entry_by (Some session) event own follows = omega (arith, stands.counted, follows_within history session own follows)

  pub has_entry : (event : Event) → FollowsAfter history event → HasEntry (session_of event) table
  has_entry event follows = entry_by (session_of event) event refl follows

  pub is_unblocked : (event : Event) → IsLegalAfter history event → IsUnblocked history.world event table
  is_unblocked (Opened session statement snapshot route) legal =
      blockers_are table (lock_state history) stands session (wants_of history.world session statement)
      ∙ opened_free history session statement snapshot route (statement_at history.world session statement) legal
  is_unblocked (VacuumBegin session statement name) legal =
      blockers_are table (lock_state history) stands session (sweep_lock name ∷ []) ∙ legal.1
  is_unblocked event legal = tt

  -- ---- the table after an event of a session
  module _ (session : ℕ) (within : session < length table) where
    abbrev state : LockState
    state = lock_state history

    -- the session's locks are the same, and it waits no more
    pub went_on : (event : Event) → session_of event ≡ Some session → held_locks (lock_state (with_event history event)) session ≡ held_locks state session
        → wants_waited state session (Some event) ≡ None → StandsForLocks (with_grant session [] table) (lock_state (with_event history event))
    went_on event own same free =
        stands_set table state stands session within event own (granted [] (entry_of table session))
        (λ test. grant_is (entry_of table session) [] test ∙ ap (list_any test) (append-nil (entry_of table session).held) ∙ stands.held session test ∙ ap (list_any test) (sym same))
        (sym free)

    -- its vacuum begins
    pub began : (other statement : ℕ) (name : List ℕ) → session_of (VacuumBegin other statement name) ≡ Some session → swept_by session history.events ≡ None
        → StandsForLocks (with_grant session (sweep_lock name ∷ []) table) (lock_state (with_event history (VacuumBegin other statement name)))
    began other statement name own none =
        let event = VacuumBegin other statement name in
        let rest = flat_map (state.wants session) (opened_statements session state.events) in
        let lock : List Want = sweep_lock name ∷ [] in
        let before : held_locks state session ≡ rest = ap (λ (swept : Option (List ℕ)). rest ++ sweep_locks swept) none ∙ append-nil rest in
        stands_set table state stands session within event own (granted lock (entry_of table session))
        (λ test. grant_is (entry_of table session) lock test ∙ list_any-append test (entry_of table session).held lock
        ∙ ap (λ (b : Bool). b || list_any test lock) (stands.held session test ∙ ap (list_any test) before)
        ∙ sym (ap (list_any test) (held_own state event session own) ∙ list_any-append test rest lock))
        refl

    -- it holds nothing more
    pub let_go : (event : Event) → session_of event ≡ Some session → held_locks (lock_state (with_event history event)) session ≡ []
        → wants_waited state session (Some event) ≡ None → StandsForLocks (with_release session table) (lock_state (with_event history event))
    let_go event own none free = released_stands table state stands session within event own none free

  -- what a session holds once its transaction has ended, or its vacuum
  ended_opened : (event : Event) (opened : List ℕ) → ends_locks event ≡ true → opened_after event opened ≡ []
  ended_opened (Commit s k stamp low high) opened is = refl
  ended_opened (Violation s k low high object) opened is = refl
  ended_opened (Refuse s k refusal) opened is = refl
  ended_opened (Rollback s k) opened is = refl
  ended_opened (End s) opened is = refl
  ended_opened event opened is = cc

  ended_swept : (event : Event) (swept : Option (List ℕ)) → ends_locks event ≡ true → swept_after event swept ≡ swept
  ended_swept (Commit s k stamp low high) swept is = refl
  ended_swept (Violation s k low high object) swept is = refl
  ended_swept (Refuse s k refusal) swept is = refl
  ended_swept (Rollback s k) swept is = refl
  ended_swept (End s) swept is = refl
  ended_swept event swept is = cc

  ended_waits : (session : ℕ) (event : Event) → ends_locks event ≡ true → wants_waited (lock_state history) session (Some event) ≡ None
  ended_waits session (Wait s k holders) is = cc
  ended_waits session event is = refl

  module _ (each : EachFollows history.shape history.world history.events) where
    none_left : (session : ℕ) (event : Event) → session_of event ≡ Some session → FollowsAfter history event → ends_locks event ≡ true
        → held_locks (lock_state (with_event history event)) session ≡ []
    none_left session event own follows is =
        let state : LockState = lock_state history in
        held_own state event session own
        ∙ ap (λ (opened : List ℕ). flat_map (state.wants session) opened ++ sweep_locks (swept_after event (swept_by session history.events))) (ended_opened event (opened_statements session history.events) is)
        ∙ ap sweep_locks (ended_swept event (swept_by session history.events) is ∙ ending_unswept history each session event own follows is)

    ended : (session : ℕ) → session < length table → (event : Event) → session_of event ≡ Some session → FollowsAfter history event → ends_locks event ≡ true
        → StandsForLocks (with_release session table) (lock_state (with_event history event))
    ended session within event own follows is = let_go session within event own (none_left session event own follows is) (ended_waits session event is)

    swept_none : (session statement : ℕ) → FollowsAfter history (VacuumEnd session statement) → held_locks (lock_state (with_event history (VacuumEnd session statement))) session ≡ []
    swept_none session statement follows =
        let state : LockState = lock_state history in
        held_own state (VacuumEnd session statement) session refl
        ∙ ap (λ (opened : List ℕ). flat_map (state.wants session) opened ++ []) (end_holds_none history each session session statement refl follows)

    abbrev StandsAfter : Event → Type 0
    StandsAfter event = StandsForLocks (locks_after history.world event table) (lock_state (with_event history event))

    pub stands_next : (event : Event) → FollowsAfter history event → IsLegalAfter history event → StandsAfter event
    stands_next (Begin s k) follows legal = went_on s (has_entry (Begin s k) follows) (Begin s k) refl (held_own (lock_state history) (Begin s k) s refl) refl
    stands_next (Pass s k word) follows legal = went_on s (has_entry (Pass s k word) follows) (Pass s k word) refl (held_own (lock_state history) (Pass s k word) s refl) refl
    stands_next (Answer s k answer) follows legal =
        went_on s (has_entry (Answer s k answer) follows) (Answer s k answer) refl (held_own (lock_state history) (Answer s k answer) s refl) refl
    stands_next (VacuumSlice s k slice horizon) follows legal =
        went_on s (has_entry (VacuumSlice s k slice horizon) follows) (VacuumSlice s k slice horizon) refl (held_own (lock_state history) (VacuumSlice s k slice horizon) s refl) refl
    stands_next (Wait s k holders) follows legal = waiting_stands table (lock_state history) stands s (has_entry (Wait s k holders) follows) k holders
    stands_next (Opened s k snapshot route) follows legal =
        granted_stands table (lock_state history) stands s (has_entry (Opened s k snapshot route) follows) k snapshot route
    stands_next (VacuumBegin s k name) follows legal =
        began s (has_entry (VacuumBegin s k name) follows) s k name refl (unswept history s legal.0 (follows_within history s refl follows))
    stands_next (Commit s k stamp low high) follows legal = ended s (has_entry (Commit s k stamp low high) follows) (Commit s k stamp low high) refl follows refl
    stands_next (Violation s k low high object) follows legal =
        ended s (has_entry (Violation s k low high object) follows) (Violation s k low high object) refl follows refl
    stands_next (Refuse s k refusal) follows legal = ended s (has_entry (Refuse s k refusal) follows) (Refuse s k refusal) refl follows refl
    stands_next (Rollback s k) follows legal = ended s (has_entry (Rollback s k) follows) (Rollback s k) refl follows refl
    stands_next (End s) follows legal = ended s (has_entry (End s) follows) (End s) refl follows refl
    stands_next (VacuumEnd s k) follows legal =
        let_go s (has_entry (VacuumEnd s k) follows) (VacuumEnd s k) refl (swept_none s k follows) refl
    stands_next (Refresh cluster stamp) follows legal = record { counted = stands.counted; held = stands.held; waits = stands.waits }

-- ---- nothing has happened yet
pub locks_start : (history : History) (sessions : ℕ) (table : LockTable) → sessions ≡ session_count history.world → history.events ≡ []
    → table ≡ replicate (sessions + 1) free_entry → StandsForLocks table (lock_state history)
locks_start history sessions table all none is =
    subst (λ (events : List Event). StandsForLocks table (record { wants = wants_of history.world; sessions = session_count history.world; events = events })) (sym none)
    (subst (λ (n : ℕ). StandsForLocks table (record { wants = wants_of history.world; sessions = n; events = [] })) all
    (subst (λ (t : LockTable). StandsForLocks t (record { wants = wants_of history.world; sessions = sessions; events = [] })) (sym is)
    (new_stands (wants_of history.world) sessions)))
