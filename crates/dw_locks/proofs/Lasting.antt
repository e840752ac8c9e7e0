-- A table goes on standing for a state of locks as the events go on: an event changes no entry but its session's.
use Rattle.std.proofs.Common.{◌≡◌, ◌≢◌, ℕ, ◌+◌, ◌<◌, ◌≤◌, Bool, true, false, ◌||◌, ◌==◌, ◌⊎◌, inl, inr, List, [], ◌∷◌, ◌++◌, length, set, refl, sym, ap, subst, ◌∙◌, arith}
use Rattle.std.specs.Prelude.{Option, Some, None, replicate, flat_map, if◌then◌else◌}
use Rattle.std.specs.List.{list_any}
use Rattle.std.proofs.lemmas.Bool.{eqb-true, eqb-false, eq-eqb, cases_lt}
use Rattle.std.proofs.lemmas.List.{set-get_or, get_or-set_same, get_or-set_other, get_or-replicate, get_or_past, length-set, length-replicate}
use Rattle.std.proofs.lemmas.List.Folds.{list_any-append}
use Rattle.dw_journal.specs.declared.locks.Want.{Want}
use Rattle.dw_journal.specs.declared.Event.{Event}
use Rattle.dw_journal.specs.declared.Event.TheVariants as event
use Rattle.dw_journal.specs.declared.Route.{Route}
use Rattle.dw_journal.specs.History.{is_of, newest_event, session_of}
use Rattle.dw_journal.specs.Transactions.{opened_after, opened_statements}
use Rattle.dw_journal.specs.Vacuums.{swept_after, swept_by}
use Rattle.dw_journal.specs.Locks.{LockState, Wants, held_locks, sweep_locks}
use Rattle.dw_locks.specs.LockTable.{LockEntry, LockTable, HaveSame, StandsForLocks, entry_of, free_entry, granted, waiting, withdrawn, wants_waited}
use Rattle.dw_locks.specs.Lasting.{after_event}
use Rattle.dw_locks.proofs.HeldOnce.{grant_is}

-- ---- what one more event makes of the locks that a session holds
module _ (state : LockState) (event : Event) (session : ℕ) where
  abbrev held_by : Bool → List Want
  held_by own =
      flat_map (state.wants session) (if own then opened_after event (opened_statements session state.events) else opened_statements session state.events)
      ++ sweep_locks (if own then swept_after event (swept_by session state.events) else swept_by session state.events)

  abbrev waited_by : Bool → Option (List Want)
  waited_by own = wants_waited state session (if own then Some event else newest_event session state.events)

  own_one : session_of event ≡ Some session → is_of session event ≡ true
  own_one is = rw is (eq-eqb session session refl)

  -- of its own session
  pub held_own : session_of event ≡ Some session
      → held_locks (after_event state event) session
      ≡ flat_map (state.wants session) (opened_after event (opened_statements session state.events)) ++ sweep_locks (swept_after event (swept_by session state.events))
  held_own is = ap held_by (own_one is)

  pub waited_own : session_of event ≡ Some session
      → wants_waited state session (newest_event session (event ∷ state.events)) ≡ wants_waited state session (Some event)
  waited_own is = ap waited_by (own_one is)

  -- of another session
  pub held_other : is_of session event ≡ false → held_locks (after_event state event) session ≡ held_locks state session
  held_other other = ap held_by other

  pub waited_other : is_of session event ≡ false
      → wants_waited state session (newest_event session (event ∷ state.events)) ≡ wants_waited state session (newest_event session state.events)
  waited_other other = ap waited_by other

module _ (table : LockTable) (state : LockState) (stands : StandsForLocks table state) where
  -- where entries hold and wait for the same, they stand for the same
  pub alike_stands : (other : LockTable) → length other ≡ length table → ((session : ℕ) → (entry_of other session).held ≡ (entry_of table session).held)
      → ((session : ℕ) → (entry_of other session).waits ≡ (entry_of table session).waits) → StandsForLocks other state
  alike_stands other long held waits = record {
    counted = long ∙ stands.counted;
    held = λ session test. ap (list_any test) (held session) ∙ stands.held session test;
    waits = λ session. waits session ∙ stands.waits session;
  }

  module _ (session : ℕ) (within : session < length table) where
    module _ (event : Event) (of_it : session_of event ≡ Some session) (entry : LockEntry)
        (held : HaveSame entry.held (held_locks (after_event state event) session)) (waits : entry.waits ≡ wants_waited state session (Some event)) where
      not_own : (other : ℕ) → (session == other) ≡ false → is_of other event ≡ false
      not_own other differ = rw of_it differ

      apart : (other : ℕ) → (session == other) ≡ false → other ≢ session
      apart other differ same = eqb-false session other differ (sym same)

      held_at : (other : ℕ) (b : Bool) → (session == other) ≡ b → HaveSame (entry_of (set table session entry) other).held (held_locks (after_event state event) other)
      held_at other true same =
          subst (λ (n : ℕ). HaveSame (entry_of (set table session entry) n).held (held_locks (after_event state event) n)) (eqb-true session other same)
          (λ test. ap (λ (one : LockEntry). list_any test one.held) (get_or-set_same table session entry free_entry within) ∙ held test)
      held_at other false differ = λ test.
          ap (λ (one : LockEntry). list_any test one.held) (get_or-set_other table session other entry free_entry (apart other differ))
          ∙ stands.held other test ∙ ap (list_any test) (sym (held_other state event other (not_own other differ)))

      waits_at : (other : ℕ) (b : Bool) → (session == other) ≡ b
          → (entry_of (set table session entry) other).waits ≡ wants_waited state other (newest_event other (event ∷ state.events))
      waits_at other true same =
          subst (λ (n : ℕ). (entry_of (set table session entry) n).waits ≡ wants_waited state n (newest_event n (event ∷ state.events))) (eqb-true session other same)
          (ap (λ (one : LockEntry). one.waits) (get_or-set_same table session entry free_entry within) ∙ waits ∙ sym (waited_own state event session of_it))
      waits_at other false differ =
          ap (λ (one : LockEntry). one.waits) (get_or-set_other table session other entry free_entry (apart other differ))
          ∙ stands.waits other ∙ sym (waited_other state event other (not_own other differ))

      -- an event changes no entry but its session's
      pub stands_set : StandsForLocks (set table session entry) (after_event state event)
      stands_set = record {
        counted = length-set table session entry ∙ stands.counted;
        held = λ other. held_at other (session == other) refl;
        waits = λ other. waits_at other (session == other) refl;
      }

    shuffled : (w f s : Bool) → ((f || s) || w) ≡ ((w || f) || s)
    shuffled true true s = refl
    shuffled true false true = refl
    shuffled true false false = refl
    shuffled false true s = refl
    shuffled false false true = refl
    shuffled false false false = refl

    opened_has : (statement snapshot : ℕ) (route : Route)
        → HaveSame ((entry_of table session).held ++ state.wants session statement) (held_locks (after_event state (event.Opened session statement snapshot route)) session)
    opened_has statement snapshot route test =
        let wants = state.wants session statement in
        let rest = flat_map (state.wants session) (opened_statements session state.events) in
        let sweep = sweep_locks (swept_by session state.events) in
        list_any-append test (entry_of table session).held wants
        ∙ ap (λ (b : Bool). b || list_any test wants) (stands.held session test ∙ list_any-append test rest sweep)
        ∙ shuffled (list_any test wants) (list_any test rest) (list_any test sweep)
        ∙ sym (ap (list_any test) (held_own state (event.Opened session statement snapshot route) session refl)
        ∙ list_any-append test (wants ++ rest) sweep ∙ ap (λ (b : Bool). b || list_any test sweep) (list_any-append test wants rest))

    -- a statement is opened, whose locks were granted
    pub granted_stands : (statement snapshot : ℕ) (route : Route)
        → StandsForLocks (set table session (granted (state.wants session statement) (entry_of table session))) (after_event state (event.Opened session statement snapshot route))
    granted_stands statement snapshot route =
        stands_set (event.Opened session statement snapshot route) refl (granted (state.wants session statement) (entry_of table session))
        (λ test. grant_is (entry_of table session) (state.wants session statement) test ∙ opened_has statement snapshot route test) refl

    -- a session begins to wait
    pub waiting_stands : (statement : ℕ) (holders : List ℕ)
        → StandsForLocks (set table session (waiting (state.wants session statement) (entry_of table session))) (after_event state (event.Wait session statement holders))
    waiting_stands statement holders =
        stands_set (event.Wait session statement holders) refl (waiting (state.wants session statement) (entry_of table session))
        (λ test. stands.held session test ∙ sym (ap (list_any test) (held_own state (event.Wait session statement holders) session refl))) refl

    -- an event leaves its session no lock, and it waits for nothing
    pub released_stands : (event : Event) → session_of event ≡ Some session → held_locks (after_event state event) session ≡ []
        → wants_waited state session (Some event) ≡ None → StandsForLocks (set table session free_entry) (after_event state event)
    released_stands event of_it none free =
        stands_set event of_it free_entry (λ test. sym (ap (list_any test) none)) (sym free)

    -- an event leaves its session's locks, and it waits for nothing, before and after
    pub unchanged_stands : (event : Event) → session_of event ≡ Some session → held_locks (after_event state event) session ≡ held_locks state session
        → wants_waited state session (newest_event session state.events) ≡ None → wants_waited state session (Some event) ≡ None
        → StandsForLocks table (after_event state event)
    unchanged_stands event of_it same before after =
        subst (λ (t : LockTable). StandsForLocks t (after_event state event)) (set-get_or table session free_entry)
        (stands_set event of_it (entry_of table session) (λ test. stands.held session test ∙ sym (ap (list_any test) same))
        (stands.waits session ∙ before ∙ sym after))

    -- a granted request is withdrawn
    module _ (wants : List Want) where
      abbrev grant : LockTable
      grant = set table session (granted wants (entry_of table session))

      abbrev back : LockTable
      back = set grant session (withdrawn (entry_of grant session))

      grant_is_there : entry_of grant session ≡ granted wants (entry_of table session)
      grant_is_there = get_or-set_same table session (granted wants (entry_of table session)) free_entry within

      back_at : (other : ℕ) (b : Bool) → (session == other) ≡ b
          → ((entry_of back other).held ≡ (entry_of table other).held) × ((entry_of back other).waits ≡ (entry_of table other).waits)
      back_at other true same =
          let there : entry_of back session ≡ withdrawn (entry_of grant session) =
          get_or-set_same grant session (withdrawn (entry_of grant session)) free_entry (omega (arith, within, length-set table session (granted wants (entry_of table session)))) in
          subst (λ (n : ℕ). ((entry_of back n).held ≡ (entry_of table n).held) × ((entry_of back n).waits ≡ (entry_of table n).waits)) (eqb-true session other same)
          (ap (λ (one : LockEntry). one.held) (there ∙ ap withdrawn grant_is_there), ap (λ (one : LockEntry). one.waits) (there ∙ ap withdrawn grant_is_there))
      back_at other false differ =
          let apart : other ≢ session = λ (same : other ≡ session). eqb-false session other differ (sym same) in
          let there : entry_of back other ≡ entry_of table other =
          get_or-set_other grant session other (withdrawn (entry_of grant session)) free_entry apart
          ∙ get_or-set_other table session other (granted wants (entry_of table session)) free_entry apart in
          (ap (λ (one : LockEntry). one.held) there, ap (λ (one : LockEntry). one.waits) there)

      pub withdrawn_stands : StandsForLocks back state
      withdrawn_stands =
          alike_stands back
          (length-set grant session (withdrawn (entry_of grant session)) ∙ length-set table session (granted wants (entry_of table session)))
          (λ other. (back_at other (session == other) refl).0) (λ other. (back_at other (session == other) refl).1)

-- ---- nothing has happened yet
entry_free : (count session : ℕ) → (session < count) ⊎ (count ≤ session) → entry_of (replicate count free_entry) session ≡ free_entry
entry_free count session (inl within) = get_or-replicate count session free_entry free_entry within
entry_free count session (inr past) = get_or_past (replicate count free_entry) session free_entry (omega (arith, past, length-replicate count free_entry))

pub new_stands : (wants : Wants) (sessions : ℕ) → StandsForLocks (replicate (sessions + 1) free_entry) (record { wants = wants; sessions = sessions; events = [] })
new_stands wants sessions = record {
  counted = omega (arith, length-replicate (sessions + 1) free_entry);
  held = λ session test. ap (λ (one : LockEntry). list_any test one.held) (entry_free (sessions + 1) session (cases_lt session (sessions + 1)));
  waits = λ session. ap (λ (one : LockEntry). one.waits) (entry_free (sessions + 1) session (cases_lt session (sessions + 1)));
}
