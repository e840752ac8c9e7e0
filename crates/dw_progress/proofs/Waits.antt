-- What one more event makes of the waits of sessions.
use Rattle.std.proofs.Common.{◌≡◌, ◌⊎◌, inl, inr, ℕ, suc, ◌≤◌, Bool, true, false, not, ◌&&◌, ◌==◌, List, [], ◌∷◌, ap, sym, refl, ◌∙◌, subst, arith}
use Rattle.std.specs.Prelude.{Option, Some, None, if◌then◌else◌}
use Rattle.std.specs.List.{list_any, range_with_len}
use Rattle.std.proofs.lemmas.Bool.{eqb-true, eq-eqb}
use Rattle.dw_journal.specs.declared.locks.Want.{Want}
use Rattle.dw_journal.specs.declared.Event.{Event}
use Rattle.dw_journal.specs.declared.Event.TheVariants as event
use Rattle.dw_journal.specs.History.{is_of, is_session, newest_event, session_of}
use Rattle.dw_journal.specs.Locks.{LockState, stands_in_way, has_conflict, held_locks, blockers, contains, waits_by, waits_for, would_wait_for, deadlock_cycle}
use Rattle.dw_locks.specs.Lasting.{after_event}
use Rattle.dw_locks.proofs.Lasting.{held_own, held_other}
use Rattle.dw_progress.proofs.Counting.{turned, kept, keeps, ranged}
use Rattle.dw_progress.proofs.Ways.{Ends, Leads, first, onward, leads_more, comes_not_back, still_ends, more_ends}

-- whether a session with these locks is in the way of one that asks for those
abbrev is_in_way : ℕ → List Want → ℕ → List Want → Bool
is_in_way session asked other held = not (other == session) && list_any (λ lock. list_any (stands_in_way lock) asked) held

module _ (state : LockState) where
  abbrev sessions : List ℕ
  sessions = range_with_len 0 (suc state.sessions)

  -- who blocks somebody is a session, and holds a lock
  blocks : (session other : ℕ) (asked : List Want) → contains (blockers state session asked) other ≡ true
      → (other ≤ state.sessions) × (held_locks state other ≡ [] → ⊥)
  blocks session other asked there =
      let is = kept (λ (one : ℕ). not (one == session) && has_conflict state asked one) other sessions there in
      let below = ranged other 0 (suc state.sessions) is.1 in
      (omega (arith, below), λ none. in_way_by (held_locks state other) none is.0)
    where
      none_in_way : (b : Bool) → (b && false) ≡ true → ⊥
      none_in_way true is = cc
      none_in_way false is = cc

      in_way_by : (held : List Want) → held ≡ [] → is_in_way session asked other held ≡ true → ⊥
      in_way_by [] none is = none_in_way (not (other == session)) is
      in_way_by (lock ∷ held) none is = cc

  pub waited_by : (session other : ℕ) (newest : Option Event) → contains (waits_by state session newest) other ≡ true
      → (other ≤ state.sessions) × (held_locks state other ≡ [] → ⊥)
  waited_by session other (Some (event.Wait one k holders)) there = blocks session other (state.wants session k) there
  waited_by session other newest there = absurd (cc)

  pub waited : (session other : ℕ) → contains (waits_for state session) other ≡ true → (other ≤ state.sessions) × (held_locks state other ≡ [] → ⊥)
  waited session other there = waited_by session other (newest_event session state.events) there

module _ (state : LockState) where
  would_by : (session one other : ℕ) (asked : List Want) (b : Bool)
      → contains (if b then blockers state session asked else waits_for state one) other ≡ true → other ≤ state.sessions
  would_by session one other asked true there = (blocks state session other asked there).0
  would_by session one other asked false there = (waited state one other there).0

  would_member : (session : ℕ) (asked : List Want) (one other : ℕ) → contains (would_wait_for state session asked one) other ≡ true → other ≤ state.sessions
  would_member session asked one other there = would_by session one other asked (one == session) there

  -- ---- one more event
  module _ (now : Event) where
    abbrev after : LockState
    after = after_event state now

    -- who blocks after it, and holds what it held, blocked before
    blocked_before : (session other : ℕ) (asked : List Want) → held_locks after other ≡ held_locks state other
        → contains (blockers after session asked) other ≡ true → contains (blockers state session asked) other ≡ true
    blocked_before session other asked same there =
        let is = kept (λ (one : ℕ). not (one == session) && has_conflict after asked one) other (sessions state) there in
        keeps (λ (one : ℕ). not (one == session) && has_conflict state asked one) other (sessions state)
        (ap (is_in_way session asked other) (sym same) ∙ is.0) is.1

    before_by : (session other : ℕ) (newest : Option Event) → held_locks after other ≡ held_locks state other
        → contains (waits_by after session newest) other ≡ true → contains (waits_by state session newest) other ≡ true
    before_by session other (Some (event.Wait one k holders)) same there = blocked_before session other (state.wants session k) same there
    before_by session other newest same there = absurd (cc)

    -- so who isn't the event's session waited before for whom it waits, where that one holds what it held
    waited_before : (session other : ℕ) → is_of session now ≡ false → held_locks after other ≡ held_locks state other
        → contains (waits_for after session) other ≡ true → contains (waits_for state session) other ≡ true
    waited_before session other apart same there =
        before_by session other (newest_event session state.events) same
        (ap (λ (b : Bool). contains (waits_by after session (if b then Some now else newest_event session state.events)) other) (sym apart) ∙ there)

    module _ (session : ℕ) (its : session_of now ≡ Some session) where
      not_its : (one : ℕ) → (session == one) ≡ false → is_of one now ≡ false
      not_its one apart = ap (is_session one) its ∙ apart

      own_waits : (other : ℕ) → contains (waits_for after session) other ≡ true → contains (waits_by after session (Some now)) other ≡ true
      own_waits other there =
          ap (λ (b : Bool). contains (waits_by after session (if b then Some now else newest_event session state.events)) other) (sym its_own) ∙ there
        where
          same_itself : (session == session) ≡ true
          same_itself = eq-eqb session session refl

          its_own : is_of session now ≡ true
          its_own = ap (is_session session) its ∙ same_itself

      -- an event with which a session waits for nobody
      others_wait : (one other : ℕ) (b : Bool) → (session == other) ≡ b → (session == one) ≡ false → contains (waits_for after one) other ≡ true
          → (session ≡ other) ⊎ (contains (waits_for state one) other ≡ true)
      others_wait one other true same apart there = inl (eqb-true session other same)
      others_wait one other false differ apart there =
          inr (waited_before one other (not_its one apart) (held_other state now other (not_its other differ)) there)

      pub quiet_ends : ((other : ℕ) → contains (waits_by after session (Some now)) other ≡ true → ⊥) → ((one : ℕ) → Ends (waits_for state) one)
          → (one : ℕ) → Ends (waits_for after) one
      quiet_ends rests ended =
          still_ends (waits_for state) (waits_for after) session ended (λ other there. rests other (own_waits other there))
          (λ one other apart there. others_wait one other (session == other) refl apart there)

  -- ---- a session begins to wait
  module _ (session k : ℕ) (holders : List ℕ) where
    abbrev wait : Event
    wait = event.Wait session k holders

    abbrev asked : List Want
    asked = state.wants session k

    held_by : (other : ℕ) (b : Bool) → (session == other) ≡ b → held_locks (after_event state wait) other ≡ held_locks state other
    held_by other true same =
        subst (λ (n : ℕ). held_locks (after_event state wait) n ≡ held_locks state n) (eqb-true session other same) (held_own state wait session refl)
    held_by other false apart = held_other state wait other apart

    held_still : (other : ℕ) → held_locks (after_event state wait) other ≡ held_locks state other
    held_still other = held_by other (session == other) refl

    others_still : (one other : ℕ) → (session == one) ≡ false → contains (waits_for (after_event state wait) one) other ≡ true
        → contains (waits_for state one) other ≡ true
    others_still one other apart there = waited_before wait one other apart (held_still other) there

    -- it waits for whom it would have waited for
    as_asked_by : (one other : ℕ) (b : Bool) → (one == session) ≡ b → contains (waits_for (after_event state wait) one) other ≡ true
        → contains (if b then blockers state session asked else waits_for state one) other ≡ true
    as_asked_by one other true same there =
        let own : contains (waits_for (after_event state wait) session) other ≡ true =
        subst (λ (n : ℕ). contains (waits_for (after_event state wait) n) other ≡ true) (eqb-true one session same) there in
        blocked_before wait session other asked (held_still other) (own_waits wait session refl other own)
    as_asked_by one other false apart there = others_still one other (turned one session apart) there

    as_asked : (one other : ℕ) → contains (waits_for (after_event state wait) one) other ≡ true → contains (would_wait_for state session asked one) other ≡ true
    as_asked one other there = as_asked_by one other (one == session) refl there

    -- where its wait was tested, it closes no cycle
    pub tested_ends : session ≤ state.sessions → deadlock_cycle state session asked ≡ None → ((one : ℕ) → Ends (waits_for state) one)
        → (one : ℕ) → Ends (waits_for (after_event state wait)) one
    tested_ends within none ended =
        more_ends (waits_for state) (waits_for (after_event state wait)) session ended others_still
        (λ leads. comes_not_back (would_wait_for state session asked) session state.sessions within (would_member session asked) none
        (leads_more (waits_for (after_event state wait)) (would_wait_for state session asked) as_asked session session leads))

    -- nor where the session holds no lock, since nobody waits for it
    nobody_leads : (to : ℕ) → to ≡ session → held_locks state session ≡ [] → Leads (waits_for (after_event state wait)) session to → ⊥
    nobody_leads to same none (first there) =
        (waited (after_event state wait) session to there).1 (held_still to ∙ ap (held_locks state) same ∙ none)
    nobody_leads to same none (onward {over = over} leads there) =
        (waited (after_event state wait) over to there).1 (held_still to ∙ ap (held_locks state) same ∙ none)

    pub lockless_ends : held_locks state session ≡ [] → ((one : ℕ) → Ends (waits_for state) one)
        → (one : ℕ) → Ends (waits_for (after_event state wait)) one
    lockless_ends none ended =
        more_ends (waits_for state) (waits_for (after_event state wait)) session ended others_still
        (λ leads. nobody_leads session refl none leads)
