-- Who waits for somebody goes on waiting for the same ones while others begin to wait.
use Rattle.std.proofs.Common.{◌≡◌, ◌≢◌, ℕ, suc, ◌<◌, Bool, true, false, List, [], ◌∷◌, ◌++◌, length, refl, sym, ap, subst, ◌∙◌, arith}
use Rattle.std.specs.Prelude.{Option, Some, flat_map, not, ◌&&◌, ◌==◌, filter, if◌then◌else◌}
use Rattle.std.specs.List.{list_any, range_with_len}
use Rattle.std.proofs.lemmas.Bool.{eq-eqb}
use Rattle.dw_journal.specs.declared.locks.Want.{Want}
use Rattle.dw_journal.specs.declared.Event.{Event}
use Rattle.dw_journal.specs.declared.Event.TheVariants.{Wait}
use Rattle.dw_journal.specs.History.{History, is_of, newest_event, with_event}
use Rattle.dw_journal.specs.Legal.{IsLockWait, blockers_of}
use Rattle.dw_journal.specs.Locks.{LockState, blockers, has_conflict, held_locks, lock_state, stands_in_way, sweep_locks, waits_by, waits_for, wants_of}
use Rattle.dw_journal.specs.Transactions.{opened_after, opened_statements}
use Rattle.dw_journal.specs.Vacuums.{swept_after, swept_by}
use Rattle.dw_locks.specs.Lasting.{after_event}
use Rattle.dw_engine.specs.Steps.{IsStuck}

module _ (state : LockState) (session statement : ℕ) (holders : List ℕ) where
  abbrev held_by : ℕ → Bool → List Want
  held_by other own =
      flat_map (state.wants other) (if own then opened_after (Wait session statement holders) (opened_statements other state.events) else opened_statements other state.events)
      ++ sweep_locks (if own then swept_after (Wait session statement holders) (swept_by other state.events) else swept_by other state.events)

  -- a wait changes no locks
  held_either : (other : ℕ) (own : Bool) → held_by other own ≡ held_locks state other
  held_either other true = refl
  held_either other false = refl

  held_same : (other : ℕ) → held_locks (after_event state (Wait session statement holders)) other ≡ held_locks state other
  held_same other = held_either other (is_of other (Wait session statement holders))

  module _ (asker : ℕ) (asked : List Want) where
    blocked_among : (others : List ℕ)
        → filter (λ (other : ℕ). not (other == asker) && has_conflict (after_event state (Wait session statement holders)) asked other) others
        ≡ filter (λ (other : ℕ). not (other == asker) && has_conflict state asked other) others
    blocked_among [] = refl
    blocked_among (other ∷ others) =
        let same = ap (λ (held : List Want). not (other == asker) && list_any (λ (lock : Want). list_any (stands_in_way lock) asked) held) (held_same other) in
        ap (λ (b : Bool). if b then other ∷ filter (λ (o : ℕ). not (o == asker) && has_conflict (after_event state (Wait session statement holders)) asked o) others
        else filter (λ (o : ℕ). not (o == asker) && has_conflict (after_event state (Wait session statement holders)) asked o) others) same
        ∙ ap (λ (rest : List ℕ). if not (other == asker) && has_conflict state asked other then other ∷ rest else rest) (blocked_among others)

    pub blockers_same : blockers (after_event state (Wait session statement holders)) asker asked ≡ blockers state asker asked
    blockers_same = blocked_among (range_with_len 0 (suc state.sessions))

module _ (history : History) (session : ℕ) where
  stuck_by : (state : LockState) (newest : Option Event) (k : ℕ) (holders found : List ℕ) → newest ≡ Some (Wait session k holders)
      → holders ≡ blockers state session (state.wants session k) → 0 < length holders → 0 < length (waits_by state session newest)
  stuck_by state newest k holders found is same some =
      let e : waits_by state session newest ≡ holders = ap (waits_by state session) is ∙ sym same in
      subst (λ (l : List ℕ). 0 < length l) (sym e) some

  -- a session that waits for its blockers
  pub stuck_again : (k : ℕ) (holders : List ℕ) → newest_event session history.events ≡ Some (Wait session k holders) → IsLockWait history session k holders
      → IsStuck history session
  stuck_again k holders newest waits = stuck_by (lock_state history) (newest_event session history.events) k holders holders newest waits.0 waits.1

  pub stuck_now : (k : ℕ) (holders : List ℕ) → IsLockWait history session k holders → IsStuck (with_event history (Wait session k holders)) session
  stuck_now k holders waits =
      let newest : newest_event session (Wait session k holders ∷ history.events) ≡ Some (Wait session k holders) =
      ap (λ (b : Bool). if b then Some (Wait session k holders) else newest_event session history.events) (eq-eqb session session refl) in
      stuck_by (lock_state (with_event history (Wait session k holders))) (newest_event session (Wait session k holders ∷ history.events)) k holders holders newest
      (waits.0 ∙ sym (blockers_same (lock_state history) session k holders session (wants_of history.world session k))) waits.1

-- another session's wait leaves it so
module _ (history : History) (session k : ℕ) (holders : List ℕ) (other : ℕ) (apart : is_of other (Wait session k holders) ≡ false) where
  waits_same : (newest : Option Event) → waits_by (lock_state (with_event history (Wait session k holders))) other newest ≡ waits_by (lock_state history) other newest
  waits_same (Some (Wait one statement these)) = blockers_same (lock_state history) session k holders other (wants_of history.world other statement)
  waits_same newest = refl

  pub stuck_still : IsStuck history other → IsStuck (with_event history (Wait session k holders)) other
  stuck_still stuck =
      let newest : newest_event other (Wait session k holders ∷ history.events) ≡ newest_event other history.events =
      ap (λ (b : Bool). if b then Some (Wait session k holders) else newest_event other history.events) apart in
      let e : waits_for (lock_state (with_event history (Wait session k holders))) other ≡ waits_for (lock_state history) other =
      ap (waits_by (lock_state (with_event history (Wait session k holders))) other) newest ∙ waits_same (newest_event other history.events) in
      subst (λ (l : List ℕ). 0 < length l) (sym e) stuck
