-- The table of locks answers what the history says of locks.
use Rattle.std.proofs.Common.{◌≡◌, ℕ, ◌<◌, Bool, true, List, [], ◌∷◌, length, refl, sym, ap, subst, ◌∙◌, arith}
use Rattle.std.specs.Prelude.{Option, Some, None}
use Rattle.std.specs.Bool.{Decides}
use Rattle.std.proofs.lemmas.Bool.{false≢true}
use Rattle.dw_model.specs.declared.refusals.Refusal.{Refusal}
use Rattle.dw_model.specs.Binding.{same_name}
use Rattle.dw_journal.specs.declared.locks.Want.{Want}
use Rattle.dw_journal.specs.History.{History}
use Rattle.dw_journal.specs.Locks.{blockers, deadlock_cycle, lock_state, wants_of}
use Rattle.dw_journal.specs.Legal.{IsLockWait, blockers_of, cycle_of, unless_blocked}
use Rattle.dw_locks.specs.LockTable.{LockTable, StandsForLocks, table_cycle}
use Rattle.dw_locks.specs.Requests.{answer_by, answer_to}
use Rattle.dw_locks.proofs.Standing.{blockers_are, cycle_stands}
use Rattle.dw_judge.specs.Asking.{is_granted, unless_asked, waits_just_for}
use Rattle.dw_judge.proofs.Same.{same_name-self, same_name-true}

-- ---- what an answer says
granted_decides : (holders : List ℕ) (cycle : Option (List ℕ)) → Decides (is_granted (answer_by holders cycle)) (holders ≡ [])
granted_decides [] cycle = ((λ is. refl), (λ is. refl))
granted_decides (holder ∷ holders) None = ((λ is. absurd (false≢true is)), (λ is. cc))
granted_decides (holder ∷ holders) (Some cycle) = ((λ is. absurd (false≢true is)), (λ is. cc))

some_holder : (named : List ℕ) (holder : ℕ) (holders : List ℕ) → named ≡ holder ∷ holders → 0 < length named
some_holder named holder holders is = subst (λ (l : List ℕ). 0 < length l) (sym is) (omega arith)

none_named : (named : List ℕ) → named ≡ [] → 0 < length named → ⊥
none_named named is some =
    let long : length named ≡ 0 = ap length is in omega (arith, long, some)

some_cycle : (cycle : List ℕ) → Some cycle ≡ None → ⊥
some_cycle cycle is = cc

abbrev WaitsFor : List ℕ → List ℕ → Option (List ℕ) → Type 0
WaitsFor named holders cycle = (named ≡ holders) × (0 < length named) × (cycle ≡ None)

waits_decides : (named holders : List ℕ) (cycle : Option (List ℕ)) → Decides (waits_just_for named (answer_by holders cycle)) (WaitsFor named holders cycle)
waits_decides named [] cycle = ((λ is. absurd (false≢true is)), (λ waits. absurd (none_named named waits.0 waits.1)))
waits_decides named (holder ∷ holders) None = (
  (λ is. let same = sym (same_name-true (holder ∷ holders) named is) in (same, some_holder named holder holders same, refl)),
  (λ waits. subst (λ (l : List ℕ). same_name (holder ∷ holders) l ≡ true) (sym waits.0) (same_name-self (holder ∷ holders))),
)
waits_decides named (holder ∷ holders) (Some cycle) = ((λ is. absurd (false≢true is)), (λ waits. absurd (some_cycle cycle waits.2)))

pub unless_is : (holders : List ℕ) (cycle : Option (List ℕ)) (refusal : Option Refusal)
    → unless_asked (answer_by holders cycle) refusal ≡ unless_blocked holders cycle refusal
unless_is [] cycle refusal = refl
unless_is (holder ∷ holders) None refusal = refl
unless_is (holder ∷ holders) (Some cycle) refusal = refl

-- ---- by a table that stands for the events
module _ (history : History) (table : LockTable) (stands : StandsForLocks table (lock_state history)) (session : ℕ) where
  pub answer_told : (asked : List Want) → answer_to table session asked ≡ answer_by (blockers (lock_state history) session asked) (deadlock_cycle (lock_state history) session asked)
  answer_told asked =
      ap (λ (holders : List ℕ). answer_by holders (table_cycle table session asked)) (blockers_are table (lock_state history) stands session asked)
      ∙ ap (answer_by (blockers (lock_state history) session asked)) (cycle_stands table (lock_state history) stands session asked)

  pub free_decided : (wants : List Want) (free : Bool) → free ≡ is_granted (answer_to table session wants)
      → Decides free (blockers (lock_state history) session wants ≡ [])
  free_decided wants free tested =
      subst (λ (b : Bool). Decides b (blockers (lock_state history) session wants ≡ [])) (sym (tested ∙ ap is_granted (answer_told wants)))
      (granted_decides (blockers (lock_state history) session wants) (deadlock_cycle (lock_state history) session wants))

  pub lock_wait_decided : (statement : ℕ) (holders : List ℕ) (waits : Bool) → waits ≡ waits_just_for holders (answer_to table session (wants_of history.world session statement))
      → Decides waits (IsLockWait history session statement holders)
  lock_wait_decided statement holders waits tested =
      subst (λ (b : Bool). Decides b (IsLockWait history session statement holders)) (sym (tested ∙ ap (waits_just_for holders) (answer_told (wants_of history.world session statement))))
      (waits_decides holders (blockers_of history session statement) (cycle_of history session statement))
