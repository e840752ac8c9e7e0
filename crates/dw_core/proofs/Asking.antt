-- What asking for the locks of a session's next statement is answered, and what may come next then.
use Rattle.std.proofs.Common.{◌≡◌, ◌≢◌, ℕ, ◌<◌, List, [], ◌∷◌, length, set, refl, sym, ap, subst, ◌∙◌, arith}
use Rattle.std.specs.Prelude.{Option, Some, None}
use Rattle.dw_model.specs.declared.refusals.Refusal.{Refusal}
use Rattle.dw_model.specs.declared.refusals.Refusal.TheVariants as refusals
use Rattle.dw_model.specs.declared.statements.Statement.{Statement}
use Rattle.dw_model.specs.Bound.{bound_refusal}
use Rattle.dw_model.specs.Databases.{def_of}
use Rattle.dw_journal.specs.declared.BlockState.{BlockState}
use Rattle.dw_journal.specs.declared.BlockState.TheVariants.{Outside, Within, Aborted}
use Rattle.dw_journal.specs.declared.Event.{Event}
use Rattle.dw_journal.specs.declared.Event.TheVariants.{Wait, Refuse}
use Rattle.dw_journal.specs.declared.locks.Want.{Want}
use Rattle.dw_journal.specs.Worlds.{IsSession}
use Rattle.dw_journal.specs.History.{History, newest_event}
use Rattle.dw_journal.specs.Blocks.{block_of}
use Rattle.dw_journal.specs.Contents.{view}
use Rattle.dw_journal.specs.Locks.{lock_state, wants_of}
use Rattle.dw_journal.specs.Turns.{Turn, Works, number_due}
use Rattle.dw_journal.specs.Follows.{IsOpening, is_wait, is_opening_refused, work_outside, work_within, FollowsAfter}
use Rattle.dw_journal.specs.Legal.{IsLockWait, IsNextEvent, IsRefusal, IsWait, IsWaitOf, blockers_of, cycle_of, opening_refusal, unless_blocked}
use Rattle.dw_locks.specs.LockTable.{LockTable, StandsForLocks, entry_of, table_blockers, table_cycle, waiting}
use Rattle.dw_locks.specs.Requests.{answer_by, answer_to, table_after}
use Rattle.dw_locks.specs.declared.locks.Asked.TheVariants.{Granted, Waits, Deadlock}
use Rattle.dw_locks.proofs.Standing.{blockers_are, cycle_stands}
use Rattle.dw_core.specs.Asking.{IsToAsk, deadlock_due, wait_due}
use Rattle.dw_core.proofs.Driver.{follows_taken}

-- ---- what an answer says of who stands in the way, and of the cycle
pub granted_says : (holders : List ℕ) (cycle : Option (List ℕ)) → Granted ≡ answer_by holders cycle → holders ≡ []
granted_says [] cycle is = refl
granted_says (holder ∷ holders) None is = cc
granted_says (holder ∷ holders) (Some cycle) is = cc

pub waits_say : (named holders : List ℕ) (cycle : Option (List ℕ)) → Waits named ≡ answer_by holders cycle → (named ≡ holders) × (0 < length named) × (cycle ≡ None)
waits_say named [] cycle is = cc
waits_say named (holder ∷ holders) None is =
    let same : named ≡ holder ∷ holders = cc in (same, subst (λ (l : List ℕ). 0 < length l) (sym same) (omega arith), refl)
waits_say named (holder ∷ holders) (Some cycle) is = cc

pub deadlock_says : (closed holders : List ℕ) (cycle : Option (List ℕ)) → Deadlock closed ≡ answer_by holders cycle
    → (cycle ≡ Some closed) × ((first : ℕ) × (rest : List ℕ) × (holders ≡ first ∷ rest))
deadlock_says closed [] cycle is = cc
deadlock_says closed (holder ∷ holders) None is = cc
deadlock_says closed (holder ∷ holders) (Some cycle) is = (cc, (holder, holders, refl))

says_waits : (named holders : List ℕ) (cycle : Option (List ℕ)) → named ≡ holders → 0 < length named → cycle ≡ None → answer_by holders cycle ≡ Waits named
says_waits named [] cycle is some none =
    let long : length named ≡ 0 = ap length is in absurd (omega (arith, long, some))
says_waits named (holder ∷ holders) None is some none = ap Waits (sym is)
says_waits named (holder ∷ holders) (Some cycle) is some none = cc

says_granted : (holders : List ℕ) (cycle : Option (List ℕ)) → holders ≡ [] → answer_by holders cycle ≡ Granted
says_granted [] cycle is = refl
says_granted (holder ∷ holders) cycle is = cc

-- what a table answers is what the events say, and what the answer leaves
module _ (history : History) (table : LockTable) (stands : StandsForLocks table (lock_state history)) (session k : ℕ) (wants : List Want)
    (wants_is : wants ≡ wants_of history.world session k) where
  blockers_told : table_blockers table session wants ≡ blockers_of history session k
  blockers_told = ap (table_blockers table session) wants_is ∙ blockers_are table (lock_state history) stands session (wants_of history.world session k)

  pub answer_told : answer_to table session wants ≡ answer_by (blockers_of history session k) (cycle_of history session k)
  answer_told =
      ap (answer_to table session) wants_is
      ∙ ap (λ (holders : List ℕ). answer_by holders (table_cycle table session (wants_of history.world session k))) (blockers_are table (lock_state history) stands session (wants_of history.world session k))
      ∙ ap (answer_by (blockers_of history session k)) (cycle_stands table (lock_state history) stands session (wants_of history.world session k))

  pub waiting_left : (holders : List ℕ) → IsLockWait history session k holders
      → table_after table session wants (answer_to table session wants) ≡ set table session (waiting (wants_of history.world session k) (entry_of table session))
  waiting_left holders waits =
      ap (table_after table session wants) (answer_told ∙ says_waits holders (blockers_of history session k) (cycle_of history session k) waits.0 waits.1 waits.2)
      ∙ ap (λ (asked : List Want). set table session (waiting asked (entry_of table session))) wants_is

  pub nobody_blocks : blockers_of history session k ≡ [] → table_blockers table session wants ≡ []
  nobody_blocks free = blockers_told ∙ free

-- ---- what may come next
module _ (history : History) (session : ℕ) (is : IsSession history.world session) (to_ask : IsToAsk history session) where
  abbrev k : ℕ
  k = number_due history session

  abbrev statement : Statement
  statement = to_ask.0.0

  opening_follows : (event : Event) → IsOpening session k event → FollowsAfter history event
  opening_follows event opening = by_block (block_of history session) refl
    where
      by_block : (block : BlockState) → block_of history session ≡ block → FollowsAfter history event
      by_block Outside stands = follows_taken history session is (Works statement) Outside event to_ask.0.1 stands (work_outside opening)
      by_block Within stands = follows_taken history session is (Works statement) Within event to_ask.0.1 stands (work_within opening)
      by_block Aborted stands = absurd (to_ask.1 stands)

  pub wait_follows : (holders : List ℕ) → FollowsAfter history (wait_due history session holders)
  wait_follows holders = opening_follows (Wait session k holders) (is_wait holders)

  pub is_lock_wait : (holders : List ℕ) → IsLockWait history session k holders → IsWait history session k holders
  is_lock_wait holders waits = subst (λ (turn : Turn). IsWaitOf history session k holders turn) (sym to_ask.0.1) waits

  pub wait_comes : (holders : List ℕ) → IsLockWait history session k holders → newest_event session history.events ≢ Some (Wait session k holders)
      → IsNextEvent history (wait_due history session holders)
  wait_comes holders waits other = (wait_follows holders, (is_lock_wait holders waits, other))

  closes_first : (cycle : List ℕ) (holders : List ℕ) (closed : Option (List ℕ)) (otherwise : Option Refusal) (first : ℕ) (rest : List ℕ) → holders ≡ first ∷ rest → closed ≡ Some cycle
      → unless_blocked holders closed otherwise ≡ Some (refusals.Deadlock cycle)
  closes_first cycle holders closed otherwise first rest blocked closes = rw (blocked, closes) refl

  deadlock_first : (cycle : List ℕ) (first : ℕ) (rest : List ℕ) → blockers_of history session k ≡ first ∷ rest → cycle_of history session k ≡ Some cycle
      → (block : BlockState) → block ≢ Aborted → opening_refusal history session k (Works statement) block ≡ Some (refusals.Deadlock cycle)
  deadlock_first cycle first rest blocked closes Outside stands =
      closes_first cycle (blockers_of history session k) (cycle_of history session k) (bound_refusal statement (def_of (view history session))) first rest blocked closes
  deadlock_first cycle first rest blocked closes Within stands =
      closes_first cycle (blockers_of history session k) (cycle_of history session k) (bound_refusal statement (def_of (view history session))) first rest blocked closes
  deadlock_first cycle first rest blocked closes Aborted stands = absurd (stands refl)

  pub deadlock_comes : (cycle : List ℕ) → (first : ℕ) × (rest : List ℕ) × (blockers_of history session k ≡ first ∷ rest) → cycle_of history session k ≡ Some cycle
      → IsNextEvent history (deadlock_due history session cycle)
  deadlock_comes cycle blocked closes = (
    opening_follows (Refuse session k (refusals.Deadlock cycle)) (is_opening_refused (refusals.Deadlock cycle)),
    subst (λ (turn : Turn). IsRefusal history session k (refusals.Deadlock cycle) turn) (sym to_ask.0.1)
        (deadlock_first cycle blocked.0 blocked.1 blocked.2 closes (block_of history session) to_ask.1),
  )

pub is_wait_due : (history : History) (session k : ℕ) (named holders : List ℕ) → k ≡ number_due history session → named ≡ holders → Wait session k named ≡ wait_due history session holders
is_wait_due history session k named holders k_is named_is = cc
