-- A step of a session leads to just one list of events, but for want of memory.
use Rattle.std.proofs.Common.{inl, inr, ◌≡◌, ℕ, zero, suc, ◌+◌, false, List, [], ◌∷◌, refl, sym, ap, subst, ◌∙◌, arith}
use Rattle.std.specs.Prelude.{Option, Some, None, ◌⊎◌}
use Rattle.dw_model.specs.declared.refusals.Refusal.{Refusal}
use Rattle.dw_model.specs.declared.refusals.Refusal.TheVariants.{Memory}
use Rattle.dw_model.specs.declared.statements.Statement.{Statement}
use Rattle.dw_model.specs.Bound.{bound_refusal}
use Rattle.dw_model.specs.Databases.{def_of}
use Rattle.dw_journal.specs.declared.Event.{Event}
use Rattle.dw_journal.specs.declared.Event.TheVariants.{Wait, Opened, Answer, Refuse, VacuumSlice}
use Rattle.dw_journal.specs.declared.Given.{Given}
use Rattle.dw_journal.specs.declared.Route.{Route}
use Rattle.dw_journal.specs.declared.BlockState.{BlockState}
use Rattle.dw_journal.specs.declared.BlockState.TheVariants.{Outside, Within, Aborted}
use Rattle.dw_journal.specs.Worlds.{given_at, read_in, statement_at}
use Rattle.dw_journal.specs.History.{History, newest_event, statements_taken}
use Rattle.dw_journal.specs.Blocks.{block_of}
use Rattle.dw_journal.specs.Transactions.{Transaction}
use Rattle.dw_journal.specs.Contents.{view, contents}
use Rattle.dw_journal.specs.Vacuums.{sweeper}
use Rattle.dw_journal.specs.Locks.{wants_in, lock_state, blockers, sweep_lock}
use Rattle.dw_journal.specs.Turns.{Call, IsForeign, Begins, Commits, Sweeps, Works, call_of, Turn, AnswerOf, Taking, turn_of}
use Rattle.dw_journal.specs.Follows.{IsAnswer, is_answer, is_answer_refused, IsDecision, is_commit, is_violation, is_commit_refused, IsOpening, is_wait, is_opening_refused, is_opened, IsSweepOpening, is_sweep_wait, is_sweep_refused, is_sweep_begin, IsTaken, foreign, begin_outside, begin_within, begin_aborted, commit_outside, commit_of_nothing, commit_within, commit_aborted, rollback_outside, rollback_within, rollback_aborted, vacuum_outside, vacuum_within, vacuum_aborted, work_outside, work_within, work_aborted, IsDue, answers, decides, rebuilds, has_rebuilt, takes, ends, sweeps}
use Rattle.dw_journal.specs.Legal.{IsLegalAfter, IsWait, IsWaitOf, IsLockWait, IsLegalOpened, IsLegalSweep, IsRefusal, IsTakingRefusal, blockers_of, cycle_of, opening_refusal, unless_blocked, sweep_refusal, table_refusal}
use Rattle.dw_journal.specs.Driven.{is_memory_refusal}
use Rattle.dw_journal.proofs.OneEvent.{IsLegalBut, same_answer, same_refusal, not_memory, work_refused, same_work_refusal, answered_refused, blocked, waiting_refused, turn_given, turn_busy, works_statement, sweeps_wants}

unblocked_refused : (found : List ℕ) (cycle : Option (List ℕ)) (otherwise : Option Refusal) (refusal : Refusal)
    → found ≡ [] → otherwise ≡ None → unless_blocked found cycle otherwise ≡ Some refusal → ⊥
unblocked_refused [] cycle otherwise refusal none fits refused = cc
unblocked_refused (holder ∷ found) cycle otherwise refusal none fits refused = cc

swept_refused : (running : Option ℕ) (otherwise : Option Refusal) (refusal : Refusal) → running ≡ None
    → sweep_refusal running otherwise ≡ Some refusal → otherwise ≡ Some refusal
swept_refused None otherwise refusal none refused = refused
swept_refused (Some session) otherwise refusal none refused = cc

swept_waits : (running : Option ℕ) (otherwise : Option Refusal) (refusal : Refusal) → running ≡ Some 0
    → sweep_refusal running otherwise ≡ Some refusal → ⊥
swept_waits None otherwise refusal is refused = cc
swept_waits (Some zero) otherwise refusal is refused = cc
swept_waits (Some (suc n)) otherwise refusal is refused = cc

module _ (older : History) (n : ℕ) where
  abbrev session : ℕ
  session = suc n

  -- two decisions are the same, where a refusal could only be for want of memory
  decision_one : (k : ℕ) {a b : Event} → IsDecision session k a → IsDecision session k b
      → ((refusal : Refusal) → IsLegalAfter older (Refuse session k refusal) → refusal ≡ Memory)
      → IsLegalBut older a → IsLegalBut older b
      → is_memory_refusal a ≡ false → is_memory_refusal b ≡ false → a ≡ b
  decision_one k (is_commit s l h) (is_commit t m g) memory first second p q = cc (first.0, first.1, first.2, second.0, second.1, second.2)
  decision_one k (is_commit s l h) (is_violation m g object) memory first second p q =
      absurd (omega (arith, first.1, first.2, first.3, second.0, second.1, second.2))
  decision_one k (is_commit s l h) (is_commit_refused r) memory first second p q = absurd (not_memory r (memory r second) q)
  decision_one k (is_violation l h object) (is_commit t m g) memory first second p q =
      absurd (omega (arith, first.0, first.1, first.2, second.1, second.2, second.3))
  decision_one k (is_violation l h object) (is_violation m g other) memory first second p q =
      cc (first.0, first.1, first.3, second.0, second.1, second.3)
  decision_one k (is_violation l h object) (is_commit_refused r) memory first second p q = absurd (not_memory r (memory r second) q)
  decision_one k (is_commit_refused r) b memory first second p q = absurd (not_memory r (memory r first) p)

  module _ (k : ℕ) (call : Call) (block : BlockState) (turn_is : turn_of older session ≡ Taking k call)
      (block_is : block_of older session ≡ block) where
    -- what a legal refusal says at this turn
    refusal_here : (refusal : Refusal) → IsLegalAfter older (Refuse session k refusal)
        → IsTakingRefusal older session refusal k call block
    refusal_here refusal legal =
        subst (λ (b : BlockState). IsTakingRefusal older session refusal k call b) block_is
        (subst (IsRefusal older session k refusal) turn_is legal)

    wait_here : (holders : List ℕ) → IsWait older session k holders → IsWaitOf older session k holders (Taking k call)
    wait_here holders legal = subst (IsWaitOf older session k holders) turn_is legal

    -- the statement at this turn is the script's
    given_here : (g : Given) × (given_at older.world session k ≡ Some g) × (call_of g ≡ call)
    given_here =
        let found = turn_given older.shape (block_of older session) (newest_event session older.events) (statements_taken session older.events + 1) k (given_at older.world session (statements_taken session older.events + 1)) call turn_is in
        (found.0, ap (given_at older.world session) (sym found.1) ∙ found.2, found.3)

  refusals_one : (k : ℕ) (call : Call) (block : BlockState) (a b : Refusal)
      → opening_refusal older session k call block ≡ Some a → opening_refusal older session k call block ≡ Some b
      → Refuse session k a ≡ Refuse session k b
  refusals_one k call block a b first second = ap (Refuse session k) (same_refusal _ a b first second)

  -- the opening of a statement that is run on what the session sees
  module _ (k : ℕ) (statement : Statement) (block : BlockState) (turn_is : turn_of older session ≡ Taking k (Works statement))
      (block_is : block_of older session ≡ block)
      (refused : (refusal : Refusal) → IsTakingRefusal older session refusal k (Works statement) block
      → unless_blocked (blockers_of older session k) (cycle_of older session k) (bound_refusal statement (def_of (view older session))) ≡ Some refusal) where
    here : statement_at older.world session k ≡ Some statement
    here =
        let g = given_here k (Works statement) block turn_is block_is in
        ap read_in g.1 ∙ works_statement g.0 statement g.2

    opened_here : (snapshot : ℕ) (route : Route) → IsLegalAfter older (Opened session k snapshot route)
        → IsLegalOpened older session k snapshot route (Some statement)
    opened_here snapshot route legal = subst (IsLegalOpened older session k snapshot route) here legal

    refused_here : (refusal : Refusal) → IsLegalAfter older (Refuse session k refusal)
        → unless_blocked (blockers_of older session k) (cycle_of older session k) (bound_refusal statement (def_of (view older session))) ≡ Some refusal
    refused_here refusal legal = refused refusal (refusal_here k (Works statement) block turn_is block_is refusal legal)

    waits_here : (holders : List ℕ) → IsWait older session k holders → IsLockWait older session k holders
    waits_here holders legal = wait_here k (Works statement) block turn_is block_is holders legal

    wait_refused : (holders : List ℕ) (refusal : Refusal) → IsWait older session k holders
        → IsLegalAfter older (Refuse session k refusal) → ⊥
    wait_refused holders refusal waits legal =
        let w = waits_here holders waits in
        waiting_refused _ _ _ holders refusal w.0 w.1 w.2 (refused_here refusal legal)

    wait_opened : (holders : List ℕ) (snapshot : ℕ) (route : Route) → IsWait older session k holders
        → IsLegalAfter older (Opened session k snapshot route) → ⊥
    wait_opened holders snapshot route waits legal =
        let w = waits_here holders waits in
        let o = opened_here snapshot route legal in
        blocked _ holders w.0 w.1 o.0

    refused_opened : (refusal : Refusal) (snapshot : ℕ) (route : Route) → IsLegalAfter older (Refuse session k refusal)
        → IsLegalAfter older (Opened session k snapshot route) → ⊥
    refused_opened refusal snapshot route first second =
        let o = opened_here snapshot route second in
        unblocked_refused _ _ _ refusal o.0 o.1 (refused_here refusal first)

    opening_one : {a b : Event} → IsOpening session k a → IsOpening session k b
        → IsLegalBut older a → IsLegalBut older b → a ≡ b
    opening_one (is_wait h) (is_wait g) first second =
        ap (Wait session k) ((waits_here h first).0 ∙ sym (waits_here g second).0)
    opening_one (is_wait h) (is_opening_refused r) first second = absurd (wait_refused h r first second)
    opening_one (is_wait h) (is_opened s route) first second = absurd (wait_opened h s route first second)
    opening_one (is_opening_refused r) (is_wait h) first second = absurd (wait_refused h r second first)
    opening_one (is_opening_refused r) (is_opening_refused q) first second =
        ap (Refuse session k) (same_refusal _ r q (refused_here r first) (refused_here q second))
    opening_one (is_opening_refused r) (is_opened s route) first second = absurd (refused_opened r s route first second)
    opening_one (is_opened s route) (is_wait h) first second = absurd (wait_opened h s route second first)
    opening_one (is_opened s route) (is_opening_refused r) first second = absurd (refused_opened r s route second first)
    opening_one (is_opened s route) (is_opened t other) first second =
        let a = opened_here s route first in
        let b = opened_here t other second in
        cc (a.2, a.3, b.2, b.3)

  -- the opening of a VACUUM outside a block
  module _ (k : ℕ) (table : List ℕ) (turn_is : turn_of older session ≡ Taking k (Sweeps table))
      (block_is : block_of older session ≡ Outside) where
    lock_here : blockers_of older session k ≡ blockers (lock_state older) session (sweep_lock table ∷ [])
    lock_here =
        let g = given_here k (Sweeps table) Outside turn_is block_is in
        ap (blockers (lock_state older) session) (ap (λ (found : Option Given). wants_in (read_in found)) g.1 ∙ sweeps_wants g.0 table g.2)

    sweep_waits : (holders : List ℕ) → IsWait older session k holders
        → ((sweeper older ≡ None) × IsLockWait older session k holders)
        ⊎ ((sweeper older ≡ Some 0) × (holders ≡ 0 ∷ []))
    sweep_waits holders legal = wait_here k (Sweeps table) Outside turn_is block_is holders legal

    sweep_refused : (refusal : Refusal) → IsLegalAfter older (Refuse session k refusal)
        → sweep_refusal (sweeper older) (unless_blocked (blockers_of older session k) (cycle_of older session k) (table_refusal table (contents older))) ≡ Some refusal
    sweep_refused refusal legal = refusal_here k (Sweeps table) Outside turn_is block_is refusal legal

    sweep_wait_refused : (holders : List ℕ) (refusal : Refusal)
        → ((sweeper older ≡ None) × IsLockWait older session k holders)
        ⊎ ((sweeper older ≡ Some 0) × (holders ≡ 0 ∷ []))
        → IsLegalAfter older (Refuse session k refusal) → ⊥
    sweep_wait_refused holders refusal (inl w) legal =
        waiting_refused _ _ _ holders refusal w.1.0 w.1.1 w.1.2 (swept_refused _ _ refusal w.0 (sweep_refused refusal legal))
    sweep_wait_refused holders refusal (inr w) legal = swept_waits _ _ refusal w.0 (sweep_refused refusal legal)

    sweep_wait_begin : (holders : List ℕ)
        → ((sweeper older ≡ None) × IsLockWait older session k holders)
        ⊎ ((sweeper older ≡ Some 0) × (holders ≡ 0 ∷ []))
        → IsLegalSweep older session table → ⊥
    sweep_wait_begin holders (inl w) legal = blocked _ holders w.1.0 w.1.1 (lock_here ∙ legal.1)
    sweep_wait_begin holders (inr w) legal = cc (w.0, legal.0)

    sweep_refused_begin : (refusal : Refusal) → IsLegalAfter older (Refuse session k refusal)
        → IsLegalSweep older session table → ⊥
    sweep_refused_begin refusal first legal =
        unblocked_refused _ _ _ refusal (lock_here ∙ legal.1) legal.2 (swept_refused _ _ refusal legal.0 (sweep_refused refusal first))

    sweep_waits_one : (h g : List ℕ)
        → ((sweeper older ≡ None) × IsLockWait older session k h)
        ⊎ ((sweeper older ≡ Some 0) × (h ≡ 0 ∷ []))
        → ((sweeper older ≡ None) × IsLockWait older session k g)
        ⊎ ((sweeper older ≡ Some 0) × (g ≡ 0 ∷ []))
        → h ≡ g
    sweep_waits_one h g (inl a) (inl b) = a.1.0 ∙ sym b.1.0
    sweep_waits_one h g (inl a) (inr b) = cc (a.0, b.0)
    sweep_waits_one h g (inr a) (inl b) = cc (a.0, b.0)
    sweep_waits_one h g (inr a) (inr b) = a.1 ∙ sym b.1

    sweep_opening_one : {a b : Event} → IsSweepOpening session k table a → IsSweepOpening session k table b
        → IsLegalBut older a → IsLegalBut older b → a ≡ b
    sweep_opening_one (is_sweep_wait h) (is_sweep_wait g) first second =
        ap (Wait session k) (sweep_waits_one h g (sweep_waits h first) (sweep_waits g second))
    sweep_opening_one (is_sweep_wait h) (is_sweep_refused r) first second = absurd (sweep_wait_refused h r (sweep_waits h first) second)
    sweep_opening_one (is_sweep_wait h) is_sweep_begin first second = absurd (sweep_wait_begin h (sweep_waits h first) second)
    sweep_opening_one (is_sweep_refused r) (is_sweep_wait h) first second = absurd (sweep_wait_refused h r (sweep_waits h second) first)
    sweep_opening_one (is_sweep_refused r) (is_sweep_refused q) first second =
        ap (Refuse session k) (same_refusal _ r q (sweep_refused r first) (sweep_refused q second))
    sweep_opening_one (is_sweep_refused r) is_sweep_begin first second = absurd (sweep_refused_begin r first second)
    sweep_opening_one is_sweep_begin (is_sweep_wait h) first second = absurd (sweep_wait_begin h (sweep_waits h second) first)
    sweep_opening_one is_sweep_begin (is_sweep_refused r) first second = absurd (sweep_refused_begin r second first)
    sweep_opening_one is_sweep_begin is_sweep_begin first second = refl

  -- what comes of the next statement
  taken_one : (k : ℕ) {call : Call} {block : BlockState} {transaction : Option Transaction} {a b : Event}
      → IsTaken session k call block transaction a → IsTaken session k call block transaction b
      → turn_of older session ≡ Taking k call → block_of older session ≡ block
      → IsLegalBut older a → IsLegalBut older b
      → is_memory_refusal a ≡ false → is_memory_refusal b ≡ false → a ≡ b
  taken_one k (foreign {given = given} {refusal = r} {block = block}) (foreign {refusal = q}) turn block_is first second p o =
      refusals_one k (IsForeign given) block r q (refusal_here k (IsForeign given) block turn block_is r first) (refusal_here k (IsForeign given) block turn block_is q second)
  taken_one k begin_outside begin_outside turn block_is first second p o = refl
  taken_one k begin_within begin_within turn block_is first second p o = refl
  taken_one k (begin_aborted {refusal = r}) (begin_aborted {refusal = q}) turn block_is first second p o =
      refusals_one k Begins Aborted r q (refusal_here k Begins Aborted turn block_is r first) (refusal_here k Begins Aborted turn block_is q second)
  taken_one k commit_outside commit_outside turn block_is first second p o = refl
  taken_one k commit_of_nothing commit_of_nothing turn block_is first second p o = refl
  taken_one k (commit_within d) (commit_within e) turn block_is first second p o =
      decision_one k d e (λ refusal legal. (refusal_here k Commits Within turn block_is refusal legal).0) first second p o
  taken_one k commit_aborted commit_aborted turn block_is first second p o = refl
  taken_one k rollback_outside rollback_outside turn block_is first second p o = refl
  taken_one k rollback_within rollback_within turn block_is first second p o = refl
  taken_one k rollback_aborted rollback_aborted turn block_is first second p o = refl
  taken_one k (vacuum_outside {table = table} d) (vacuum_outside e) turn block_is first second p o =
      sweep_opening_one k table turn block_is d e first second
  taken_one k (vacuum_within {table = table} {refusal = r}) (vacuum_within {refusal = q}) turn block_is first second p o =
      refusals_one k (Sweeps table) Within r q (refusal_here k (Sweeps table) Within turn block_is r first) (refusal_here k (Sweeps table) Within turn block_is q second)
  taken_one k (vacuum_aborted {table = table} {refusal = r}) (vacuum_aborted {refusal = q}) turn block_is first second p o =
      refusals_one k (Sweeps table) Aborted r q (refusal_here k (Sweeps table) Aborted turn block_is r first) (refusal_here k (Sweeps table) Aborted turn block_is q second)
  taken_one k (work_outside {statement = statement} d) (work_outside e) turn block_is first second p o =
      opening_one k statement Outside turn block_is (λ refusal is. is) d e first second
  taken_one k (work_within {statement = statement} d) (work_within e) turn block_is first second p o =
      opening_one k statement Within turn block_is (λ refusal is. is) d e first second
  taken_one k (work_aborted {statement = statement} {refusal = r}) (work_aborted {refusal = q}) turn block_is first second p o =
      refusals_one k (Works statement) Aborted r q (refusal_here k (Works statement) Aborted turn block_is r first) (refusal_here k (Works statement) Aborted turn block_is q second)

  answer_one : (k : ℕ) {a b : Event} → turn_of older session ≡ AnswerOf k → IsAnswer session k a → IsAnswer session k b
      → IsLegalBut older a → IsLegalBut older b
      → is_memory_refusal a ≡ false → is_memory_refusal b ≡ false → a ≡ b
  answer_one k turn (is_answer a) (is_answer b) first second p o = ap (Answer session k) (same_answer older.world.files _ _ a b first second)
  answer_one k turn (is_answer a) (is_answer_refused r) first second p o =
      absurd (answered_refused older.world.files _ _ a r first (work_refused older.world.files _ _ r (subst (IsRefusal older session k r) turn second) o))
  answer_one k turn (is_answer_refused r) (is_answer a) first second p o =
      absurd (answered_refused older.world.files _ _ a r second (work_refused older.world.files _ _ r (subst (IsRefusal older session k r) turn first) p))
  answer_one k turn (is_answer_refused r) (is_answer_refused q) first second p o =
      ap (Refuse session k) (same_work_refusal older.world.files _ _ r q (work_refused older.world.files _ _ r (subst (IsRefusal older session k r) turn first) p) (work_refused older.world.files _ _ q (subst (IsRefusal older session k q) turn second) o))

  -- what comes of a session
  pub due_one : {turn : Turn} {block : BlockState} {transaction : Option Transaction} {a b : Event}
      → IsDue session block transaction turn a → IsDue session block transaction turn b
      → turn_of older session ≡ turn → block_of older session ≡ block
      → IsLegalBut older a → IsLegalBut older b
      → is_memory_refusal a ≡ false → is_memory_refusal b ≡ false → a ≡ b
  due_one (answers {k = k} d) (answers e) turn block_is first second p o = answer_one k turn d e first second p o
  due_one (decides {k = k} d) (decides e) turn block_is first second p o =
      decision_one k d e (λ refusal legal. (subst (IsRefusal older session k refusal) turn legal).0) first second p o
  due_one (rebuilds {k = k} {slice = slice}) rebuilds turn block_is first second p o =
      ap (VacuumSlice session k slice) (first ∙ sym second)
  due_one has_rebuilt has_rebuilt turn block_is first second p o = refl
  due_one (takes {k = k} d) (takes e) turn block_is first second p o = taken_one k d e turn block_is first second p o
  due_one ends ends turn block_is first second p o = refl
  due_one sweeps sweeps turn block_is first second p o =
      absurd (turn_busy older.shape (block_of older session) (newest_event session older.events) (statements_taken session older.events + 1) (given_at older.world session (statements_taken session older.events + 1)) turn)
