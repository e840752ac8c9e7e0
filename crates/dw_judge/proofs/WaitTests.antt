-- A wait is legal exactly where the tests say so.
use Rattle.std.proofs.Common.{◌≡◌, ℕ, Bool, true, false, List, [], ◌∷◌, length, get_or, inl, inr, refl, sym, ap, subst, ◌∙◌, arith}
use Rattle.std.specs.Prelude.{Option, Some, None, ◌&&◌, ◌⊎◌, nat_eq, not}
use Rattle.std.specs.Bool.{Decides}
use Rattle.std.proofs.lemmas.Bool.{eqb-true, eq-eqb, and_parts, and_from, false≢true}
use Rattle.dw_model.specs.Binding.{same_name}
use Rattle.dw_journal.specs.declared.Event.{Event}
use Rattle.dw_journal.specs.declared.Event.TheVariants.{Wait}
use Rattle.dw_journal.specs.History.{History, newest_event}
use Rattle.dw_journal.specs.Vacuums.{sweeper}
use Rattle.dw_journal.specs.Turns.{Call, IsForeign, Begins, Commits, RollsBack, Sweeps, Works, Turn, Nothing, AnswerOf, CommitOf, SliceOf, SweepEndOf, Taking, AtEnd, Idle, turn_of}
use Rattle.dw_journal.specs.Legal.{IsLegalWait, IsLockWait, IsWaitOf}
use Rattle.dw_judge.specs.Waiting.{is_same_wait, is_wait_by, takes_vacuum}
use Rattle.dw_judge.proofs.Judged.{refuted}
use Rattle.dw_judge.proofs.Same.{same_name-self, same_name-true}

pub alone-decides : (holders : List ℕ) (first : ℕ) (result : Bool) → length holders ≡ 1 → first ≡ get_or holders 0 first → result ≡ nat_eq first 0
    → Decides result (holders ≡ 0 ∷ [])
alone-decides [] first result one here tested = absurd (omega (arith, one))
alone-decides (holder ∷ []) first result one here tested = (
  (λ is. ap (λ (n : ℕ). n ∷ []) (sym here ∙ eqb-true first 0 (sym tested ∙ is))),
  (λ is. tested ∙ eq-eqb first 0 (here ∙ cc is)),
)
alone-decides (holder ∷ other ∷ holders) first result one here tested = absurd (omega (arith, one))

pub not_alone : (holders : List ℕ) → (length holders ≡ 1 → ⊥) → Decides false (holders ≡ 0 ∷ [])
not_alone holders more = refuted (λ is. more (ap length is))

same_wait-true : (found : Option Event) (session statement : ℕ) (holders : List ℕ) → is_same_wait found session statement holders ≡ true
    → found ≡ Some (Wait session statement holders)
same_wait-true (Some (Wait other waiting named)) session statement holders is =
    let outer = and_parts (nat_eq other session && nat_eq waiting statement) (same_name named holders) is in
    let inner = and_parts (nat_eq other session) (nat_eq waiting statement) outer.0 in
    ap (λ (n : ℕ). Some (Wait n waiting named)) (eqb-true other session inner.0)
    ∙ ap (λ (n : ℕ). Some (Wait session n named)) (eqb-true waiting statement inner.1)
    ∙ ap (λ (l : List ℕ). Some (Wait session statement l)) (same_name-true named holders outer.1)
same_wait-true found session statement holders is = absurd (false≢true is)

same_wait-self : (session statement : ℕ) (holders : List ℕ) → is_same_wait (Some (Wait session statement holders)) session statement holders ≡ true
same_wait-self session statement holders =
    and_from (nat_eq session session && nat_eq statement statement) (same_name holders holders)
    (and_from (nat_eq session session) (nat_eq statement statement) (eq-eqb session session refl) (eq-eqb statement statement refl)) (same_name-self holders)

some_same : (a b : ℕ) → Some a ≡ Some b → a ≡ b
some_same a b is = cc

not-true : (b : Bool) → not b ≡ true → b ≡ true → ⊥
not-true true is so = false≢true is
not-true false is so = false≢true so

not-from : (b : Bool) → (b ≡ true → ⊥) → not b ≡ true
not-from true no_way = absurd (no_way refl)
not-from false no_way = refl

module _ (history : History) (session statement : ℕ) (holders : List ℕ) where
  abbrev WaitsBeside : Option ℕ → Type 0
  WaitsBeside swept = ((swept ≡ None) × IsLockWait history session statement holders) ⊎ ((swept ≡ Some 0) × (holders ≡ 0 ∷ []))

  -- a VACUUM waits for its locks where no vacuum runs, and else for the background worker's
  beside : (swept : Option ℕ) (alone waits : Bool) → Decides alone (holders ≡ 0 ∷ []) → Decides waits (IsLockWait history session statement holders)
      → Decides (is_wait_by true swept alone waits) (WaitsBeside swept)
  beside None alone waits alone_is waits_is =
      ((λ is. inl (refl, waits_is.0 is)), (λ either. elim either [ inl by_locks ↦ waits_is.1 by_locks.1 | inr by_worker ↦ cc ]))
  beside (Some other) alone waits alone_is waits_is = (
    (λ is. let both = and_parts (nat_eq other 0) alone is in inr (ap Some (eqb-true other 0 both.0), alone_is.0 both.1)),
    (λ either. elim either [
      | inl by_locks ↦ cc
      | inr by_worker ↦ and_from (nat_eq other 0) alone (eq-eqb other 0 (some_same other 0 by_worker.0)) (alone_is.1 by_worker.1)
    ]),
  )

  module _ (swept : Option ℕ) (swept_is : swept ≡ sweeper history) (alone waits : Bool) (alone_is : Decides alone (holders ≡ 0 ∷ []))
      (waits_is : Decides waits (IsLockWait history session statement holders)) where
    abbrev DecidesWait : Turn → Type 0
    DecidesWait turn = Decides (is_wait_by (takes_vacuum turn) swept alone waits) (IsWaitOf history session statement holders turn)

    taken_decides : (k : ℕ) (call : Call) → DecidesWait (Taking k call)
    taken_decides k (Sweeps table) =
        subst (λ (s : Option ℕ). Decides (is_wait_by true swept alone waits) (WaitsBeside s)) swept_is (beside swept alone waits alone_is waits_is)
    taken_decides k (IsForeign refusal) = waits_is
    taken_decides k Begins = waits_is
    taken_decides k Commits = waits_is
    taken_decides k RollsBack = waits_is
    taken_decides k (Works given) = waits_is

    turn_decides : (turn : Turn) → DecidesWait turn
    turn_decides (Taking k call) = taken_decides k call
    turn_decides Nothing = waits_is
    turn_decides (AnswerOf k) = waits_is
    turn_decides (CommitOf k) = waits_is
    turn_decides (SliceOf k slice) = waits_is
    turn_decides (SweepEndOf k) = waits_is
    turn_decides AtEnd = waits_is
    turn_decides Idle = waits_is

    pub wait_decided : (turn : Turn) (last : Option Event) (takes again result : Bool) → turn ≡ turn_of history session
        → takes ≡ takes_vacuum turn → last ≡ newest_event session history.events → again ≡ is_same_wait last session statement holders
        → result ≡ (is_wait_by takes swept alone waits && not again) → Decides result (IsLegalWait history session statement holders)
    wait_decided turn last takes again result turn_is takes_is last_is again_is tested =
        let by : Decides (is_wait_by takes swept alone waits) (IsWaitOf history session statement holders (turn_of history session)) =
        subst (λ (b : Bool). Decides (is_wait_by b swept alone waits) (IsWaitOf history session statement holders (turn_of history session)))
        (sym (takes_is ∙ ap takes_vacuum turn_is)) (turn_decides (turn_of history session)) in (
          (λ is.
              let both = and_parts (is_wait_by takes swept alone waits) (not again) (sym tested ∙ is) in (
                by.0 both.0,
                (λ repeats. not-true again both.1 (again_is ∙ ap (λ (e : Option Event). is_same_wait e session statement holders) (last_is ∙ repeats) ∙ same_wait-self session statement holders)),
              )),
          (λ legal.
              tested ∙ and_from (is_wait_by takes swept alone waits) (not again) (by.1 legal.0)
              (not-from again (λ so. legal.1 (sym last_is ∙ same_wait-true last session statement holders (sym again_is ∙ so))))),
        )
