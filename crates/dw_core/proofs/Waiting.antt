-- A session whose newest event is a wait is still to take its statement.
use Rattle.std.proofs.Common.{◌≡◌, ℕ, zero, suc, ◌+◌, ◌≤◌, Bool, true, false, List, [], ◌∷◌, refl, sym, ap, subst, ◌∙◌, arith}
use Rattle.std.specs.Prelude.{Option, Some, None, if◌then◌else◌}
use Rattle.std.proofs.lemmas.Bool.{eqb-true}
use Rattle.dw_journal.specs.declared.Event.{Event}
use Rattle.dw_journal.specs.declared.Event.TheVariants.{Begin, Pass, Wait, Answer, Refuse, Rollback, End}
use Rattle.dw_journal.specs.declared.Shape.{Shape}
use Rattle.dw_journal.specs.declared.World.{World}
use Rattle.dw_journal.specs.Worlds.{given_at}
use Rattle.dw_journal.specs.History.{History, is_of, newest_event, session_of, statements_after, statements_taken}
use Rattle.dw_journal.specs.Blocks.{block_after, block_by}
use Rattle.dw_journal.specs.Locks.{LockState}
use Rattle.dw_journal.specs.Turns.{Call, Turn, AnswerOf, Taking, taking, turn_after, turn_of}
use Rattle.dw_journal.specs.Follows.{EachFollows, FollowsAfter}
use Rattle.dw_journal.proofs.OneEvent.{turn_given}
use Rattle.dw_locks.specs.LockTable.{wants_waited}
use Rattle.dw_core.specs.Changes.{IsPlain, ends_transaction}
use Rattle.dw_core.proofs.DueEvents.{MayWait, TakesAtOnce, told}

-- this statement is to be taken, which may wait
abbrev pub TakesLater : ℕ → Turn → Type 0
TakesLater k turn = (call : Call) × (turn ≡ Taking k call) × MayWait call

module _ (shape : Shape) (world : World) where
  abbrev past : List Event → History
  past events = record { shape = shape; world = world; events = events }

  -- what is due once an event came that is of the session, or of another
  abbrev turn_by : Event → List Event → ℕ → Bool → Turn
  turn_by event older n own =
      turn_after shape (if own then block_after world event (block_by world (suc n) older) else block_by world (suc n) older)
      (if own then Some event else newest_event (suc n) older)
      (taking ((if own then statements_after event (statements_taken (suc n) older) else statements_taken (suc n) older) + 1)
      (given_at world (suc n) ((if own then statements_after event (statements_taken (suc n) older) else statements_taken (suc n) older) + 1)))

  inside : (a b : Event) → Some a ≡ Some b → a ≡ b
  inside a b same = cc

  waits_now : (older : List Event) (n other k : ℕ) (holders : List ℕ) → is_of (suc n) (Wait other k holders) ≡ true
      → FollowsAfter (past older) (Wait other k holders) → TakesLater k (turn_by (Wait other k holders) older n true)
  waits_now older n other k holders own follows =
      let of_it : session_of (Wait other k holders) ≡ Some (suc n) = ap Some (eqb-true other (suc n) own) in
      let due = told (past older) (suc n) (Wait other k holders) of_it follows in
      let number = statements_taken (suc n) older + 1 in
      let given = turn_given shape (block_by world (suc n) older) (newest_event (suc n) older) number k (given_at world (suc n) number) due.0 due.1 in
      (due.0, ap (taking number) given.2 ∙ ap (Taking number) given.3 ∙ ap (λ (j : ℕ). Taking j due.0) given.1, due.2)

  waits_by : (event : Event) (older : List Event) (n : ℕ) (b : Bool) → is_of (suc n) event ≡ b → FollowsAfter (past older) event
      → (other k : ℕ) (holders : List ℕ) → (if b then Some event else newest_event (suc n) older) ≡ Some (Wait other k holders)
      → (newest_event (suc n) older ≡ Some (Wait other k holders) → TakesLater k (turn_of (past older) (suc n)))
      → TakesLater k (turn_by event older n b)
  waits_by event older n false not_own follows other k holders newest later = later newest
  waits_by event older n true own follows other k holders newest later =
      let it : Wait other k holders ≡ event = sym (inside event (Wait other k holders) newest) in
      subst (λ (e : Event). is_of (suc n) e ≡ true → FollowsAfter (past older) e → TakesLater k (turn_by e older n true)) it
      (waits_now older n other k holders) own follows

  pub waits_later : (events : List Event) → EachFollows shape world events → (n other k : ℕ) (holders : List ℕ)
      → newest_event (suc n) events ≡ Some (Wait other k holders) → TakesLater k (turn_of (past events) (suc n))
  waits_later [] each n other k holders newest = cc
  waits_later (event ∷ older) each n other k holders newest =
      waits_by event older n (is_of (suc n) event) refl each.0 other k holders newest (waits_later older each.1 n other k holders)

-- who waits for nothing
free_by : (state : LockState) (session : ℕ) (newest : Option Event) → ((other k : ℕ) (holders : List ℕ) → newest ≡ Some (Wait other k holders) → ⊥)
    → wants_waited state session newest ≡ None
free_by state session (Some (Wait other k holders)) waits_never = absurd (waits_never other k holders refl)
free_by state session newest waits_never = refl

call_same : (k j : ℕ) (a b : Call) → Taking k a ≡ Taking j b → a ≡ b
call_same k j a b same = cc

-- a session that takes a statement at once, or answers one, doesn't wait
at_once : (turn : Turn) (k : ℕ) → TakesAtOnce k turn → (j : ℕ) → TakesLater j turn → ⊥
at_once turn k once j later = once.2 (subst MayWait (call_same j k later.0 once.0 (sym later.1 ∙ once.1)) later.2)

answers_not : (turn : Turn) (k : ℕ) → turn ≡ AnswerOf k → (j : ℕ) → TakesLater j turn → ⊥
answers_not turn k answers j later =
    let same : Taking j later.0 ≡ AnswerOf k = sym later.1 ∙ answers in cc

module _ (history : History) (each : EachFollows history.shape history.world history.events) (state : LockState) where
  pub unwaited : (session : ℕ) → 1 ≤ session → ((j : ℕ) → TakesLater j (turn_of history session) → ⊥) → wants_waited state session (newest_event session history.events) ≡ None
  unwaited zero first never = absurd (omega (arith, first))
  unwaited (suc n) first never =
      free_by state (suc n) (newest_event (suc n) history.events) (λ other k holders newest. never k (waits_later history.shape history.world history.events each n other k holders newest))

  -- an event that ends no transaction comes to a session that doesn't wait
  pub plain_unwaited : (session : ℕ) → 1 ≤ session → (event : Event) → IsPlain session event → session_of event ≡ Some session → FollowsAfter history event
      → ends_transaction event ≡ false → wants_waited state session (newest_event session history.events) ≡ None
  plain_unwaited session first (Begin other k) plain of_it follows goes_on =
      unwaited session first (at_once (turn_of history session) k (told history session (Begin other k) of_it follows))
  plain_unwaited session first (Pass other k word) plain of_it follows goes_on =
      unwaited session first (at_once (turn_of history session) k (told history session (Pass other k word) of_it follows))
  plain_unwaited session first (Answer other k answer) plain of_it follows goes_on =
      unwaited session first (answers_not (turn_of history session) k (told history session (Answer other k answer) of_it follows))
  plain_unwaited session first (Refuse other k refusal) plain of_it follows goes_on = cc
  plain_unwaited session first (Rollback other k) plain of_it follows goes_on = cc
  plain_unwaited session first (End other) plain of_it follows goes_on = cc
  plain_unwaited session first event plain of_it follows goes_on = absurd plain
