-- The statements that were opened in a transaction are those that were answered in it, and the open one.
use Rattle.std.proofs.Common.{◌≡◌, ℕ, zero, suc, ◌+◌, Bool, true, false, List, [], ◌∷◌, map, refl, ap, subst, ◌∙◌, arith}
use Rattle.std.specs.Prelude.{Option, Some, None, if◌then◌else◌}
use Rattle.std.proofs.lemmas.Bool.Decides.{nat_tests}
use Rattle.dw_model.specs.declared.answers.Answer.{Answer as Reply}
use Rattle.dw_journal.specs.declared.BlockState.{BlockState}
use Rattle.dw_journal.specs.declared.BlockState.TheVariants.{Outside, Within, Aborted}
use Rattle.dw_journal.specs.declared.Event.{Event}
use Rattle.dw_journal.specs.declared.Event.TheVariants.{Begin, Pass, Wait, Opened, Answer, Commit, Violation, Refuse, Rollback, VacuumBegin, VacuumSlice, VacuumEnd, Refresh, End}
use Rattle.dw_journal.specs.declared.Given.{Given}
use Rattle.dw_journal.specs.declared.Route.TheVariants.{Main}
use Rattle.dw_journal.specs.declared.Shape.{Shape}
use Rattle.dw_journal.specs.declared.World.{World}
use Rattle.dw_journal.specs.Worlds.{given_at}
use Rattle.dw_journal.specs.History.{History, is_session, is_of, session_of, newest_event, statements_taken}
use Rattle.dw_journal.specs.Blocks.{block_of}
use Rattle.dw_journal.specs.Transactions.{Transaction, transaction_of, transaction_after, opened_after, opened_statements}
use Rattle.dw_journal.specs.Turns.{Turn, AnswerOf, SliceOf, SweepEndOf, turn_after, next_turn, taking}
use Rattle.dw_journal.specs.Follows.{IsAnswer, is_answer, is_answer_refused, IsDecision, IsOpening, IsSweepOpening, commit_within, vacuum_outside, work_outside, work_within, IsDue, answers, decides, takes, FollowsAfter, EachFollows}
use Rattle.dw_journal.proofs.OneJournal.{due_of}

-- the numbers of answered statements
abbrev pub numbers_of : List (ℕ × Reply) → List ℕ
numbers_of answered = map (λ (pair : ℕ × Reply). pair.0) answered

-- the opened statements are the answered ones
abbrev pub AreAnswered : List ℕ → Option Transaction → Type 0
AreAnswered opened None = opened ≡ []
AreAnswered opened (Some transaction) = opened ≡ numbers_of transaction.answered

-- the opened statements are this one, and the answered ones
abbrev pub IsOpenBeside : ℕ → List ℕ → Option Transaction → Type 0
IsOpenBeside k opened None = opened ≡ []
IsOpenBeside k opened (Some transaction) = opened ≡ k ∷ numbers_of transaction.answered

-- by a session's newest event
abbrev pub AreOpened : Option Event → List ℕ → Option Transaction → Type 0
AreOpened (Some (Opened session k snapshot route)) opened transaction = IsOpenBeside k opened transaction
AreOpened newest opened transaction = AreAnswered opened transaction

-- where a statement is open, its answer or refusal is due
open_due : {session k : ℕ} {block : BlockState} {transaction : Option Transaction} {event : Event}
    → IsDue session block transaction (AnswerOf k) event → IsAnswer session k event
open_due (answers d) = d

-- an answer is due where its statement is open
decision_answer : {session k s j : ℕ} {answer : Reply} → IsDecision session k (Answer s j answer) → ⊥
decision_answer d = elim d [ ]

opening_answer : {session k s j : ℕ} {answer : Reply} → IsOpening session k (Answer s j answer) → ⊥
opening_answer d = elim d [ ]

sweep_answer : {session k s j : ℕ} {table : List ℕ} {answer : Reply} → IsSweepOpening session k table (Answer s j answer) → ⊥
sweep_answer d = elim d [ ]

answer_due : {session s k : ℕ} {block : BlockState} {transaction : Option Transaction} {turn : Turn} {answer : Reply}
    → IsDue session block transaction turn (Answer s k answer) → turn ≡ AnswerOf k
answer_due (answers (is_answer answer)) = refl
answer_due (decides d) = absurd (decision_answer d)
answer_due (takes (commit_within d)) = absurd (decision_answer d)
answer_due (takes (vacuum_outside d)) = absurd (sweep_answer d)
answer_due (takes (work_outside d)) = absurd (opening_answer d)
answer_due (takes (work_within d)) = absurd (opening_answer d)

taking_open : (k j : ℕ) (given : Option Given) → taking k given ≡ AnswerOf j → ⊥
taking_open k j None is = cc
taking_open k j (Some given) is = cc

next_open : (history : History) (session j : ℕ) → next_turn history session ≡ AnswerOf j → ⊥
next_open history zero j is = cc
next_open history (suc n) j is =
    taking_open (statements_taken (suc n) history.events + 1) j (given_at history.world (suc n) (statements_taken (suc n) history.events + 1)) is

sweeping_open : (k slice j : ℕ) (b : Bool) → (if b then SliceOf k slice else SweepEndOf k) ≡ AnswerOf j → ⊥
sweeping_open k slice j true is = cc
sweeping_open k slice j false is = cc

-- an answer goes on from the open statement that it answers
answered : (shape : Shape) (block : BlockState) (newest : Option Event) (next : Turn) (k : ℕ) (answer : Reply) (opened : List ℕ) (transaction : Option Transaction)
    → (next ≡ AnswerOf k → ⊥) → turn_after shape block newest next ≡ AnswerOf k → AreOpened newest opened transaction
    → AreAnswered opened (transaction_after (Answer 0 k answer) transaction)
answered shape block None next k answer opened transaction none turn are = absurd (none turn)
answered shape block (Some (Begin s j)) next k answer opened transaction none turn are = absurd (none turn)
answered shape block (Some (Pass s j word)) next k answer opened transaction none turn are = absurd (none turn)
answered shape block (Some (Wait s j holders)) next k answer opened transaction none turn are = absurd (none turn)
answered shape block (Some (Opened s j snapshot route)) next k answer opened None none turn are = are
answered shape block (Some (Opened s j snapshot route)) next k answer opened (Some t) none turn are =
    let same : j ≡ k = cc in
    are ∙ ap (λ (n : ℕ). n ∷ numbers_of t.answered) same
answered shape Outside (Some (Answer s j reply)) next k answer opened transaction none turn are = cc
answered shape Within (Some (Answer s j reply)) next k answer opened transaction none turn are = absurd (none turn)
answered shape Aborted (Some (Answer s j reply)) next k answer opened transaction none turn are = absurd (none turn)
answered shape block (Some (Commit s j stamp low high)) next k answer opened transaction none turn are = absurd (none turn)
answered shape block (Some (Violation s j low high object)) next k answer opened transaction none turn are = absurd (none turn)
answered shape block (Some (Refuse s j refusal)) next k answer opened transaction none turn are = absurd (none turn)
answered shape block (Some (Rollback s j)) next k answer opened transaction none turn are = absurd (none turn)
answered shape block (Some (VacuumBegin s j table)) next k answer opened transaction none turn are = absurd (sweeping_open j 0 k _ turn)
answered shape block (Some (VacuumSlice s j slice horizon)) next k answer opened transaction none turn are = absurd (sweeping_open j (slice + 1) k _ turn)
answered shape block (Some (VacuumEnd s j)) next k answer opened transaction none turn are = absurd (none turn)
answered shape block (Some (Refresh cluster stamp)) next k answer opened transaction none turn are = absurd (none turn)
answered shape block (Some (End s)) next k answer opened transaction none turn are = cc

-- whether an event is an answer or a refusal
abbrev pub is_reply : Event → Bool
is_reply (Answer session k answer) = true
is_reply (Refuse session k refusal) = true
is_reply event = false

replies : {session k : ℕ} {event : Event} → IsAnswer session k event → is_reply event ≡ true
replies (is_answer answer) = refl
replies (is_answer_refused refusal) = refl

-- any other event comes where no statement is open
settled : (shape : Shape) (block : BlockState) (newest : Option Event) (next : Turn) (event : Event) (opened : List ℕ) (transaction : Option Transaction)
    → ((k : ℕ) → turn_after shape block newest next ≡ AnswerOf k → is_reply event ≡ true) → is_reply event ≡ false
    → AreOpened newest opened transaction → AreAnswered opened transaction
settled shape block None next event opened transaction due other are = are
settled shape block (Some (Begin s j)) next event opened transaction due other are = are
settled shape block (Some (Pass s j word)) next event opened transaction due other are = are
settled shape block (Some (Wait s j holders)) next event opened transaction due other are = are
settled shape block (Some (Opened s j snapshot route)) next event opened transaction due other are = cc (due j refl, other)
settled shape block (Some (Answer s j reply)) next event opened transaction due other are = are
settled shape block (Some (Commit s j stamp low high)) next event opened transaction due other are = are
settled shape block (Some (Violation s j low high object)) next event opened transaction due other are = are
settled shape block (Some (Refuse s j refusal)) next event opened transaction due other are = are
settled shape block (Some (Rollback s j)) next event opened transaction due other are = are
settled shape block (Some (VacuumBegin s j table)) next event opened transaction due other are = are
settled shape block (Some (VacuumSlice s j slice horizon)) next event opened transaction due other are = are
settled shape block (Some (VacuumEnd s j)) next event opened transaction due other are = are
settled shape block (Some (Refresh cluster stamp)) next event opened transaction due other are = are
settled shape block (Some (End s)) next event opened transaction due other are = are

-- what an opening makes of settled statements
opens : (k snapshot : ℕ) (opened : List ℕ) (transaction : Option Transaction) → AreAnswered opened transaction
    → IsOpenBeside k (k ∷ opened) (transaction_after (Opened 0 k snapshot Main) transaction)
opens k snapshot opened None are = ap (λ (ks : List ℕ). k ∷ ks) are
opens k snapshot opened (Some t) are = ap (λ (ks : List ℕ). k ∷ ks) are

module _ (shape : Shape) (world : World) where
  abbrev pub at : List Event → History
  at events = record { shape = shape; world = world; events = events }

  -- what is due of a session after its own event
  module _ (older : List Event) (session : ℕ) (are : AreOpened (newest_event session older) (opened_statements session older) (transaction_of session older)) where
    abbrev block : BlockState
    block = block_of (at older) session

    -- where no reply is due, no statement is open
    calm : (event : Event) → session_of event ≡ Some session → FollowsAfter (at older) event → is_reply event ≡ false
        → AreAnswered (opened_statements session older) (transaction_of session older)
    calm event of_session follows other =
        settled shape block (newest_event session older) (next_turn (at older) session) event (opened_statements session older) (transaction_of session older)
        (λ k turn. replies (open_due (subst (λ (t : Turn). IsDue session block (transaction_of session older) t event) turn (due_of shape world older session of_session follows)))) other are

    same_session : (s : ℕ) → Some s ≡ Some session → s ≡ session
    same_session s e = cc

    own : (event : Event) → session_of event ≡ Some session → FollowsAfter (at older) event
        → AreOpened (Some event) (opened_after event (opened_statements session older)) (transaction_after event (transaction_of session older))
    own (Begin s k) is_of follows = calm (Begin s k) is_of follows refl
    own (Pass s k word) is_of follows = calm (Pass s k word) is_of follows refl
    own (Wait s k holders) is_of follows = calm (Wait s k holders) is_of follows refl
    own (Opened s k snapshot route) is_of follows =
        opens k snapshot (opened_statements session older) (transaction_of session older) (calm (Opened s k snapshot route) is_of follows refl)
    own (Answer s k answer) is_of follows =
        answered shape block (newest_event session older) (next_turn (at older) session) k answer (opened_statements session older) (transaction_of session older)
        (next_open (at older) session k) (answer_due (due_of shape world older session is_of follows)) are
    own (Commit s k stamp low high) is_of follows = refl
    own (Violation s k low high object) is_of follows = refl
    own (Refuse s k refusal) is_of follows = refl
    own (Rollback s k) is_of follows = refl
    own (VacuumBegin s k table) is_of follows = calm (VacuumBegin s k table) is_of follows refl
    own (VacuumSlice s k slice horizon) is_of follows = calm (VacuumSlice s k slice horizon) is_of follows refl
    own (VacuumEnd s k) is_of follows = calm (VacuumEnd s k) is_of follows refl
    own (Refresh cluster stamp) is_of follows = cc
    own (End s) is_of follows = refl

  of_option : (session : ℕ) (found : Option ℕ) → is_session session found ≡ true → found ≡ Some session
  of_option session None is = cc
  of_option session (Some other) is = let same : other ≡ session = grind (arith, nat_tests, is) in ap (λ (s : ℕ). Some s) same

  of_it : (session : ℕ) (event : Event) → is_of session event ≡ true → session_of event ≡ Some session
  of_it session event is = of_option session (session_of event) is

  opened_by : (older : List Event) (session : ℕ) (event : Event) (its : Bool) → is_of session event ≡ its → FollowsAfter (at older) event
      → AreOpened (newest_event session older) (opened_statements session older) (transaction_of session older)
      → AreOpened (if its then Some event else newest_event session older) (if its then opened_after event (opened_statements session older) else opened_statements session older)
      (if its then transaction_after event (transaction_of session older) else transaction_of session older)
  opened_by older session event true is follows are = own older session are event (of_it session event is) follows
  opened_by older session event false is follows are = are

  -- the opened statements of each session of a journal that follows
  pub are_opened : (events : List Event) → EachFollows shape world events → (session : ℕ)
      → AreOpened (newest_event session events) (opened_statements session events) (transaction_of session events)
  are_opened [] each session = refl
  are_opened (event ∷ older) each session =
      opened_by older session event (is_of session event) refl each.0 (are_opened older each.1 session)

  -- where an event of a session follows that is no answer and no refusal, the opened statements are the answered ones
  pub settled_at : (older : List Event) → EachFollows shape world older → (session : ℕ) (event : Event) → session_of event ≡ Some session
      → FollowsAfter (at older) event → is_reply event ≡ false → AreAnswered (opened_statements session older) (transaction_of session older)
  settled_at older each session event of_session follows other = calm older session (are_opened older each session) event of_session follows other
