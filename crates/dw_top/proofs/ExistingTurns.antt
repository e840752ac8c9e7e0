-- What is due of a session after events of no vacuum, and what its newest event tells of the statement and the
-- transaction that it is due of.
use Rattle.std.proofs.Common.{◌≡◌, ◌≢◌, ℕ, zero, suc, ◌+◌, ◌≤◌, Bool, true, false, List, [], ◌∷◌, refl, ap, subst, arith}
use Rattle.std.specs.Prelude.{Option, Some, None, if◌then◌else◌}
use Rattle.std.proofs.lemmas.Bool.{eqb-true}
use Rattle.dw_model.specs.declared.answers.Answer.{Answer as Reply}
use Rattle.dw_model.specs.declared.statements.Statement.{Statement}
use Rattle.dw_journal.specs.declared.BlockState.{BlockState}
use Rattle.dw_journal.specs.declared.BlockState.TheVariants.{Outside, Within, Aborted}
use Rattle.dw_journal.specs.declared.Event.{Event}
use Rattle.dw_journal.specs.declared.Event.TheVariants.{Opened, Answer, VacuumBegin, VacuumSlice, VacuumEnd, End}
use Rattle.dw_journal.specs.declared.Given.{Given}
use Rattle.dw_journal.specs.declared.Route.{Route}
use Rattle.dw_journal.specs.declared.Shape.{Shape}
use Rattle.dw_journal.specs.declared.World.{World}
use Rattle.dw_journal.specs.Worlds.{given_at, statement_at}
use Rattle.dw_journal.specs.Blocks.{block_of}
use Rattle.dw_journal.specs.Follows.{EachFollows}
use Rattle.dw_journal.specs.History.{History, is_of, is_session, newest_event, session_of, statements_taken}
use Rattle.dw_journal.specs.Legal.{EachIsLegal, IsLegalOpened, IsNextEvent}
use Rattle.dw_journal.specs.Progress.{waits_or_sweeps}
use Rattle.dw_journal.specs.Transactions.{Transaction, answered_in, transaction_after, transaction_of}
use Rattle.dw_journal.specs.Turns.{Turn, Nothing, AnswerOf, CommitOf, Taking, AtEnd, call_of, taking, turn_after, turn_of}
use Rattle.dw_journal.specs.Vacuums.{swept_after, swept_by}
use Rattle.dw_core.proofs.DueEvents.{told}
use Rattle.dw_engine.specs.Steps.{IsStep, at_end, repeats, waited, moved}
use Rattle.dw_engine.proofs.DueTurns.{answer_has}

-- ---- events of no vacuum
abbrev pub is_of_vacuum : Event → Bool
is_of_vacuum (VacuumBegin session k table) = true
is_of_vacuum (VacuumSlice session k slice horizon) = true
is_of_vacuum (VacuumEnd session k) = true
is_of_vacuum event = false

abbrev pub AreUnswept : List Event → Type 0
AreUnswept [] = Unit {0}
AreUnswept (newest ∷ older) = (is_of_vacuum newest ≡ false) × AreUnswept older

swept_own : (event : Event) (before : Option (List ℕ)) (own : Bool) → is_of_vacuum event ≡ false → before ≡ None
    → (if own then swept_after event before else before) ≡ None
swept_own event before false calm none = none
swept_own (VacuumBegin session k table) before true calm none = cc
swept_own (VacuumSlice session k slice horizon) before true calm none = cc
swept_own (VacuumEnd session k) before true calm none = cc
swept_own event before true calm none = none

pub unswept : (events : List Event) → AreUnswept events → (session : ℕ) → swept_by session events ≡ None
unswept [] none session = refl
unswept (event ∷ older) none session =
    swept_own event (swept_by session older) (is_of session event) none.0 (unswept older none.1 session)

calm_move : (event : Event) → waits_or_sweeps event ≡ false → is_of_vacuum event ≡ false
calm_move (VacuumBegin session k table) plain = cc
calm_move (VacuumSlice session k slice horizon) plain = cc
calm_move (VacuumEnd session k) plain = cc
calm_move event plain = refl

-- the events so far follow, are legal, and are of no vacuum
pub record IsWell (history : History) : Type 0 where
  pub follows : EachFollows history.shape history.world history.events
  pub legal : EachIsLegal history.shape history.world history.events
  pub calm : AreUnswept history.events

-- so they stay after a step
pub well_after : {session : ℕ} {before after : History} → IsStep session before after → IsWell before → IsWell after
well_after (at_end ended) well = well
well_after (repeats again stuck) well = well
well_after (waited holders next stuck) well =
    record { follows = (next.0, well.follows); legal = (next.1, well.legal); calm = (refl, well.calm) }
well_after (moved event of_session plain next) well =
    record { follows = (next.0, well.follows); legal = (next.1, well.legal); calm = (calm_move event plain, well.calm) }

-- ---- what a session's newest event tells: an open statement is in the grammar, and an answered one has a transaction
abbrev pub Fits : World → ℕ → Option Transaction → Option Event → Type 0
Fits world session transaction None = Unit {0}
Fits world session transaction (Some (Opened other k snapshot route)) =
    (statement : Statement) × (statement_at world session k ≡ Some statement)
Fits world session transaction (Some (Answer other k answer)) = (one : Transaction) × (transaction ≡ Some one)
Fits world session transaction (Some (VacuumBegin other k table)) = ⊥
Fits world session transaction (Some (VacuumSlice other k slice horizon)) = ⊥
Fits world session transaction (Some event) = Unit {0}

opened_given : (older : History) (session k snapshot : ℕ) (route : Route) (given : Option Statement)
    → IsLegalOpened older session k snapshot route given → (statement : Statement) × (given ≡ Some statement)
opened_given older session k snapshot route None legal = absurd legal
opened_given older session k snapshot route (Some statement) legal = (statement, refl)

answered_some : (k : ℕ) (answer : Reply) (transaction : Option Transaction) → transaction ≢ None
    → (one : Transaction) × (answered_in k answer transaction ≡ Some one)
answered_some k answer None has = absurd (has refl)
answered_some k answer (Some transaction) has =
    (record { snapshot = transaction.snapshot; answered = (k, answer) ∷ transaction.answered }, refl)

same_session : (a b : ℕ) → Some a ≡ Some b → a ≡ b
same_session a b e = cc

own_session : (session : ℕ) (found : Option ℕ) → is_session session found ≡ true → found ≡ Some session
own_session session None is = cc
own_session session (Some other) is = ap (λ (s : ℕ). Some s) (eqb-true other session is)

module _ (older : History) (session : ℕ) (some : 1 ≤ session) where
  own_fits : (event : Event) → session_of event ≡ Some session → IsNextEvent older event → is_of_vacuum event ≡ false
      → Fits older.world session (transaction_after event (transaction_of session older.events)) (Some event)
  own_fits (Opened other k snapshot route) own next calm =
      subst (λ (s : ℕ). (statement : Statement) × (statement_at older.world s k ≡ Some statement)) (same_session other session own)
      (opened_given older other k snapshot route (statement_at older.world other k) next.1)
  own_fits (Answer other k answer) own next calm =
      answered_some k answer (transaction_of session older.events) (answer_has older session k some (told older session (Answer other k answer) own next.0))
  own_fits (VacuumBegin other k table) own next calm = cc
  own_fits (VacuumSlice other k slice horizon) own next calm = cc
  own_fits event own next calm = tt

  fits_by : (event : Event) (own : Bool) → is_of session event ≡ own → IsNextEvent older event → is_of_vacuum event ≡ false
      → Fits older.world session (transaction_of session older.events) (newest_event session older.events)
      → Fits older.world session (if own then transaction_after event (transaction_of session older.events) else transaction_of session older.events)
      (if own then Some event else newest_event session older.events)
  fits_by event true is next calm before = own_fits event (own_session session (session_of event) is) next calm
  fits_by event false is next calm before = before

fits : (shape : Shape) (world : World) (events : List Event) → EachFollows shape world events → EachIsLegal shape world events → AreUnswept events
    → (session : ℕ) → 1 ≤ session → Fits world session (transaction_of session events) (newest_event session events)
fits shape world [] follows legal calm session some = tt
fits shape world (event ∷ older) follows legal calm session some =
    fits_by (record { shape = shape; world = world; events = older }) session some event (is_of session event) refl (follows.0, legal.0) calm.0
    (fits shape world older follows.1 legal.1 calm.1 session some)

-- ---- the turns that are left
pub data IsLeft (history : History) (session : ℕ) : Turn → Type 0 where
  is_done : IsLeft history session Nothing
  is_open : (k : ℕ) (statement : Statement) → statement_at history.world session k ≡ Some statement → IsLeft history session (AnswerOf k)
  is_answered : (k : ℕ) (one : Transaction) → transaction_of session history.events ≡ Some one → IsLeft history session (CommitOf k)
  is_next : (k : ℕ) (given : Given) → given_at history.world session k ≡ Some given → IsLeft history session (Taking k (call_of given))
  is_last : IsLeft history session AtEnd

module _ (history : History) (session : ℕ) where
  next_left : (k : ℕ) (given : Option Given) → given_at history.world session k ≡ given → IsLeft history session (taking k given)
  next_left k None is = is_last
  next_left k (Some given) is = is_next k given is

  turn_left : (block : BlockState) (newest : Option Event) (k : ℕ) → Fits history.world session (transaction_of session history.events) newest
      → IsLeft history session (turn_after history.shape block newest (taking k (given_at history.world session k)))
  turn_left block (Some (Opened other j snapshot route)) k tells = is_open j tells.0 tells.1
  turn_left Outside (Some (Answer other j answer)) k tells = is_answered j tells.0 tells.1
  turn_left Within (Some (Answer other j answer)) k tells = next_left k (given_at history.world session k) refl
  turn_left Aborted (Some (Answer other j answer)) k tells = next_left k (given_at history.world session k) refl
  turn_left block (Some (VacuumBegin other j table)) k tells = absurd tells
  turn_left block (Some (VacuumSlice other j slice horizon)) k tells = absurd tells
  turn_left block (Some (End other)) k tells = is_done
  turn_left block newest k tells = next_left k (given_at history.world session k) refl

pub left_of : (history : History) (session : ℕ) → 1 ≤ session → IsWell history → IsLeft history session (turn_of history session)
left_of history zero some well = absurd (omega (arith, some))
left_of history (suc n) some well =
    turn_left history (suc n) (block_of history (suc n)) (newest_event (suc n) history.events) (statements_taken (suc n) history.events + 1)
    (fits history.shape history.world history.events well.follows well.legal well.calm (suc n) some)
