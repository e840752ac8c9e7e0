-- What is due of a session tells of its newest event: whether its script is at its end, and whether a statement is open.
use Rattle.std.proofs.Common.{◌≡◌, ◌≢◌, ℕ, zero, suc, ◌+◌, ◌≤◌, Bool, true, false, List, [], ◌∷◌, refl, sym, subst, ◌∙◌, arith}
use Rattle.std.specs.Prelude.{Option, Some, None, if◌then◌else◌}
use Rattle.dw_journal.specs.declared.BlockState.{BlockState}
use Rattle.dw_journal.specs.declared.BlockState.TheVariants.{Outside, Within, Aborted}
use Rattle.dw_journal.specs.declared.Event.{Event}
use Rattle.dw_journal.specs.declared.Event.TheVariants.{Opened, Answer, VacuumBegin, VacuumSlice, End}
use Rattle.dw_journal.specs.declared.Given.{Given}
use Rattle.dw_journal.specs.declared.Shape.{Shape}
use Rattle.dw_journal.specs.Worlds.{given_at}
use Rattle.dw_journal.specs.History.{History, is_of, is_end, newest_event, has_ended, statements_taken}
use Rattle.dw_journal.specs.Blocks.{block_of}
use Rattle.dw_journal.specs.Transactions.{Transaction, transaction_of, transaction_after, opened_in}
use Rattle.dw_journal.specs.Turns.{Turn, Nothing, AnswerOf, AtEnd, CommitOf, SliceOf, SweepEndOf, Taking, call_of, next_turn, number_due, turn_of, turn_after, taking}
use Rattle.dw_core.specs.declared.cores.Next.{Next}
use Rattle.dw_core.specs.declared.cores.Next.TheVariants as next
use Rattle.dw_core.specs.Readers.{MeansTurn}

-- nothing is due
abbrev pub is_nothing : Next → Bool
is_nothing next.Nothing = true
is_nothing due = false

abbrev is_opened : Option Event → Bool
is_opened (Some (Opened session statement snapshot route)) = true
is_opened event = false

abbrev Tells : Turn → Option Event → Type 0
Tells Nothing newest = is_end newest ≡ true
Tells (AnswerOf k) newest = is_opened newest ≡ true
Tells turn newest = Unit {0}

taking_tells : (k : ℕ) (given : Option Given) (newest : Option Event) → Tells (taking k given) newest
taking_tells k None newest = tt
taking_tells k (Some given) newest = tt

sweeping_tells : (k slice : ℕ) (newest : Option Event) (b : Bool) → Tells (if b then SliceOf k slice else SweepEndOf k) newest
sweeping_tells k slice newest true = tt
sweeping_tells k slice newest false = tt

turn_tells : (shape : Shape) (block : BlockState) (newest : Option Event) (k : ℕ) (given : Option Given)
    → Tells (turn_after shape block newest (taking k given)) newest
turn_tells shape block (Some (Opened session statement snapshot route)) k given = refl
turn_tells shape Outside (Some (Answer session statement answer)) k given = tt
turn_tells shape Within (Some (Answer session statement answer)) k given = taking_tells k given (Some (Answer session statement answer))
turn_tells shape Aborted (Some (Answer session statement answer)) k given = taking_tells k given (Some (Answer session statement answer))
turn_tells shape block (Some (VacuumBegin session statement table)) k given = sweeping_tells statement 0 (Some (VacuumBegin session statement table)) _
turn_tells shape block (Some (VacuumSlice session statement slice horizon)) k given = sweeping_tells statement (slice + 1) (Some (VacuumSlice session statement slice horizon)) _
turn_tells shape block (Some (End session)) k given = refl
turn_tells shape block newest k given = taking_tells k given newest

told : (history : History) (session : ℕ) → 1 ≤ session → Tells (turn_of history session) (newest_event session history.events)
told history zero some = absurd (omega arith)
told history (suc n) some =
    turn_tells history.shape (block_of history (suc n)) (newest_event (suc n) history.events) (statements_taken (suc n) history.events + 1)
    (given_at history.world (suc n) (statements_taken (suc n) history.events + 1))

-- a session of which nothing is due is at its end
pub ended_here : (history : History) (session : ℕ) → 1 ≤ session → turn_of history session ≡ Nothing → has_ended session history.events ≡ true
ended_here history session some is = subst (λ (turn : Turn). Tells turn (newest_event session history.events)) is (told history session some)

opened_has : (snapshot : ℕ) (before : Option Transaction) → opened_in snapshot before ≡ None → ⊥
opened_has snapshot None none = cc
opened_has snapshot (Some transaction) none = cc

newest_has : (event : Event) (before : Option Transaction) → is_opened (Some event) ≡ true → transaction_after event before ≡ None → ⊥
newest_has (Opened session statement snapshot route) before is none = opened_has snapshot before none
newest_has event before is none = cc

open_by : (session : ℕ) (event : Event) (older : List Event) (b : Bool)
    → is_opened (if b then Some event else newest_event session older) ≡ true
    → (is_opened (newest_event session older) ≡ true → transaction_of session older ≢ None)
    → (if b then transaction_after event (transaction_of session older) else transaction_of session older) ≢ None
open_by session event older true is rest = newest_has event (transaction_of session older) is
open_by session event older false is rest = rest is

open_has : (session : ℕ) (events : List Event) → is_opened (newest_event session events) ≡ true → transaction_of session events ≢ None
open_has session [] is = cc
open_has session (event ∷ older) is = open_by session event older (is_of session event) is (open_has session older)

-- a session whose statement is open has a transaction
pub answer_has : (history : History) (session k : ℕ) → 1 ≤ session → turn_of history session ≡ AnswerOf k → transaction_of session history.events ≢ None
answer_has history session k some is =
    open_has session history.events (subst (λ (turn : Turn). Tells turn (newest_event session history.events)) is (told history session some))

-- whether a session is at its end is told by what is due of it
ended_turn : (shape : Shape) (block : BlockState) (newest : Option Event) (next : Turn) → is_end newest ≡ true → turn_after shape block newest next ≡ Nothing
ended_turn shape block (Some (End session)) next is = refl
ended_turn shape block newest next is = cc

ended_by : (history : History) (session : ℕ) (b : Bool) → has_ended session history.events ≡ b → (turn_of history session ≡ Nothing → ⊥) → false ≡ b
ended_by history session true is never = absurd (never (ended_turn history.shape (block_of history session) (newest_event session history.events) (next_turn history session) is))
ended_by history session false is never = refl

pub ended_told : (history : History) (session : ℕ) → 1 ≤ session → (due : Next) → MeansTurn history session due → is_nothing due ≡ has_ended session history.events
ended_told history session some next.Nothing means = sym (ended_here history session some means)
ended_told history session some next.Answer means = ended_by history session (has_ended session history.events) refl (λ none. let e : AnswerOf (number_due history session) ≡ Nothing = sym means.0 ∙ none in cc)
ended_told history session some next.Commit means = ended_by history session (has_ended session history.events) refl (λ none. let e : CommitOf (number_due history session) ≡ Nothing = sym means.0 ∙ none in cc)
ended_told history session some next.Take means = ended_by history session (has_ended session history.events) refl (λ none. let e : Taking (number_due history session) (call_of means.0) ≡ Nothing = sym means.2 ∙ none in cc)
ended_told history session some next.End means = ended_by history session (has_ended session history.events) refl (λ none. let e : AtEnd ≡ Nothing = sym means ∙ none in cc)
