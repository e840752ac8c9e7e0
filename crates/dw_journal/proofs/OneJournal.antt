-- A schedule has one journal, but for want of memory.
use Rattle.std.proofs.Common.{inl, inr, ◌≡◌, ℕ, zero, suc, ◌+◌, ◌-◌, ◌<◌, ◌≤◌, true, false, List, [], ◌∷◌, ◌++◌, reverse, refl, sym, ap, subst, ◌∙◌, arith, append_assoc}
use Rattle.std.specs.Prelude.{Option, Some, None, ◌⊎◌}
use Rattle.std.proofs.lemmas.Bool.{cases_lt}
use Rattle.std.proofs.lemmas.List.{reverse-append, reverse-reverse}
use Rattle.dw_journal.specs.declared.Event.{Event}
use Rattle.dw_journal.specs.declared.Event.TheVariants.{Begin, Pass, Wait, Opened, Answer, Commit, Violation, Refuse, Rollback, VacuumBegin, VacuumSlice, VacuumEnd, Refresh, End}
use Rattle.dw_journal.specs.declared.Journal.{Journal}
use Rattle.dw_journal.specs.declared.Shape.{Shape}
use Rattle.dw_journal.specs.declared.BlockState.{BlockState}
use Rattle.dw_journal.specs.declared.World.{World}
use Rattle.dw_journal.specs.Worlds.{session_count}
use Rattle.dw_journal.specs.History.{History, session_of, newest_event, has_ended, is_end, events_of}
use Rattle.dw_journal.specs.Blocks.{block_of}
use Rattle.dw_journal.specs.Transactions.{Transaction, transaction_of}
use Rattle.dw_journal.specs.Turns.{Turn, Nothing, turn_of, turn_after}
use Rattle.dw_journal.specs.Follows.{IsDue, FollowsAfter, due, refreshes}
use Rattle.dw_journal.specs.Legal.{IsLegalAfter}
use Rattle.dw_journal.specs.Driven.{Move, OfSession, OfCluster, RepeatsWait, Step, nothing, event, refresh, Steps, none, more, AreOfSessions, WithoutMemory, is_memory_refusal, round_of, rounds_of, IsDriven}
use Rattle.dw_journal.proofs.OneEvent.{due_session, IsLegalBut, legal_but}
use Rattle.dw_journal.proofs.OneStep.{due_one}

either_le_by : (a b : ℕ) → (a < b) ⊎ (b ≤ a) → (a ≤ b) ⊎ (b ≤ a)
either_le_by a b (inl lt) = inl (omega (arith, lt))
either_le_by a b (inr le) = inr le

either_le : (a b : ℕ) → (a ≤ b) ⊎ (b ≤ a)
either_le a b = either_le_by a b (cases_lt a b)

same_session : (a b : ℕ) → Some a ≡ Some b → a ≡ b
same_session a b e = cc

module _ (shape : Shape) (world : World) where
  -- what happened up to these events
  abbrev past : List Event → History
  past events = record { shape = shape; world = world; events = events }

  -- an event of a session that follows is due of it
  pub due_of : (older : List Event) (session : ℕ) {next : Event} → session_of next ≡ Some session → FollowsAfter (past older) next
      → IsDue session (block_of (past older) session) (transaction_of session older) (turn_of (past older) session) next
  due_of older session {next} is_of (due other within d) =
      subst (λ (s : ℕ). IsDue s (block_of (past older) s) (transaction_of s older) (turn_of (past older) s) next)
      (same_session other session (sym (due_session d) ∙ is_of)) d
  due_of older session is_of refreshes = cc

  none_due : {session : ℕ} {block : BlockState} {transaction : Option Transaction} {next : Event} → IsDue session block transaction Nothing next → ⊥
  none_due d = elim d [ ]

  nothing_due : (session : ℕ) (block : BlockState) (transaction : Option Transaction) (turn : Turn) (next : Event) → turn ≡ Nothing
      → IsDue session block transaction turn next → ⊥
  nothing_due session block transaction turn next is d =
      let e : IsDue session block transaction Nothing next = subst (λ (t : Turn). IsDue session block transaction t next) is d in
      none_due e

  -- once a session has ended, nothing is due of it
  ended_turn : (block : BlockState) (last : Option Event) (otherwise : Turn) → is_end last ≡ true → turn_after shape block last otherwise ≡ Nothing
  ended_turn block None otherwise ended = cc
  ended_turn block (Some (Begin session statement)) otherwise ended = cc
  ended_turn block (Some (Pass session statement word)) otherwise ended = cc
  ended_turn block (Some (Wait session statement holders)) otherwise ended = cc
  ended_turn block (Some (Opened session statement snapshot route)) otherwise ended = cc
  ended_turn block (Some (Answer session statement answer)) otherwise ended = cc
  ended_turn block (Some (Commit session statement stamp low high)) otherwise ended = cc
  ended_turn block (Some (Violation session statement low high object)) otherwise ended = cc
  ended_turn block (Some (Refuse session statement refusal)) otherwise ended = cc
  ended_turn block (Some (Rollback session statement)) otherwise ended = cc
  ended_turn block (Some (VacuumBegin session statement table)) otherwise ended = cc
  ended_turn block (Some (VacuumSlice session statement slice horizon)) otherwise ended = cc
  ended_turn block (Some (VacuumEnd session statement)) otherwise ended = cc
  ended_turn block (Some (Refresh cluster stamp)) otherwise ended = cc
  ended_turn block (Some (End session)) otherwise ended = refl

  pub ended_follows : (older : List Event) (session : ℕ) {next : Event} → has_ended session older ≡ true → session_of next ≡ Some session
      → FollowsAfter (past older) next → ⊥
  ended_follows older session {next} ended is_of follows =
      nothing_due session _ _ _ next (ended_turn _ (newest_event session older) _ ended) (due_of older session is_of follows)

  -- two events of a session are the same
  event_one : (older : List Event) (n : ℕ) {a b : Event} → session_of a ≡ Some (suc n) → session_of b ≡ Some (suc n)
      → FollowsAfter (past older) a → FollowsAfter (past older) b
      → IsLegalBut (past older) a → IsLegalBut (past older) b
      → is_memory_refusal a ≡ false → is_memory_refusal b ≡ false → a ≡ b
  event_one older n of_a of_b follows_a follows_b legal_a legal_b p q =
      due_one (past older) n (due_of older (suc n) of_a follows_a) (due_of older (suc n) of_b follows_b) refl refl legal_a legal_b p q

  not_repeated : (older : List Event) (session statement : ℕ) (holders : List ℕ) (next : Event) → newest_event session older ≡ Some (Wait session statement holders)
      → Wait session statement holders ≡ next → IsLegalAfter (past older) next → ⊥
  not_repeated older session statement holders next newest is legal =
      let waits : IsLegalAfter (past older) (Wait session statement holders) = subst (IsLegalAfter (past older)) (sym is) legal in
      waits.1 newest

  -- a session that does nothing has no event
  still : (older : List Event) (n : ℕ) (next : Event) → (has_ended (suc n) older ≡ true) ⊎ RepeatsWait (past older) (suc n)
      → session_of next ≡ Some (suc n) → FollowsAfter (past older) next → IsLegalAfter (past older) next
      → is_memory_refusal next ≡ false → ⊥
  still older n next (inl ended) is_of follows legal p = ended_follows older (suc n) ended is_of follows
  still older n next (inr repeats) is_of follows legal p =
      let same = event_one older n refl is_of repeats.follows follows repeats.waits (legal_but (past older) next legal) refl p in
      not_repeated older (suc n) repeats.statement repeats.holders next repeats.newest same legal

  -- a step of a session, and so of any move, leads to one list of events
  step_one : (older : List Event) (n : ℕ) {a b : List Event} → Step shape world (OfSession (suc n)) older a → Step shape world (OfSession (suc n)) older b
      → WithoutMemory a → WithoutMemory b → a ≡ b
  step_one older n (nothing x) (nothing y) p q = refl
  step_one older n (nothing x) (event next is_of comes) p q = absurd (still older n next x is_of comes.0 comes.1 q.0)
  step_one older n (event next is_of comes) (nothing y) p q = absurd (still older n next y is_of comes.0 comes.1 p.0)
  step_one older n (event a of_a comes_a) (event b of_b comes_b) p q =
      ap (λ (next : Event). next ∷ older) (event_one older n of_a of_b comes_a.0 comes_b.0 (legal_but (past older) a comes_a.1) (legal_but (past older) b comes_b.1) p.0 q.0)

  move_one : (move : Move) (older : List Event) {a b : List Event} → AreOfSessions (move ∷ []) → Step shape world move older a → Step shape world move older b
      → WithoutMemory a → WithoutMemory b → a ≡ b
  move_one (OfSession zero) older some first second p q = absurd (omega (arith, some.0))
  move_one (OfSession (suc n)) older some first second p q = step_one older n first second p q
  move_one (OfCluster cluster) older some (refresh s x) (refresh t y) p q =
      ap (λ (stamp : ℕ). Refresh cluster stamp ∷ older) (x.2 ∙ sym y.2)

  -- what is said of the events is said of the older ones
  older_memory : {move : Move} {older newer : List Event} → Step shape world move older newer → WithoutMemory newer → WithoutMemory older
  older_memory (nothing x) p = p
  older_memory (event next is_of comes) p = p.1
  older_memory (refresh stamp legal) p = p.1

  first_of_sessions : (move : Move) (moves : List Move) → AreOfSessions (move ∷ moves) → AreOfSessions (move ∷ []) × AreOfSessions moves
  first_of_sessions (OfSession session) moves some = ((some.0, tt), some.1)
  first_of_sessions (OfCluster cluster) moves some = (tt, some)

  -- so steps by the same moves lead to the same events
  steps_one : (moves : List Move) {a b : List Event} → AreOfSessions moves → Steps shape world moves a → Steps shape world moves b
      → WithoutMemory a → WithoutMemory b → a ≡ b
  steps_one [] some none none p q = refl
  steps_one (move ∷ moves) {a} {b} some (more first last) (more {older = other} second end) p q =
      let parts = first_of_sessions move moves some in
      let same = steps_one moves parts.1 first second (older_memory last p) (older_memory end q) in
      move_one move other parts.0 (subst (λ (events : List Event). Step shape world move events a) same last) end p q

  -- sessions up to n
  abbrev AreUpTo : ℕ → List Move → Type 0
  AreUpTo n [] = Unit {0}
  AreUpTo n (OfSession session ∷ moves) = (0 < session) × (session ≤ n) × AreUpTo n moves
  AreUpTo n (OfCluster cluster ∷ moves) = ⊥

  abbrev AllEnded : ℕ → List Event → Type 0
  AllEnded n events = (session : ℕ) → 0 < session → session ≤ n → has_ended session events ≡ true

  step_ended : (session : ℕ) (older newer : List Event) → has_ended session older ≡ true → Step shape world (OfSession session) older newer → newer ≡ older
  step_ended session older newer ended (nothing x) = refl
  step_ended session older newer ended (event next is_of comes) = absurd (ended_follows older session ended is_of comes.0)

  -- Steps of sessions after others: the events before them, and the same events where all sessions had ended.
  peel : (n : ℕ) (turns moves : List Move) (newest : List Event) → AreUpTo n turns → Steps shape world (turns ++ moves) newest → WithoutMemory newest
      → (events : List Event) × Steps shape world moves events × WithoutMemory events × (AllEnded n events → newest ≡ events)
  peel n [] moves newest up steps p = (newest, steps, p, λ ended. refl)
  peel n (OfSession session ∷ turns) moves newest up (more {older = older} first last) p =
      let before = peel n turns moves older up.2 first (older_memory last p) in (
        before.0,
        before.1,
        before.2,
        λ ended.
            let same = before.3 ended in
            step_ended session older newest (subst (λ (events : List Event). has_ended session events ≡ true) (sym same) (ended session up.0 up.1)) last ∙ same,
      )
  peel n (OfCluster cluster ∷ turns) moves newest up steps p = absurd up

  up_append : (n : ℕ) (first second : List Move) → AreUpTo n first → AreUpTo n second → AreUpTo n (first ++ second)
  up_append n [] second a b = b
  up_append n (OfSession session ∷ first) second a b = (a.0, a.1, up_append n first second a.2 b)
  up_append n (OfCluster cluster ∷ first) second a b = absurd a

  up_weaken : (n : ℕ) (moves : List Move) → AreUpTo n moves → AreUpTo (suc n) moves
  up_weaken n [] a = tt
  up_weaken n (OfSession session ∷ moves) a = (a.0, omega (arith, a.1), up_weaken n moves a.2)
  up_weaken n (OfCluster cluster ∷ moves) a = absurd a

  round_up : (n : ℕ) → AreUpTo n (round_of n)
  round_up zero = tt
  round_up (suc n) = (omega arith, omega arith, up_weaken n (round_of n) (round_up n))

  rounds_up : (n count : ℕ) → AreUpTo n (rounds_of n count)
  rounds_up n zero = tt
  rounds_up n (suc count) = up_append n (round_of n) (rounds_of n count) (round_up n) (rounds_up n count)

  of_sessions : (n : ℕ) (moves : List Move) → AreUpTo n moves → AreOfSessions moves
  of_sessions n [] a = tt
  of_sessions n (OfSession session ∷ moves) a = (a.0, of_sessions n moves a.2)
  of_sessions n (OfCluster cluster ∷ moves) a = absurd a

  of_append : (first second : List Move) → AreOfSessions first → AreOfSessions second → AreOfSessions (first ++ second)
  of_append [] second a b = b
  of_append (OfSession session ∷ first) second a b = (a.0, of_append first second a.1 b)
  of_append (OfCluster cluster ∷ first) second a b = of_append first second a b

  of_reverse : (moves : List Move) → AreOfSessions moves → AreOfSessions (reverse moves)
  of_reverse [] a = tt
  of_reverse (move ∷ moves) a =
      let parts = first_of_sessions move moves a in
      subst AreOfSessions (sym (reverse-append (move ∷ []) moves)) (of_append (reverse moves) (move ∷ []) (of_reverse moves parts.1) parts.0)

  rounds_append : (n more_rounds count : ℕ) → rounds_of n (more_rounds + count) ≡ rounds_of n more_rounds ++ rounds_of n count
  rounds_append n zero count = ap (rounds_of n) (omega arith)
  rounds_append n (suc d) count =
      let e : suc d + count ≡ suc (d + count) = omega arith in
      ap (rounds_of n) e ∙ ap (λ (rounds : List Move). round_of n ++ rounds) (rounds_append n d count) ∙ sym (append_assoc (round_of n) (rounds_of n d) (rounds_of n count))

  -- further rounds after the end change nothing
  driven_by : (n d count : ℕ) (moves : List Move) (a b : List Event) → AreOfSessions moves
      → Steps shape world (rounds_of n count ++ moves) a → Steps shape world (rounds_of n (d + count) ++ moves) b
      → AllEnded n a → WithoutMemory a → WithoutMemory b → a ≡ b
  driven_by n d count moves a b some first second ended p q =
      let longer : rounds_of n (d + count) ++ moves ≡ rounds_of n d ++ (rounds_of n count ++ moves) =
      ap (λ (rounds : List Move). rounds ++ moves) (rounds_append n d count) ∙ append_assoc (rounds_of n d) (rounds_of n count) moves in
      let steps = subst (λ (all : List Move). Steps shape world all b) longer second in
      let mid = peel n (rounds_of n d) (rounds_of n count ++ moves) b (rounds_up n d) steps q in
      let same = steps_one (rounds_of n count ++ moves) (of_append (rounds_of n count) moves (of_sessions n _ (rounds_up n count)) some) first mid.1 p mid.2 in
      same ∙ sym (mid.3 (subst (AllEnded n) same ended))

  driven_either : (n count other : ℕ) (moves : List Move) (a b : List Event) → AreOfSessions moves → (count ≤ other) ⊎ (other ≤ count)
      → Steps shape world (rounds_of n count ++ moves) a → Steps shape world (rounds_of n other ++ moves) b
      → AllEnded n a → AllEnded n b → WithoutMemory a → WithoutMemory b → a ≡ b
  driven_either n count other moves a b some (inl le) first second ended_a ended_b p q =
      let e : other ≡ (other - count) + count = omega (arith, le) in
      driven_by n (other - count) count moves a b some first (subst (λ (r : ℕ). Steps shape world (rounds_of n r ++ moves) b) e second) ended_a p q
  driven_either n count other moves a b some (inr le) first second ended_a ended_b p q =
      let e : count ≡ (count - other) + other = omega (arith, le) in
      sym (driven_by n (count - other) other moves b a some second (subst (λ (r : ℕ). Steps shape world (rounds_of n r ++ moves) a) e first) ended_b q p)

-- so two driven journals of one shape have the same events
pub one_journal : (world : World) (moves : List Move) (a b : Journal) → a.shape ≡ b.shape → AreOfSessions moves
    → IsDriven world moves a → IsDriven world moves b → WithoutMemory (events_of a) → WithoutMemory (events_of b) → a.events ≡ b.events
one_journal world moves a b same some first second p q =
    let count = session_count world in
    let steps = subst (λ (shape : Shape). Steps shape world (rounds_of count first.rounds ++ reverse moves) (events_of a)) same first.steps in
    let histories = driven_either b.shape world count first.rounds second.rounds (reverse moves) (events_of a) (events_of b) (of_reverse b.shape world moves some) (either_le first.rounds second.rounds)
    steps second.steps (λ session positive le. first.ends session (positive, le)) (λ session positive le. second.ends session (positive, le)) p q in
    sym (reverse-reverse a.events) ∙ ap reverse histories ∙ reverse-reverse b.events
