-- Each event of a session brings it nearer to its end, and leaves the other sessions where they are.
use Rattle.std.proofs.Common.{◌≡◌, ℕ, zero, suc, ◌+◌, ◌-◌, ◌*◌, ◌<◌, ◌≤◌, Bool, true, false, List, [], ◌∷◌, length, refl, sym, ap, subst, ◌∙◌, arith, add-one}
use Rattle.std.specs.Prelude.{Option, Some, None, slice_get, if◌then◌else◌, ◌==◌}
use Rattle.std.proofs.lemmas.Bool.{eq-eqb}
use Rattle.dw_model.specs.declared.answers.Word.TheVariants as words
use Rattle.dw_journal.specs.declared.BlockState.{BlockState}
use Rattle.dw_journal.specs.declared.BlockState.TheVariants.{Outside, Within, Aborted}
use Rattle.dw_journal.specs.declared.Event.{Event}
use Rattle.dw_journal.specs.declared.Event.TheVariants.{Begin, Pass, Wait, Opened, Answer, Commit, Violation, Refuse, Rollback, VacuumBegin, VacuumSlice, VacuumEnd, Refresh, End}
use Rattle.dw_journal.specs.declared.Given.{Given}
use Rattle.dw_journal.specs.declared.Shape.{Shape}
use Rattle.dw_journal.specs.declared.World.{World}
use Rattle.dw_journal.specs.Worlds.{script_of, given_at}
use Rattle.dw_journal.specs.History.{History, session_of, is_of, newest_event, statements_taken, statements_after, with_event}
use Rattle.dw_journal.specs.Blocks.{block_of, block_by, block_after}
use Rattle.dw_journal.specs.Transactions.{Transaction, transaction_of}
use Rattle.dw_journal.specs.Turns.{Call, Turn, Nothing, AnswerOf, CommitOf, SliceOf, SweepEndOf, Taking, AtEnd, Idle, turn_of, turn_after, next_turn, taking, answered_turn}
use Rattle.dw_journal.specs.Follows.{IsAnswer, is_answer, is_answer_refused, IsDecision, is_commit, is_violation, is_commit_refused, IsOpening, is_wait, is_opening_refused, is_opened, IsSweepOpening, is_sweep_wait, is_sweep_refused, is_sweep_begin, IsTaken, foreign, begin_outside, begin_within, begin_aborted, commit_outside, commit_of_nothing, commit_within, commit_aborted, rollback_outside, rollback_within, rollback_aborted, vacuum_outside, vacuum_within, vacuum_aborted, work_outside, work_within, work_aborted, IsDue, answers, decides, rebuilds, has_rebuilt, takes, ends, sweeps, FollowsAfter, due, refreshes}
use Rattle.dw_journal.proofs.OneEvent.{due_session, turn_given}
use Rattle.dw_journal.specs.Progress.{weight, events_left, waits_or_sweeps}

-- a session is itself
pub same : (n : ℕ) → (n == n) ≡ true
same n = eq-eqb n n refl

-- the newest event of a session says how many statements it has taken
last_by : (session : ℕ) (event found : Event) (older : List Event) (b : Bool) → is_of session event ≡ b
    → (if b then Some event else newest_event session older) ≡ Some found
    → (newest_event session older ≡ Some found → (before : ℕ) × (statements_taken session older ≡ statements_after found before))
    → (before : ℕ) × ((if b then statements_after event (statements_taken session older) else statements_taken session older) ≡ statements_after found before)
last_by session event found older true is last rest =
    let e : event ≡ found = cc last in
    (statements_taken session older, ap (λ (x : Event). statements_after x (statements_taken session older)) e)
last_by session event found older false is last rest = rest last

pub last_taken : (session : ℕ) (events : List Event) (found : Event) → newest_event session events ≡ Some found
    → (before : ℕ) × (statements_taken session events ≡ statements_after found before)
last_taken session [] found last = cc
last_taken session (event ∷ older) found last =
    last_by session event found older (is_of session event) refl last (last_taken session older found)

-- where the answer or the commit of a statement is due, the session has taken it last
sweeping_no_answer : (k slice j : ℕ) (b : Bool) → (if b then SliceOf k slice else SweepEndOf k) ≡ AnswerOf j → ⊥
sweeping_no_answer k slice j true is = cc
sweeping_no_answer k slice j false is = cc

sweeping_no_commit : (k slice j : ℕ) (b : Bool) → (if b then SliceOf k slice else SweepEndOf k) ≡ CommitOf j → ⊥
sweeping_no_commit k slice j true is = cc
sweeping_no_commit k slice j false is = cc

taking_no_answer : (k j : ℕ) (given : Option Given) → taking k given ≡ AnswerOf j → ⊥
taking_no_answer k j None is = cc
taking_no_answer k j (Some given) is = cc

taking_no_commit : (k j : ℕ) (given : Option Given) → taking k given ≡ CommitOf j → ⊥
taking_no_commit k j None is = cc
taking_no_commit k j (Some given) is = cc

answer_last : (shape : Shape) (block : BlockState) (last : Option Event) (k j : ℕ) (given : Option Given)
    → turn_after shape block last (taking k given) ≡ AnswerOf j → (e : Event) × (last ≡ Some e) × ((before : ℕ) → statements_after e before ≡ j)
answer_last shape block None k j given is = absurd (taking_no_answer k j given is)
answer_last shape block (Some (Begin session statement)) k j given is = absurd (taking_no_answer k j given is)
answer_last shape block (Some (Pass session statement word)) k j given is = absurd (taking_no_answer k j given is)
answer_last shape block (Some (Wait session statement holders)) k j given is = absurd (taking_no_answer k j given is)
answer_last shape block (Some (Opened session statement snapshot route)) k j given is = (Opened session statement snapshot route, refl, λ before. cc)
answer_last shape Outside (Some (Answer session statement answer)) k j given is = cc
answer_last shape Within (Some (Answer session statement answer)) k j given is = absurd (taking_no_answer k j given is)
answer_last shape Aborted (Some (Answer session statement answer)) k j given is = absurd (taking_no_answer k j given is)
answer_last shape block (Some (Commit session statement stamp low high)) k j given is = absurd (taking_no_answer k j given is)
answer_last shape block (Some (Violation session statement low high object)) k j given is = absurd (taking_no_answer k j given is)
answer_last shape block (Some (Refuse session statement refusal)) k j given is = absurd (taking_no_answer k j given is)
answer_last shape block (Some (Rollback session statement)) k j given is = absurd (taking_no_answer k j given is)
answer_last shape block (Some (VacuumBegin session statement table)) k j given is = absurd (sweeping_no_answer statement 0 j _ is)
answer_last shape block (Some (VacuumSlice session statement slice horizon)) k j given is = absurd (sweeping_no_answer statement (slice + 1) j _ is)
answer_last shape block (Some (VacuumEnd session statement)) k j given is = absurd (taking_no_answer k j given is)
answer_last shape block (Some (Refresh cluster stamp)) k j given is = absurd (taking_no_answer k j given is)
answer_last shape block (Some (End session)) k j given is = cc

commit_last : (shape : Shape) (block : BlockState) (last : Option Event) (k j : ℕ) (given : Option Given)
    → turn_after shape block last (taking k given) ≡ CommitOf j → (e : Event) × (last ≡ Some e) × ((before : ℕ) → statements_after e before ≡ j)
commit_last shape block None k j given is = absurd (taking_no_commit k j given is)
commit_last shape block (Some (Begin session statement)) k j given is = absurd (taking_no_commit k j given is)
commit_last shape block (Some (Pass session statement word)) k j given is = absurd (taking_no_commit k j given is)
commit_last shape block (Some (Wait session statement holders)) k j given is = absurd (taking_no_commit k j given is)
commit_last shape block (Some (Opened session statement snapshot route)) k j given is = cc
commit_last shape Outside (Some (Answer session statement answer)) k j given is = (Answer session statement answer, refl, λ before. cc)
commit_last shape Within (Some (Answer session statement answer)) k j given is = absurd (taking_no_commit k j given is)
commit_last shape Aborted (Some (Answer session statement answer)) k j given is = absurd (taking_no_commit k j given is)
commit_last shape block (Some (Commit session statement stamp low high)) k j given is = absurd (taking_no_commit k j given is)
commit_last shape block (Some (Violation session statement low high object)) k j given is = absurd (taking_no_commit k j given is)
commit_last shape block (Some (Refuse session statement refusal)) k j given is = absurd (taking_no_commit k j given is)
commit_last shape block (Some (Rollback session statement)) k j given is = absurd (taking_no_commit k j given is)
commit_last shape block (Some (VacuumBegin session statement table)) k j given is = absurd (sweeping_no_commit statement 0 j _ is)
commit_last shape block (Some (VacuumSlice session statement slice horizon)) k j given is = absurd (sweeping_no_commit statement (slice + 1) j _ is)
commit_last shape block (Some (VacuumEnd session statement)) k j given is = absurd (taking_no_commit k j given is)
commit_last shape block (Some (Refresh cluster stamp)) k j given is = absurd (taking_no_commit k j given is)
commit_last shape block (Some (End session)) k j given is = cc

weight_most : (turn : Turn) → weight turn ≤ 3
weight_most Nothing = omega arith
weight_most (AnswerOf k) = omega arith
weight_most (CommitOf k) = omega arith
weight_most (SliceOf k slice) = omega arith
weight_most (SweepEndOf k) = omega arith
weight_most (Taking k call) = omega arith
weight_most AtEnd = omega arith
weight_most Idle = omega arith

pub weight_taking : (k : ℕ) (given : Option Given) → weight (taking k given) ≤ 1
weight_taking k None = omega arith
weight_taking k (Some given) = omega arith

weight_answered : (block : BlockState) (k : ℕ) (next : Turn) → weight next ≤ 1 → weight (answered_turn block k next) ≤ 2
weight_answered Outside k next le = omega arith
weight_answered Within k next le = omega (arith, le)
weight_answered Aborted k next le = omega (arith, le)

-- a list that has an item at a place is longer than that
pub get_within : (given : List Given) (place : ℕ) (found : Given) → slice_get given place ≡ Some found → place < length given
get_within [] place found is = cc
get_within (x ∷ xs) zero found is = omega arith
get_within (x ∷ xs) (suc place) found is = omega (arith, get_within xs place found is)

module _ (shape : Shape) (world : World) (older : List Event) (n : ℕ) where
  abbrev s : ℕ
  s = suc n

  abbrev size : ℕ
  size = length (script_of world s)

  abbrev past : List Event → History
  past events = record { shape = shape; world = world; events = events }

  -- what the session has before it, and its turn
  abbrev left : List Event → ℕ
  left events = events_left (past events) s

  abbrev turn_at : List Event → Turn
  turn_at events = turn_of (past events) s

  taken_new : (event : Event) → is_of s event ≡ true → statements_taken s (event ∷ older) ≡ statements_after event (statements_taken s older)
  taken_new event own = ap (λ (b : Bool). if b then statements_after event (statements_taken s older) else statements_taken s older) own

  turn_new : (event : Event) → is_of s event ≡ true → turn_at (event ∷ older)
      ≡ turn_after shape (block_of (past (event ∷ older)) s) (Some event) (next_turn (past (event ∷ older)) s)
  turn_new event own =
      ap (λ (b : Bool). turn_after shape (block_of (past (event ∷ older)) s) (if b then Some event else newest_event s older) (next_turn (past (event ∷ older)) s)) own

  next_weight : (event : Event) → weight (next_turn (past (event ∷ older)) s) ≤ 1
  next_weight event = weight_taking _ _

  -- an event of the statement k, once fewer statements are left or the turn is lighter
  lighter : (event : Event) (k w : ℕ) → is_of s event ≡ true → statements_after event (statements_taken s older) ≡ k
      → weight (turn_after shape (block_of (past (event ∷ older)) s) (Some event) (next_turn (past (event ∷ older)) s)) ≤ w
      → 3 * (size - k) + w < left older → left (event ∷ older) < left older
  lighter event k w own is le lt =
      let t : statements_taken s (event ∷ older) ≡ k = taken_new event own ∙ is in
      let u : weight (turn_at (event ∷ older)) ≤ w = subst (λ (x : Turn). weight x ≤ w) (sym (turn_new event own)) le in
      let v : left (event ∷ older) ≡ 3 * (size - k) + weight (turn_at (event ∷ older)) =
      ap (λ (m : ℕ). 3 * (size - m) + weight (turn_at (event ∷ older))) t in
      subst (λ (m : ℕ). m < left older) (sym v) (omega (arith, u, lt))

  module _ (k : ℕ) (turn_is : turn_at older ≡ AnswerOf k) where
    answer_taken : statements_taken s older ≡ k
    answer_taken =
        let found = answer_last shape (block_of (past older) s) (newest_event s older) (statements_taken s older + 1) k (given_at world s (statements_taken s older + 1)) turn_is in
        let last = last_taken s older found.0 found.1 in
        last.1 ∙ found.2 last.0

    answer_left : left older ≡ 3 * (size - k) + 3
    answer_left = ap (λ (m : ℕ). 3 * (size - m) + weight (turn_at older)) answer_taken ∙ ap (λ (t : Turn). 3 * (size - k) + weight t) turn_is

    pub answers_nearer : {event : Event} → IsAnswer s k event → left (event ∷ older) < left older
    answers_nearer (is_answer answer) =
        lighter (Answer s k answer) k 2 (same s) refl (weight_answered _ k _ (next_weight (Answer s k answer)))
        (subst (λ (m : ℕ). 3 * (size - k) + 2 < m) (sym answer_left) (omega arith))
    answers_nearer (is_answer_refused refusal) =
        lighter (Refuse s k refusal) k 1 (same s) refl (next_weight (Refuse s k refusal))
        (subst (λ (m : ℕ). 3 * (size - k) + 1 < m) (sym answer_left) (omega arith))

  module _ (k : ℕ) (turn_is : turn_at older ≡ CommitOf k) where
    commit_taken : statements_taken s older ≡ k
    commit_taken =
        let found = commit_last shape (block_of (past older) s) (newest_event s older) (statements_taken s older + 1) k (given_at world s (statements_taken s older + 1)) turn_is in
        let last = last_taken s older found.0 found.1 in
        last.1 ∙ found.2 last.0

    commit_left : left older ≡ 3 * (size - k) + 2
    commit_left = ap (λ (m : ℕ). 3 * (size - m) + weight (turn_at older)) commit_taken ∙ ap (λ (t : Turn). 3 * (size - k) + weight t) turn_is

    enough : 3 * (size - k) + 1 < left older
    enough = subst (λ (m : ℕ). 3 * (size - k) + 1 < m) (sym commit_left) (omega arith)

    pub decides_nearer : {event : Event} → IsDecision s k event → left (event ∷ older) < left older
    decides_nearer (is_commit stamp low high) =
        lighter (Commit s k stamp low high) k 1 (same s) refl (next_weight (Commit s k stamp low high)) enough
    decides_nearer (is_violation low high object) =
        lighter (Violation s k low high object) k 1 (same s) refl (next_weight (Violation s k low high object)) enough
    decides_nearer (is_commit_refused refusal) =
        lighter (Refuse s k refusal) k 1 (same s) refl (next_weight (Refuse s k refusal)) enough

  module _ (k : ℕ) (call : Call) (turn_is : turn_at older ≡ Taking k call) where
    -- fewer statements are left
    takes_nearer : (event : Event) → is_of s event ≡ true → statements_after event (statements_taken s older) ≡ k
        → left (event ∷ older) < left older
    takes_nearer event own is =
        let found = turn_given shape (block_of (past older) s) (newest_event s older) (statements_taken s older + 1) k (given_at world s (statements_taken s older + 1)) call turn_is in
        let place : given_at world s (suc (statements_taken s older)) ≡ Some found.0 = ap (given_at world s) (sym (add-one (statements_taken s older))) ∙ found.2 in
        let within : statements_taken s older < size = get_within (script_of world s) (statements_taken s older) found.0 place in
        let e : left older ≡ 3 * (size - statements_taken s older) + 1 = ap (λ (t : Turn). 3 * (size - statements_taken s older) + weight t) turn_is in
        let lt : 3 * (size - k) + 3 < 3 * (size - statements_taken s older) + 1 = omega (arith, within, found.1) in
        lighter event k 3 own is (weight_most _) (subst (λ (m : ℕ). 3 * (size - k) + 3 < m) (sym e) lt)

    decision_nearer : {event : Event} → IsDecision s k event → left (event ∷ older) < left older
    decision_nearer (is_commit stamp low high) = takes_nearer (Commit s k stamp low high) (same s) refl
    decision_nearer (is_violation low high object) = takes_nearer (Violation s k low high object) (same s) refl
    decision_nearer (is_commit_refused refusal) = takes_nearer (Refuse s k refusal) (same s) refl

    opening_nearer : {event : Event} → IsOpening s k event → waits_or_sweeps event ≡ false → left (event ∷ older) < left older
    opening_nearer (is_wait holders) plain = cc
    opening_nearer (is_opening_refused refusal) plain = takes_nearer (Refuse s k refusal) (same s) refl
    opening_nearer (is_opened snapshot route) plain = takes_nearer (Opened s k snapshot route) (same s) refl

    sweep_nearer : {table : List ℕ} {event : Event} → IsSweepOpening s k table event → waits_or_sweeps event ≡ false → left (event ∷ older) < left older
    sweep_nearer (is_sweep_wait holders) plain = cc
    sweep_nearer (is_sweep_refused refusal) plain = takes_nearer (Refuse s k refusal) (same s) refl
    sweep_nearer is_sweep_begin plain = cc

  taken_nearer : {k : ℕ} {call : Call} {block : BlockState} {transaction : Option Transaction} {event : Event} → IsTaken s k call block transaction event
      → turn_at older ≡ Taking k call → waits_or_sweeps event ≡ false
      → left (event ∷ older) < left older
  taken_nearer {k} {call} (foreign {refusal = refusal}) turn plain = takes_nearer k call turn (Refuse s k refusal) (same s) refl
  taken_nearer {k} {call} begin_outside turn plain = takes_nearer k call turn (Begin s k) (same s) refl
  taken_nearer {k} {call} begin_within turn plain = takes_nearer k call turn (Pass s k words.Begin) (same s) refl
  taken_nearer {k} {call} (begin_aborted {refusal = refusal}) turn plain = takes_nearer k call turn (Refuse s k refusal) (same s) refl
  taken_nearer {k} {call} commit_outside turn plain = takes_nearer k call turn (Pass s k words.Commit) (same s) refl
  taken_nearer {k} {call} commit_of_nothing turn plain = takes_nearer k call turn (Pass s k words.Commit) (same s) refl
  taken_nearer {k} {call} (commit_within d) turn plain = decision_nearer k call turn d
  taken_nearer {k} {call} commit_aborted turn plain = takes_nearer k call turn (Rollback s k) (same s) refl
  taken_nearer {k} {call} rollback_outside turn plain = takes_nearer k call turn (Pass s k words.Rollback) (same s) refl
  taken_nearer {k} {call} rollback_within turn plain = takes_nearer k call turn (Rollback s k) (same s) refl
  taken_nearer {k} {call} rollback_aborted turn plain = takes_nearer k call turn (Rollback s k) (same s) refl
  taken_nearer {k} {call} (vacuum_outside d) turn plain = sweep_nearer k call turn d plain
  taken_nearer {k} {call} (vacuum_within {refusal = refusal}) turn plain = takes_nearer k call turn (Refuse s k refusal) (same s) refl
  taken_nearer {k} {call} (vacuum_aborted {refusal = refusal}) turn plain = takes_nearer k call turn (Refuse s k refusal) (same s) refl
  taken_nearer {k} {call} (work_outside d) turn plain = opening_nearer k call turn d plain
  taken_nearer {k} {call} (work_within d) turn plain = opening_nearer k call turn d plain
  taken_nearer {k} {call} (work_aborted {refusal = refusal}) turn plain = takes_nearer k call turn (Refuse s k refusal) (same s) refl

  ends_nearer : turn_at older ≡ AtEnd → left (End s ∷ older) < left older
  ends_nearer turn_is =
      let e : left older ≡ 3 * (size - statements_taken s older) + 1 = ap (λ (t : Turn). 3 * (size - statements_taken s older) + weight t) turn_is in
      lighter (End s) (statements_taken s older) 0 (same s) refl (omega arith) (subst (λ (m : ℕ). 3 * (size - statements_taken s older) + 0 < m) (sym e) (omega arith))

  due_nearer : {turn : Turn} {event : Event} {block : BlockState} {transaction : Option Transaction} → IsDue s block transaction turn event → turn_at older ≡ turn
      → waits_or_sweeps event ≡ false → left (event ∷ older) < left older
  due_nearer (answers {k} d) turn plain = answers_nearer k turn d
  due_nearer (decides {k} d) turn plain = decides_nearer k turn d
  due_nearer rebuilds turn plain = cc
  due_nearer has_rebuilt turn plain = cc
  due_nearer (takes d) turn plain = taken_nearer d turn plain
  due_nearer ends turn plain = ends_nearer turn
  due_nearer sweeps turn plain = cc

pub same_session : (a b : ℕ) → Some a ≡ Some b → a ≡ b
same_session a b e = cc

-- an event of a session that comes next brings it nearer to its end
pub nearer : (older : History) (n : ℕ) {event : Event} → session_of event ≡ Some (suc n) → waits_or_sweeps event ≡ false
    → FollowsAfter older event → events_left (with_event older event) (suc n) < events_left older (suc n)
nearer older n {event} is_own plain (due other within d) =
    let e : other ≡ suc n = same_session other (suc n) (sym (due_session d) ∙ is_own) in
    let here : IsDue (suc n) (block_of older (suc n)) (transaction_of (suc n) older.events) (turn_of older (suc n)) event =
    subst (λ (t : ℕ). IsDue t (block_of older t) (transaction_of t older.events) (turn_of older t) event) e d in
    due_nearer older.shape older.world older.events n here refl plain
nearer older n is_own plain refreshes = cc

-- and the other sessions stay where they are
pub stays : (older : History) (n : ℕ) (event : Event) → is_of (suc n) event ≡ false
    → events_left (with_event older event) (suc n) ≡ events_left older (suc n)
stays older n event other =
    let world = older.world in
    let t = statements_taken (suc n) older.events in
    let t_after = statements_after event t in
    let f : Bool → ℕ = λ b.
    3 * (length (script_of world (suc n)) - (if b then t_after else t))
    + weight (turn_after older.shape (if b then block_after world event (block_by world (suc n) older.events) else block_by world (suc n) older.events) (if b then Some event else newest_event (suc n) older.events)
    (taking ((if b then t_after else t) + 1) (given_at world (suc n) ((if b then t_after else t) + 1)))) in
    ap f other
