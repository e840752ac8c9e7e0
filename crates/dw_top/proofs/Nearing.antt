-- Steps of sessions bring a run nearer to its end: in a round in which each session only waits, somebody would be left who
-- waits for nobody.
use Rattle.std.proofs.Common.{inl, inr, ◌≡◌, ◌≢◌, ℕ, zero, suc, ◌+◌, ◌*◌, ◌-◌, ◌<◌, ◌≤◌, Bool, true, false, true≢false, List, [], ◌∷◌, ◌++◌, length, replicate, refl, sym, ap, subst, ◌∙◌, arith, add-one}
use Rattle.std.specs.Prelude.{Option, Some, None, ◌⊎◌, if◌then◌else◌, ◌==◌}
use Rattle.std.proofs.lemmas.Bool.{cases_lt, eq-eqb}
use Rattle.std.proofs.lemmas.Bool.Decides.{eqb_tells}
use Rattle.dw_journal.specs.declared.Event.{Event}
use Rattle.dw_journal.specs.declared.Event.TheVariants.{Wait}
use Rattle.dw_journal.specs.declared.BlockState.{BlockState}
use Rattle.dw_journal.specs.declared.World.{World}
use Rattle.dw_journal.specs.Worlds.{IsSession, session_count, script_of, given_at}
use Rattle.dw_journal.specs.Blocks.{block_of, block_after, block_by}
use Rattle.dw_journal.specs.History.{History, with_event, session_of, is_session, is_of, is_end, has_ended, newest_event, statements_after, statements_taken}
use Rattle.dw_journal.specs.Transactions.{Transaction, transaction_of}
use Rattle.dw_journal.specs.Turns.{Turn, number_due, taking, turn_after, turn_of}
use Rattle.dw_journal.specs.Follows.{FollowsAfter, IsDue, due, refreshes, answers, decides, rebuilds, has_rebuilt, takes, ends, sweeps}
use Rattle.dw_journal.specs.Legal.{IsNextEvent}
use Rattle.dw_journal.specs.Driven.{Move, OfSession, round_of}
use Rattle.dw_journal.specs.Progress.{weight, events_left, waits_or_sweeps}
use Rattle.dw_journal.proofs.OneEvent.{due_session}
use Rattle.dw_journal.proofs.ProgressLemmas.{weight_taking, nearer, stays}
use Rattle.dw_engine.specs.Steps.{IsStep, IsStuck, at_end, repeats, waited, moved}
use Rattle.dw_engine.proofs.Stuck.{stuck_still}
use Rattle.dw_top.specs.Rounds.{Leads, IsHeld, SomeoneIsLeft, total_left}
use Rattle.dw_top.proofs.Leading.{leads_none, leads_step, leads_then}

-- ---- what all sessions have before them
module _ (before after : History) (each : (t : ℕ) → events_left after (suc t) ≤ events_left before (suc t)) where
  pub total_most : (n : ℕ) → total_left after n ≤ total_left before n
  total_most zero = omega arith
  total_most (suc n) = omega (arith, total_most n, each n)

  total_by : (m n : ℕ) → (total_left after n ≤ total_left before n) → (m < n → total_left after n < total_left before n)
      → events_left after (suc m) < events_left before (suc m) → m < suc n → (m < n) ⊎ (n ≤ m) → total_left after (suc n) < total_left before (suc n)
  total_by m n most less here within (inl lt) = omega (arith, less lt, each n)
  total_by m n most less here within (inr ge) =
      let same : m ≡ n = omega (arith, within, ge) in
      let there : events_left after (suc n) < events_left before (suc n) = subst (λ (k : ℕ). events_left after (suc k) < events_left before (suc k)) same here in
      omega (arith, most, there)

  pub total_less : (m n : ℕ) → m < n → events_left after (suc m) < events_left before (suc m) → total_left after n < total_left before n
  total_less m zero within here = absurd (omega (arith, within))
  total_less m (suc n) within here = total_by m n (total_most n) (λ lt. total_less m n lt here) here within (cases_lt m n)

own_or_other : (own : Bool) (n session : ℕ) (next : Event) → session_of next ≡ Some session → (session == suc n) ≡ own → is_of (suc n) next ≡ own
own_or_other own n session next is_own same = ap (is_session (suc n)) is_own ∙ same

-- an event of one session, which has no more before it then
each_by : (history : History) (next : Event) (m n : ℕ) → session_of next ≡ Some (suc m) → events_left (with_event history next) (suc m) ≤ events_left history (suc m)
    → ((suc m == suc n) ≡ true) × (suc m ≡ suc n) ⊎ ((suc m == suc n) ≡ false) × (suc m ≢ suc n)
    → events_left (with_event history next) (suc n) ≤ events_left history (suc n)
each_by history next m n is_own le (inl same) = subst (λ (k : ℕ). events_left (with_event history next) k ≤ events_left history k) same.1 le
each_by history next m n is_own le (inr other) =
    let e = stays history n next (own_or_other false n (suc m) next is_own other.0) in omega (arith, e)

pub each_most : (history : History) (next : Event) (m : ℕ) → session_of next ≡ Some (suc m) → events_left (with_event history next) (suc m) ≤ events_left history (suc m)
    → (n : ℕ) → events_left (with_event history next) (suc n) ≤ events_left history (suc n)
each_most history next m is_own le n = each_by history next m n is_own le (eqb_tells (suc m) (suc n))

-- ---- a wait leaves all that its session has before it
wait_heavy : {session k : ℕ} {holders : List ℕ} {block : BlockState} {transaction : Option Transaction} {turn : Turn}
    → IsDue session block transaction turn (Wait session k holders) → 1 ≤ weight turn
wait_heavy (takes d) = omega arith
wait_heavy (answers d) = elim d [ ]
wait_heavy (decides d) = elim d [ ]

wait_due_heavy : (history : History) (m k : ℕ) (holders : List ℕ) → FollowsAfter history (Wait (suc m) k holders) → 1 ≤ weight (turn_of history (suc m))
wait_due_heavy history m k holders (due other within d) =
    let same : suc m ≡ other = inside (due_session d) in
    let here : IsDue (suc m) (block_of history (suc m)) (transaction_of (suc m) history.events) (turn_of history (suc m)) (Wait (suc m) k holders) =
    subst (λ (t : ℕ). IsDue t (block_of history t) (transaction_of t history.events) (turn_of history t) (Wait (suc m) k holders)) (sym same) d in
    wait_heavy here
  where
    inside : {a b : ℕ} → Some a ≡ Some b → a ≡ b
    inside e = cc

pub wait_left : (history : History) (m k : ℕ) (holders : List ℕ) → FollowsAfter history (Wait (suc m) k holders)
    → events_left (with_event history (Wait (suc m) k holders)) (suc m) ≤ events_left history (suc m)
wait_left history m k holders follows =
    let world = history.world in
    let t = statements_taken (suc m) history.events in
    let event = Wait (suc m) k holders in
    let f : Bool → ℕ = λ b.
    3 * (length (script_of world (suc m)) - (if b then statements_after event t else t))
    + weight (turn_after history.shape (if b then block_after world event (block_by world (suc m) history.events) else block_by world (suc m) history.events) (if b then Some event else newest_event (suc m) history.events)
    (taking ((if b then statements_after event t else t) + 1) (given_at world (suc m) ((if b then statements_after event t else t) + 1)))) in
    let own : is_of (suc m) event ≡ true = eq-eqb (suc m) (suc m) refl in
    let e : events_left (with_event history event) (suc m) ≡ f true = ap f own in
    let light : weight (taking (t + 1) (given_at world (suc m) (t + 1))) ≤ 1 = weight_taking _ _ in
    let heavy = wait_due_heavy history m k holders follows in
    subst (λ (n : ℕ). n ≤ events_left history (suc m)) (sym e) (omega (arith, light, heavy))

-- ---- who is held stays held while others wait
ended_other : (next : Event) (older : List Event) (t : ℕ) → is_of t next ≡ false → has_ended t (next ∷ older) ≡ has_ended t older
ended_other next older t other = ap (λ (b : Bool). is_end (if b then Some next else newest_event t older)) other

held_other : (history : History) (session k : ℕ) (holders : List ℕ) (t : ℕ) → is_of t (Wait session k holders) ≡ false → IsHeld history t
    → IsHeld (with_event history (Wait session k holders)) t
held_other history session k holders t other (inl ended) = inl (ended_other (Wait session k holders) history.events t other ∙ ended)
held_other history session k holders t other (inr stuck) = inr (stuck_still history session k holders t other stuck)

left_by : (history : History) (session k : ℕ) (holders : List ℕ) (t : ℕ) (own : Bool) → is_of t (Wait session k holders) ≡ own → has_ended t history.events ≡ false
    → has_ended t (Wait session k holders ∷ history.events) ≡ false
left_by history session k holders t true own left = ap (λ (b : Bool). is_end (if b then Some (Wait session k holders) else newest_event t history.events)) own
left_by history session k holders t false own left = ended_other (Wait session k holders) history.events t own ∙ left

-- ---- moves that lead from one history to another
pub leads_more : (count : ℕ) {session : ℕ} {a b c : History} → Leads (replicate count (OfSession session)) a b → IsStep session b c
    → Leads (replicate (count + 1) (OfSession session)) a c
leads_more count {session} {a} {b} {c} x step =
    subst (λ (n : ℕ). Leads (replicate n (OfSession session)) a c) (sym (add-one count)) (leads_then x (leads_step step))

-- ---- a round, session by session: those so far have moved on, or all of them are held
abbrev pub Comes : ℕ → ℕ → History → History → Type 0
Comes sessions count before after =
    (total_left after count < total_left before count)
    ⊎ ((total_left after count ≤ total_left before count) × ((t : ℕ) → t < sessions → IsHeld after (suc t))
    × ((t : ℕ) → has_ended t before.events ≡ false → has_ended t after.events ≡ false))

pub record InRound (sessions count : ℕ) (before after : History) : Type 0 where
  pub leads : Leads (round_of sessions) before after
  pub comes : Comes sessions count before after

pub round_none : (count : ℕ) (history : History) → InRound 0 count history history
round_none count history = record {
  leads = leads_none history;
  comes = inr (omega arith, (λ t lt. absurd (omega (arith, lt))), (λ t left. left));
}

held_so_far : (sessions : ℕ) (after : History) → ((t : ℕ) → t < sessions → IsHeld after (suc t)) → IsHeld after (suc sessions) → (t : ℕ) → t < suc sessions
    → (t < sessions) ⊎ (sessions ≤ t) → IsHeld after (suc t)
held_so_far sessions after held here t within (inl lt) = held t lt
held_so_far sessions after held here t within (inr ge) =
    let same : sessions ≡ t = omega (arith, within, ge) in subst (λ (n : ℕ). IsHeld after (suc n)) same here

not_own : (sessions k t : ℕ) (holders : List ℕ) → t < sessions → is_of (suc t) (Wait (suc sessions) k holders) ≡ false
not_own sessions k t holders lt = apart (eqb_tells (suc sessions) (suc t)) where
  apart : ((suc sessions == suc t) ≡ true) × (suc sessions ≡ suc t) ⊎ ((suc sessions == suc t) ≡ false) × (suc sessions ≢ suc t) → (suc sessions == suc t) ≡ false
  apart (inl same) = absurd (omega (arith, same.1, lt))
  apart (inr other) = other.0

step_comes : (sessions count : ℕ) (a b c : History) → sessions < count → Comes sessions count a b → IsStep (suc sessions) b c → Comes (suc sessions) count a c
step_comes sessions count a b c within (inl less) (at_end ended) = inl less
step_comes sessions count a b c within (inr same) (at_end ended) =
    inr (same.0, (λ t lt. held_so_far sessions b same.1 (inl ended) t lt (cases_lt t sessions)), same.2)
step_comes sessions count a b c within (inl less) (repeats again stuck) = inl less
step_comes sessions count a b c within (inr same) (repeats again stuck) =
    inr (same.0, (λ t lt. held_so_far sessions b same.1 (inr stuck) t lt (cases_lt t sessions)), same.2)
step_comes sessions count a b c within (inl less) (waited holders next stuck) =
    let event = Wait (suc sessions) (number_due b (suc sessions)) holders in
    let most = total_most b (with_event b event) (each_most b event sessions refl (wait_left b sessions (number_due b (suc sessions)) holders next.0)) count in
    inl (omega (arith, less, most))
step_comes sessions count a b c within (inr same) (waited holders next stuck) =
    let k = number_due b (suc sessions) in
    let event = Wait (suc sessions) k holders in
    let most = total_most b (with_event b event) (each_most b event sessions refl (wait_left b sessions k holders next.0)) count in
    inr (
      omega (arith, same.0, most),
      (λ t lt. held_so_far sessions (with_event b event) (λ u less. held_other b (suc sessions) k holders (suc u) (not_own sessions k u holders less) (same.1 u less)) (inr stuck) t lt (cases_lt t sessions)),
      (λ t left. left_by b (suc sessions) k holders t (is_of t event) refl (same.2 t left)),
    )
step_comes sessions count a b c within (inl less) (moved event is_own plain next) =
    let lighter = nearer b sessions is_own plain next.0 in
    let now = total_less b (with_event b event) (each_most b event sessions is_own (omega (arith, lighter))) sessions count within lighter in
    inl (omega (arith, less, now))
step_comes sessions count a b c within (inr same) (moved event is_own plain next) =
    let lighter = nearer b sessions is_own plain next.0 in
    let now = total_less b (with_event b event) (each_most b event sessions is_own (omega (arith, lighter))) sessions count within lighter in
    inl (omega (arith, same.0, now))

pub round_more : (sessions count : ℕ) {a b c : History} → sessions < count → InRound sessions count a b → IsStep (suc sessions) b c → InRound (suc sessions) count a c
round_more sessions count {a} {b} {c} within x step = record { leads = leads_then x.leads (leads_step step); comes = step_comes sessions count a b c within x.comes step }
