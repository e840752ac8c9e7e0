-- Steps lead from one history to another.
use Rattle.std.proofs.Common.{inl, inr, ◌≡◌, ℕ, true, List, [], ◌∷◌, ◌++◌, reverse, refl, sym, ap, subst, ◌∙◌, append_assoc}
use Rattle.std.proofs.lemmas.List.{append-nil}
use Rattle.dw_journal.specs.declared.Event.{Event}
use Rattle.dw_journal.specs.declared.Event.TheVariants.{Wait}
use Rattle.dw_journal.specs.declared.Journal.{Journal}
use Rattle.dw_journal.specs.declared.Shape.{Shape}
use Rattle.dw_journal.specs.declared.World.{World}
use Rattle.dw_journal.specs.Worlds.{IsSession, session_count}
use Rattle.dw_journal.specs.History.{History, events_of, has_ended}
use Rattle.dw_journal.specs.Turns.{number_due}
use Rattle.dw_journal.specs.Driven.{Move, OfSession, rounds_of, Steps, none, more, nothing, event as step_event, IsDriven}
use Rattle.dw_engine.specs.Steps.{IsStep, at_end, repeats, waited, moved}
use Rattle.dw_top.specs.Rounds.{Leads}

-- no move leads anywhere
pub leads_none : (history : History) → Leads [] history history
leads_none history = record { shape = refl; world = refl; steps = λ earlier h. h }

-- a step leads by its session's move
pub leads_step : {session : ℕ} {before after : History} → IsStep session before after → Leads (OfSession session ∷ []) before after
leads_step (at_end ended) = record { shape = refl; world = refl; steps = λ earlier h. more h (nothing (inl ended)) }
leads_step (repeats again stuck) = record { shape = refl; world = refl; steps = λ earlier h. more h (nothing (inr again)) }
leads_step {session} {before} (waited holders comes stuck) =
    record { shape = refl; world = refl; steps = λ earlier h. more h (step_event (Wait session (number_due before session) holders) refl comes) }
leads_step (moved next is_own plain comes) = record { shape = refl; world = refl; steps = λ earlier h. more h (step_event next is_own comes) }

-- one lot of moves after another
pub leads_then : {first later : List Move} {a b c : History} → Leads first a b → Leads later b c → Leads (later ++ first) a c
leads_then {first} {later} {a} {b} {c} x y = record {
  shape = y.shape ∙ x.shape;
  world = y.world ∙ x.world;
  steps = λ earlier h.
      let mid : Steps b.shape b.world (first ++ earlier) b.events =
      subst (λ (s : Shape). Steps s b.world (first ++ earlier) b.events) (sym x.shape)
      (subst (λ (w : World). Steps a.shape w (first ++ earlier) b.events) (sym x.world) (x.steps earlier h)) in
      let far : Steps b.shape b.world (later ++ (first ++ earlier)) c.events = y.steps (first ++ earlier) mid in
      let back : Steps a.shape a.world (later ++ (first ++ earlier)) c.events =
      subst (λ (s : Shape). Steps s a.world (later ++ (first ++ earlier)) c.events) x.shape
      (subst (λ (w : World). Steps b.shape w (later ++ (first ++ earlier)) c.events) x.world far) in
      subst (λ (moves : List Move). Steps a.shape a.world moves c.events) (sym (append_assoc later first earlier)) back;
}

-- moves and then rounds to the end make a journal that the moves drive
pub run_driven : (shape : Shape) (world : World) (moves : List Move) (sessions rounds : ℕ) (start mid last : History) (journal : Journal)
    → start ≡ record { shape = shape; world = world; events = [] }
    → Leads (reverse moves) start mid → Leads (rounds_of sessions rounds) mid last → sessions ≡ session_count world
    → ((session : ℕ) → IsSession mid.world session → has_ended session last.events ≡ true)
    → journal.shape ≡ last.shape → events_of journal ≡ last.events
    → IsDriven world moves journal
run_driven shape world moves sessions rounds start mid last journal is first later count ends shape_is events_are =
    let whole : Leads (rounds_of sessions rounds ++ reverse moves) start last = leads_then first later in
    let from_start : Leads (rounds_of sessions rounds ++ reverse moves) (record { shape = shape; world = world; events = [] }) last =
    subst (λ (h : History). Leads (rounds_of sessions rounds ++ reverse moves) h last) is whole in
    let same_world : mid.world ≡ world = first.world ∙ ap (λ (h : History). h.world) is in
    let steps : Steps shape world ((rounds_of sessions rounds ++ reverse moves) ++ []) last.events = from_start.steps [] none in
    let tidy : Steps shape world (rounds_of sessions rounds ++ reverse moves) last.events =
    subst (λ (m : List Move). Steps shape world m last.events) (append-nil (rounds_of sessions rounds ++ reverse moves)) steps in
    let counted : Steps shape world (rounds_of (session_count world) rounds ++ reverse moves) last.events =
    subst (λ (n : ℕ). Steps shape world (rounds_of n rounds ++ reverse moves) last.events) count tidy in
    let shaped : Steps journal.shape world (rounds_of (session_count world) rounds ++ reverse moves) last.events =
    subst (λ (s : Shape). Steps s world (rounds_of (session_count world) rounds ++ reverse moves) last.events) (sym (shape_is ∙ from_start.shape)) counted in
    record {
      rounds = rounds;
      steps = subst (λ (e : List Event). Steps journal.shape world (rounds_of (session_count world) rounds ++ reverse moves) e) (sym events_are) shaped;
      ends = λ session within.
          let there : IsSession mid.world session = subst (λ (w : World). IsSession w session) (sym same_world) within in
          ap (has_ended session) events_are ∙ ends session there;
    }
