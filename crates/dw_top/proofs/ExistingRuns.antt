-- Moves and rounds of sessions exist, and so does the journal that a schedule drives.
use Rattle.std.proofs.Common.{◌≡◌, ℕ, zero, suc, ◌<◌, ◌≤◌, Bool, true, false, List, [], ◌∷◌, ◌++◌, reverse, refl, sym, ap, subst, ◌∙◌, arith, append_assoc, inl, inr}
use Rattle.std.specs.Prelude.{◌⊎◌}
use Rattle.std.proofs.lemmas.Bool.{cases_lt}
use Rattle.std.proofs.lemmas.List.{append-nil, reverse-append, reverse-reverse}
use Rattle.dw_journal.specs.declared.Journal.{Journal}
use Rattle.dw_journal.specs.declared.Shape.{Shape}
use Rattle.dw_journal.specs.declared.World.{World}
use Rattle.dw_journal.specs.Worlds.{IsSession, session_count}
use Rattle.dw_journal.specs.Driven.{Move, OfSession, OfCluster, IsDriven, WithoutMemory, round_of, rounds_of}
use Rattle.dw_journal.specs.History.{History, events_of, has_ended}
use Rattle.dw_engine.specs.EngineInvariant.{HaveNoVacuum}
use Rattle.dw_engine.proofs.StepLemmas.{same_world}
use Rattle.dw_top.specs.Existing.{AreSessionMoves, WereRead}
use Rattle.dw_top.specs.Rounds.{Leads, SomeoneIsLeft, total_left}
use Rattle.dw_top.proofs.ExistingSteps.{CanStep, step_exists}
use Rattle.dw_top.proofs.ExistingTurns.{IsWell, unswept, well_after}
use Rattle.dw_top.proofs.Leading.{leads_none, leads_step, leads_then, run_driven}
use Rattle.dw_top.proofs.Nearing.{InRound, round_more, round_none}
use Rattle.dw_top.proofs.Ending.{round_nearer}

-- a history to which steps lead, from one that is well
pub record IsFit (before after : History) : Type 0 where
  pub well : IsWell after
  pub remembers : WereRead before.world → WithoutMemory before.events → WithoutMemory after.events

fit_self : (history : History) → IsWell history → IsFit history history
fit_self history well = record { well = well; remembers = λ read older. older }

fit_then : {a b c : History} → b.world ≡ a.world → IsFit a b → IsFit b c → IsFit a c
fit_then same first later = record {
  well = later.well;
  remembers = λ read older. later.remembers (subst WereRead (sym same) read) (first.remembers read older);
}

fit_step : (before : History) (session : ℕ) (can : CanStep before session) → IsWell before → IsFit before can.after
fit_step before session can well = record { well = well_after can.step well; remembers = can.remembers }

-- ---- a schedule's moves
record CanMove (moves : List Move) (before : History) : Type 0 where
  after : History
  leads : Leads (reverse moves) before after
  fit : IsFit before after

moves_exist : (moves : List Move) (history : History) → AreSessionMoves history.world moves → IsWell history → HaveNoVacuum history.world → CanMove moves history
moves_exist [] history are well sweepless = record { after = history; leads = leads_none history; fit = fit_self history well }
moves_exist (OfCluster cluster ∷ moves) history are well sweepless = absurd are
moves_exist (OfSession session ∷ moves) history are well sweepless =
    let can = step_exists history session are.0 sweepless well in
    let same : can.after.world ≡ history.world = same_world can.step in
    let first = fit_step history session can well in
    let more =
    moves_exist moves can.after (subst (λ (w : World). AreSessionMoves w moves) (sym same) are.1) first.well (subst HaveNoVacuum (sym same) sweepless) in
    record {
      after = more.after;
      leads = subst (λ (led : List Move). Leads led history more.after) (sym (reverse-append (OfSession session ∷ []) moves)) (leads_then (leads_step can.step) more.leads);
      fit = fit_then same first more.fit;
    }

-- ---- a round
record CanGoRound (sessions count : ℕ) (before : History) : Type 0 where
  after : History
  round : InRound sessions count before after
  fit : IsFit before after

module _ (count : ℕ) (before : History) (all : count ≡ session_count before.world) (well : IsWell before) (sweepless : HaveNoVacuum before.world) where
  round_exists : (sessions : ℕ) → sessions ≤ count → CanGoRound sessions count before
  round_exists zero within = record { after = before; round = round_none count before; fit = fit_self before well }
  round_exists (suc sessions) within =
      let first = round_exists sessions (omega (arith, within)) in
      let same : first.after.world ≡ before.world = first.round.leads.world in
      let there : IsSession first.after.world (suc sessions) =
      subst (λ (w : World). IsSession w (suc sessions)) (sym same) (omega arith, omega (arith, within, all)) in
      let can = step_exists first.after (suc sessions) there (subst HaveNoVacuum (sym same) sweepless) first.fit.well in
      record {
        after = can.after;
        round = round_more sessions count (omega (arith, within)) first.round can.step;
        fit = fit_then same first.fit (fit_step first.after (suc sessions) can first.fit.well);
      }

-- ---- whether all of so many sessions are at their end
module _ (history : History) where
  abbrev AllEnded : ℕ → Type 0
  AllEnded n = (session : ℕ) → 1 ≤ session → session ≤ n → has_ended session history.events ≡ true

  abbrev OneLeft : ℕ → Type 0
  OneLeft n = (session : ℕ) × (1 ≤ session) × (session ≤ n) × (has_ended session history.events ≡ false)

  ended_more : (n session : ℕ) → AllEnded n → has_ended (suc n) history.events ≡ true → 1 ≤ session → session ≤ suc n → (session < suc n) ⊎ (suc n ≤ session)
      → has_ended session history.events ≡ true
  ended_more n session all last some within (inl less) = all session some (omega (arith, less))
  ended_more n session all last some within (inr more) =
      let same : suc n ≡ session = omega (arith, within, more) in
      subst (λ (s : ℕ). has_ended s history.events ≡ true) same last

  ended_by : (n : ℕ) (last : Bool) → has_ended (suc n) history.events ≡ last → AllEnded n ⊎ OneLeft n → AllEnded (suc n) ⊎ OneLeft (suc n)
  ended_by n last is (inr one) = inr (one.0, one.1, omega (arith, one.2), one.3)
  ended_by n false is (inl all) = inr (suc n, omega arith, omega arith, is)
  ended_by n true is (inl all) = inl (λ session some within. ended_more n session all is some within (cases_lt session (suc n)))

  ended_or_left : (n : ℕ) → AllEnded n ⊎ OneLeft n
  ended_or_left zero = inl (λ session some within. absurd (omega (arith, some, within)))
  ended_or_left (suc n) = ended_by n (has_ended (suc n) history.events) refl (ended_or_left n)

-- ---- rounds until all have ended
rounds_back : (n count : ℕ) → rounds_of n count ++ round_of n ≡ rounds_of n (suc count)
rounds_back n zero = sym (append-nil (round_of n))
rounds_back n (suc count) =
    append_assoc (round_of n) (rounds_of n count) (round_of n) ∙ ap (λ (moves : List Move). round_of n ++ moves) (rounds_back n count)

record CanEnd (count : ℕ) (before : History) : Type 0 where
  rounds : ℕ
  after : History
  leads : Leads (rounds_of count rounds) before after
  ends : (session : ℕ) → IsSession before.world session → has_ended session after.events ≡ true
  fit : IsFit before after

-- what holds of a history whose rounds come to an end
record IsReady (count : ℕ) (history : History) : Type 0 where
  all : count ≡ session_count history.world
  shaped : history.shape.sessions ≡ session_count history.world
  well : IsWell history
  sweepless : HaveNoVacuum history.world

ready_after : (count : ℕ) {before after : History} {moves : List Move} → IsReady count before → Leads moves before after → IsWell after → IsReady count after
ready_after count {before} {after} ready leads well = record {
  all = ready.all ∙ ap session_count (sym leads.world);
  shaped = ap (λ (s : Shape). s.sessions) leads.shape ∙ ready.shaped ∙ ap session_count (sym leads.world);
  well = well;
  sweepless = subst HaveNoVacuum (sym leads.world) ready.sweepless;
}

someone_left : (count : ℕ) (history : History) → count ≡ session_count history.world → OneLeft history count → SomeoneIsLeft history
someone_left count history all one =
    record { session = one.0; there = (one.1, omega (arith, one.2, all)); left = one.3 }

ended_all : (count : ℕ) (history : History) → IsReady count history → AllEnded history count → CanEnd count history
ended_all count history ready ended = record {
  rounds = 0;
  after = history;
  leads = leads_none history;
  ends = λ session there. ended session there.0 (omega (arith, there.1, ready.all));
  fit = fit_self history ready.well;
}

-- a round that brings the history nearer to its end
record CanNear (count : ℕ) (before : History) : Type 0 where
  after : History
  leads : Leads (round_of count) before after
  fit : IsFit before after
  nearer : total_left after count < total_left before count

near : (count : ℕ) (history : History) → IsReady count history → OneLeft history count → CanNear count history
near count history ready one =
    let go = round_exists count history ready.all ready.well ready.sweepless count (omega arith) in
    let now = ready_after count ready go.round.leads go.fit.well in
    record {
      after = go.after;
      leads = go.round.leads;
      fit = go.fit;
      nearer =
          round_nearer count ready.all go.round (someone_left count history ready.all one) now.well.follows now.well.legal now.shaped
          (unswept go.after.events now.well.calm);
    }

further : (count : ℕ) (before : History) (go : CanNear count before) → CanEnd count go.after → CanEnd count before
further count before go more = record {
  rounds = suc more.rounds;
  after = more.after;
  leads = subst (λ (moves : List Move). Leads moves before more.after) (rounds_back count more.rounds) (leads_then go.leads more.leads);
  ends = λ session there. more.ends session (subst (λ (w : World). IsSession w session) (sym go.leads.world) there);
  fit = fit_then go.leads.world go.fit more.fit;
}

rounds_exist : (most count : ℕ) (history : History) → IsReady count history → total_left history count ≤ most → AllEnded history count ⊎ OneLeft history count
    → CanEnd count history
rounds_exist most count history ready bound (inl ended) = ended_all count history ready ended
rounds_exist zero count history ready bound (inr one) =
    let go = near count history ready one in
    let less : total_left go.after count < total_left history count = go.nearer in
    absurd (omega (arith, bound, less))
rounds_exist (suc most) count history ready bound (inr one) =
    let go = near count history ready one in
    let less : total_left go.after count < total_left history count = go.nearer in
    further count history go
    (rounds_exist most count go.after (ready_after count ready go.leads go.fit.well) (omega (arith, bound, less)) (ended_or_left go.after count))

-- ---- the journal
module _ (world : World) (moves : List Move) (shape : Shape) where
  abbrev start : History
  start = record { shape = shape; world = world; events = [] }

  nothing_yet : IsWell start
  nothing_yet = record { follows = tt; legal = tt; calm = tt }

  pub journal_exists : HaveNoVacuum world → AreSessionMoves world moves → shape.sessions ≡ session_count world
      → (journal : Journal) × (journal.shape ≡ shape) × IsDriven world moves journal × (WereRead world → WithoutMemory (events_of journal))
  journal_exists sweepless are shaped =
      let count = session_count world in
      let move = moves_exist moves start are nothing_yet sweepless in
      let begun : IsReady count start = record { all = refl; shaped = shaped; well = nothing_yet; sweepless = sweepless } in
      let ready : IsReady count move.after = ready_after count begun move.leads move.fit.well in
      let end = rounds_exist (total_left move.after count) count move.after ready (omega arith) (ended_or_left move.after count) in
      let journal : Journal = record { shape = end.after.shape; events = reverse end.after.events } in
      let events_are : events_of journal ≡ end.after.events = reverse-reverse end.after.events in
      let driven : IsDriven world moves journal =
      run_driven shape world moves count end.rounds start move.after end.after journal refl move.leads end.leads refl end.ends refl events_are in
      let whole : IsFit start end.after = fit_then move.leads.world move.fit end.fit in
      (journal, (end.leads.shape ∙ move.leads.shape), driven, (λ read. subst WithoutMemory (sym events_are) (whole.remembers read tt)))
