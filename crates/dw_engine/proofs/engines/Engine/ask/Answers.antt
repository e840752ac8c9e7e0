use Rattle.std.proofs.Common.{◌≡◌, [], sym, subst}
use Rattle.dw_journal.specs.History.{History}
use Rattle.dw_journal.specs.Legal.{blockers_of}
use Rattle.dw_journal.specs.Turns.{number_due}
use Rattle.dw_locks.specs.declared.locks.Asked.{Asked}
use Rattle.dw_core.specs.Asking.{IsAnswered}
use Rattle.dw_engine.specs.Steps.{IsStep}
use Rattle.dw_engine.proofs.Asking.{EngineInvariant-deadlock, EngineInvariant-waits, deadlock_step, waits_step}
use Rattle.dw_engine.proofs.engines.Engine.ask.Goals as goal

pub open_granted-requires-clause-free : goal.open_granted-requires-clause-free
open_granted-requires-clause-free c =
    let session = c.args.session in
    let answered = subst (λ (asked : Asked). IsAnswered c.self.inside.core session asked c.ask.new.self) c.in-Granted.is c.in_ok-ask.ensures.ok in
    subst (λ (h : History). blockers_of h session (number_due h session) ≡ []) (sym answered.1) answered.0

pub invariant_of-self-in-Waits : goal.invariant_of-self-in-Waits
invariant_of-self-in-Waits c =
    let i = c.self.inside in
    let session = c.args.session in
    let answered = subst (λ (asked : Asked). IsAnswered i.core session asked c.ask.new.self) c.in-Waits.is c.in_ok-ask.ensures.ok in
    EngineInvariant-waits i.core i.database i.views.items c.self.invariant session c.in-Waits.holders c.ask.new.self answered

pub returns-in-Waits-clause-step : goal.returns-in-Waits-clause-step
returns-in-Waits-clause-step c =
    let core = c.self.inside.core in
    let session = c.args.session in
    let answered = subst (λ (asked : Asked). IsAnswered core session asked c.ask.new.self) c.in-Waits.is c.in_ok-ask.ensures.ok in
    subst (λ (h : History). IsStep session h c.ask.new.self) c.self.view_is (waits_step core session c.in-Waits.holders c.ask.new.self answered)

pub invariant_of-self-in-Deadlock : goal.invariant_of-self-in-Deadlock
invariant_of-self-in-Deadlock c =
    let i = c.self.inside in
    let session = c.args.session in
    let answered = subst (λ (asked : Asked). IsAnswered i.core session asked c.ask.new.self) c.in-Deadlock.is c.in_ok-ask.ensures.ok in
    EngineInvariant-deadlock i.core i.database i.views.items c.self.invariant session c.place_of.result c.in-Deadlock.cycle c.ask.new.self
    c.requires.session.0 c.place_of.ensures answered

pub returns-clause-step : goal.returns-clause-step
returns-clause-step c =
    let core = c.self.inside.core in
    let session = c.args.session in
    let answered = subst (λ (asked : Asked). IsAnswered core session asked c.ask.new.self) c.in-Deadlock.is c.in_ok-ask.ensures.ok in
    subst (λ (h : History). IsStep session h c.ask.new.self) c.self.view_is (deadlock_step core session c.in-Deadlock.cycle c.ask.new.self answered)
