use Rattle.std.proofs.Common.{◌≡◌, true, false, refl, ap, sym, subst, ◌∙◌, Some, None}
use Rattle.std.specs.Prelude.{Option}
use Rattle.dw_journal.specs.History.{History}
use Rattle.dw_journal.specs.Transactions.{transaction_of}
use Rattle.dw_commit.specs.declared.views.View.{View}
use Rattle.dw_engine.specs.EngineInvariant.{HasView}
use Rattle.std.specs.Prelude.{is_some}
use Rattle.std.proofs.Math.ListN.{set}
use Rattle.dw_journal.specs.Turns.{number_due}
use Rattle.dw_journal.specs.Transactions.{commits}
use Rattle.dw_journal.specs.Legal.{snapshot_due, snapshot_in_or}
use Rattle.dw_core.specs.DueEvents.{opening_due, route_due}
use Rattle.dw_engine.specs.EngineInvariant.{EngineInvariant}
use Rattle.dw_engine.proofs.StepLemmas.{core_session, stepped}
use Rattle.dw_engine.proofs.ViewLemmas.{EngineInvariant-event, EngineInvariant-kept, HasView-opened, HasView-read, none_by, some_by, transaction_of-opened}
use Rattle.dw_engine.proofs.engines.Engine.opened.Goals as goal

one_of : (seen : Option View) → is_some seen ≡ true → (v : View) × (seen ≡ Some v)
one_of None is = cc
one_of (Some v) is = (v, refl)

none_of : (seen : Option View) → is_some seen ≡ false → seen ≡ None
none_of None is = refl
none_of (Some v) is = cc

pub invariant_of-self-then-is_some : goal.invariant_of-self-then-is_some
invariant_of-self-then-is_some c =
    let i = c.self.inside in
    let session = c.args.session in
    let has = HasView-read i.core i.database i.views.items c.self.invariant session c.place_of.result c.index.result.now c.requires.session.0
    (core_session session c.self.view_is c.requires.session).1 c.place_of.ensures c.index.ensures in
    let one = one_of c.index.result.now (sym c.is_some.ensures ∙ c.if-is_some.true) in
    let here = some_by i.core session (transaction_of session i.core.events) one.0 (subst (λ (seen : Option View). HasView i.core session (transaction_of session i.core.events) seen) one.1 has) in
    EngineInvariant-kept i.core i.database i.views.items c.self.invariant (opening_due i.core session) _ c.in_ok-opened.ensures.ok.1 refl
    (λ other. transaction_of-opened session (number_due i.core session) (snapshot_due i.core session) (route_due i.core session) i.core.events here.0 other here.1)

pub returns-then-is_some-clause-step : goal.returns-then-is_some-clause-step
returns-then-is_some-clause-step c =
    stepped c.args.session (λ (h : History). opening_due h c.args.session) c.self.view_is c.in_ok-opened.ensures.ok.1 refl refl c.requires.next

pub invariant_of-self-2 : goal.invariant_of-self-2
invariant_of-self-2 c =
    let i = c.self.inside in
    let session = c.args.session in
    let has = HasView-read i.core i.database i.views.items c.self.invariant session c.place_of.result c.index.result.now c.requires.session.0
    (core_session session c.self.view_is c.requires.session).1 c.place_of.ensures c.index.ensures in
    let none = none_by i.core session (transaction_of session i.core.events) (subst (λ (seen : Option View). HasView i.core session (transaction_of session i.core.events) seen) (none_of c.index.result.now (sym c.is_some.ensures ∙ c.if-is_some.false)) has) in
    let fresh : View = record { database = c.in_ok-copy.field-0; changes = c.new.result } in
    EngineInvariant-event i.core i.database i.views.items c.self.invariant session c.place_of-2.result (opening_due i.core session) _ _ (Some fresh)
    c.requires.session.0 c.place_of-2.ensures refl c.in_ok-opened-2.ensures.ok.1 c.self.invariant.newest
    (HasView-opened i.core session (number_due i.core session) (snapshot_due i.core session) (route_due i.core session) fresh none
    (ap (snapshot_in_or (commits i.core.events)) none) (c.in_ok-copy.ensures ∙ c.self.invariant.newest) c.new.ensures)

pub returns-clause-step : goal.returns-clause-step
returns-clause-step c =
    stepped c.args.session (λ (h : History). opening_due h c.args.session) c.self.view_is c.in_ok-opened-2.ensures.ok.1 refl refl c.requires.next
