use Rattle.std.proofs.Common.{ap, subst, ◌∙◌}
use Rattle.std.specs.Prelude.{Option}
use Rattle.dw_journal.specs.History.{History}
use Rattle.dw_journal.specs.Transactions.{transaction_of}
use Rattle.dw_commit.specs.declared.views.View.{View}
use Rattle.dw_engine.specs.EngineInvariant.{HasView}
use Rattle.dw_journal.specs.Contents.{view}
use Rattle.dw_engine.proofs.StepLemmas.{core_session}
use Rattle.dw_engine.proofs.ViewLemmas.{HasView-read, seen_view, seen_newest}
use Rattle.dw_engine.proofs.engines.Engine.seen.Goals as goal

pub returns-in-Some : goal.returns-in-Some
returns-in-Some c =
    let i = c.self.inside in
    let session = c.args.session in
    let has = HasView-read i.core i.database i.views.items c.self.invariant session c.place_of.result c.index.result.now c.requires.session.0
    (core_session session c.self.view_is c.requires.session).1 c.place_of.ensures c.index.ensures in
    seen_view i.core session c.in-Some.view (subst (λ (seen : Option View). HasView i.core session (transaction_of session i.core.events) seen) c.in-Some.is has)
    ∙ ap (λ (h : History). view h session) c.self.view_is

pub returns-in-None : goal.returns-in-None
returns-in-None c =
    let i = c.self.inside in
    let session = c.args.session in
    let has = HasView-read i.core i.database i.views.items c.self.invariant session c.place_of.result c.index.result.now c.requires.session.0
    (core_session session c.self.view_is c.requires.session).1 c.place_of.ensures c.index.ensures in
    seen_newest i.core session i.database (subst (λ (seen : Option View). HasView i.core session (transaction_of session i.core.events) seen) c.in-None.is has) c.self.invariant.newest
    ∙ ap (λ (h : History). view h session) c.self.view_is
