use Rattle.std.proofs.Common.{◌≡◌, None, Some, ap, sym, subst, ◌∙◌}
use Rattle.std.specs.Prelude.{Option}
use Rattle.dw_journal.specs.History.{History}
use Rattle.dw_journal.specs.Transactions.{transaction_of}
use Rattle.dw_commit.specs.declared.views.View.{View}
use Rattle.dw_engine.specs.EngineInvariant.{HasView}
use Rattle.dw_journal.specs.History.{with_event}
use Rattle.dw_journal.specs.Contents.{contents}
use Rattle.dw_journal.specs.Transactions.{Transaction, opened_statements, snapshot_in, taken_of, taken_over}
use Rattle.dw_core.specs.DueEvents.{commit_due}
use Rattle.std.specs.Prelude.{option_map}
use Rattle.dw_engine.proofs.Commits.{installed_is}
use Rattle.dw_engine.proofs.Results.{then_if_ok}
use Rattle.dw_engine.proofs.StepLemmas.{core_session}
use Rattle.dw_engine.proofs.ViewLemmas.{HasView-read, none_by}
use Rattle.dw_engine.proofs.engines.Engine.installed.Goals as goal

pub unreachable-requires : goal.unreachable-requires
unreachable-requires c =
    c.requires.taken (ap (λ (h : History). taken_of h c.args.session) (sym c.self.view_is) ∙ sym c.in_default.ensures.taken)

pub unreachable-requires-in_default-index : goal.unreachable-requires-in_default-index
unreachable-requires-in_default-index c =
    let i = c.self.inside in
    let session = c.args.session in
    let has = HasView-read i.core i.database i.views.items c.self.invariant session c.place_of.result c.index.result.now c.requires.session.0
    (core_session session c.self.view_is c.requires.session).1 c.place_of.ensures c.index.ensures in
    let none = none_by i.core session (transaction_of session i.core.events) (subst (λ (seen : Option View). HasView i.core session (transaction_of session i.core.events) seen) c.in_default-index.is has) in
    c.requires.taken (ap (λ (h : History). taken_of h session) (sym c.self.view_is)
    ∙ ap (λ (t : Option Transaction). option_map (taken_over i.core.world session (opened_statements session i.core.events)) (snapshot_in t)) none)

pub returns : goal.returns
returns c =
    let i = c.self.inside in
    let session = c.args.session in
    let has = HasView-read i.core i.database i.views.items c.self.invariant session c.place_of.result c.index.result.now c.requires.session.0
    (core_session session c.self.view_is c.requires.session).1 c.place_of.ensures c.index.ensures in
    then_if_ok c.install.result c.install.ensures (λ next is.
    subst (λ (h : History). next ≡ contents (with_event h (commit_due h session))) c.self.view_is
    (installed_is i.core session c.in-Some-index.view (subst (λ (seen : Option View). HasView i.core session (transaction_of session i.core.events) seen) c.in-Some-index.is has)
    c.in-Some.taken.now i.database next c.in-Some.ensures.taken c.self.invariant.newest is))
