use Rattle.std.proofs.Common.{◌≤◌, sym, subst}
use Rattle.dw_journal.specs.History.{History}
use Rattle.dw_journal.specs.Legal.{low_of, high_of}
use Rattle.dw_journal.specs.Turns.{number_due}
use Rattle.dw_engine.proofs.Commits.{EngineInvariant-dropped, decided, not_stamped}
use Rattle.dw_engine.proofs.engines.Engine.violate.Goals as goal

pub invariant_of-self : goal.invariant_of-self
invariant_of-self c =
    let i = c.self.inside in
    let session = c.args.session in
    EngineInvariant-dropped i.core i.database i.views.items c.self.invariant session c.place_of.result c.requires.session.0 c.place_of.ensures _ c.commit.result c.commit.ensures.now
    (not_stamped i.core session (number_due i.core session) c.commit.result c.commit.ensures.comes
    (subst (λ (h : History). low_of h session ≤ high_of h session) (sym c.self.view_is) c.requires.low))

pub returns : goal.returns
returns c = decided c.args.session c.commit.result c.self.view_is c.commit.ensures.now c.commit.ensures.comes
