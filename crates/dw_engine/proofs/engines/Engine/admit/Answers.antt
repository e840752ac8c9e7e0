use Rattle.std.proofs.Common.{◌≡◌, None, sym, subst}
use Rattle.std.proofs.Math.ListN.{set}
use Rattle.dw_core.specs.DueEvents.{commit_due}
use Rattle.dw_journal.specs.Contents.{contents}
use Rattle.dw_journal.specs.History.{History, with_event}
use Rattle.dw_engine.specs.declared.engines.Engine.TheInside.{Inside}
use Rattle.dw_engine.specs.EngineInvariant.{EngineInvariant}
use Rattle.dw_engine.specs.Steps.{IsStep}
use Rattle.dw_engine.proofs.Commits.{EngineInvariant-dropped, EngineInvariant-stamped, decided}
use Rattle.dw_engine.proofs.engines.Engine.admit.Goals.{in-Stamped, in_default}
use Rattle.dw_engine.proofs.engines.Engine.admit.Goals as goal

pub invariant_of-self : goal.invariant_of-self
invariant_of-self c =
    let i = c.self.inside in
    let session = c.args.session in
    let left = subst (λ (h : History). c.args.next ≡ contents (with_event h (commit_due h session))) (sym c.self.view_is) c.requires.next in
    let stands = λ (e : Inside). EngineInvariant e.core e.database (set e.views.items c.place_of.result None) in
    elim c.match-commit.branch [
      | in-Stamped w ↦ subst stands (sym w.self-inside-is)
          (EngineInvariant-stamped i.core i.database i.views.items c.self.invariant session c.place_of.result c.requires.session.0 c.place_of.ensures c.commit.new.self c.commit.result
          w.in-Stamped.stamp w.in-Stamped.low w.in-Stamped.high c.args.next w.in-Stamped.is c.commit.ensures.comes c.commit.ensures.now left)
      | in_default w ↦ subst stands (sym w.self-inside-is)
          (EngineInvariant-dropped i.core i.database i.views.items c.self.invariant session c.place_of.result c.requires.session.0 c.place_of.ensures c.commit.new.self c.commit.result
          c.commit.ensures.now w.in_default.not-Stamped)
    ]

pub returns : goal.returns
returns c =
    let step = decided c.args.session c.commit.result c.self.view_is c.commit.ensures.now c.commit.ensures.comes in
    let is_step = λ (e : Inside). IsStep c.args.session c.args.self.now e.core in
    elim c.match-commit.branch [
      | in-Stamped w ↦ subst is_step (sym w.self-inside-is) step
      | in_default w ↦ subst is_step (sym w.self-inside-is) step
    ]
