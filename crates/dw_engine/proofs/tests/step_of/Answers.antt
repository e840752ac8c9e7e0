use Rattle.std.proofs.Common.{rules, ◌≡◌, ap, sym, ◌∙◌, subst}
use Rattle.dw_journal.specs.declared.World.{World}
use Rattle.dw_journal.specs.Worlds.{IsSession, session_count}
use Rattle.dw_engine.proofs.StepLemmas.{same_world}
use Rattle.dw_engine.proofs.tests.step_of.Goals as goal

pub next-requires : goal.next-requires
next-requires c =
    let here : IsSession c.args.engine.now.world c.args.session = search rules in
    record { session = subst (λ (world : World). IsSession world c.args.session) (sym (same_world c.in_ok-step.ensures.step)) here }

pub returns : goal.returns
returns c = c.requires ∙ ap session_count (sym (same_world c.in_ok-step.ensures.step))
