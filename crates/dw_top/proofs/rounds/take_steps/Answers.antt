use Rattle.std.proofs.Common.{◌≡◌, ℕ, replicate, sym, subst, arith}
use Rattle.dw_journal.specs.declared.World.{World}
use Rattle.dw_journal.specs.Worlds.{IsSession}
use Rattle.dw_journal.specs.Driven.{OfSession}
use Rattle.dw_top.specs.Rounds.{Leads}
use Rattle.dw_top.proofs.Leading.{leads_none}
use Rattle.dw_top.proofs.Nearing.{leads_more}
use Rattle.dw_top.proofs.rounds.take_steps.Goals as goal

pub loop-init : goal.loop-init
loop-init c = leads_none c.args.engine.now

pub step-requires : goal.step-requires
step-requires c =
    record { session = subst (λ (w : World). IsSession w c.args.session) (sym c.loop.invariant.world) c.requires.session }

pub loop-preserved : goal.loop-preserved
loop-preserved c = leads_more c.loop.counter c.loop.invariant c.in_ok-step.ensures.step

pub returns : goal.returns
returns c =
    let all : c.loop.counter ≡ c.args.count = omega (arith, c.loop-test.false, c.loop.auto.counter-end) in
    subst (λ (n : ℕ). Leads (replicate n (OfSession c.args.session)) c.args.engine.now c.loop.engine) all c.loop.invariant
