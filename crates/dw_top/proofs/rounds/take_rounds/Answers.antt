use Rattle.std.proofs.Common.{◌≡◌, ◌+◌, ℕ, suc, true, sym, ap, subst, ◌∙◌, arith}
use Rattle.dw_journal.specs.declared.World.{World}
use Rattle.dw_journal.specs.Worlds.{IsSession, session_count}
use Rattle.dw_top.proofs.Leading.{leads_none, leads_then}
use Rattle.dw_top.proofs.rounds.take_rounds.Goals as goal

pub loop-engine-init : goal.loop-engine-init
loop-engine-init c = (0, leads_none c.args.engine.now)

pub loop-engine-preserved : goal.loop-engine-preserved
loop-engine-preserved c = (suc c.loop-engine.invariant.0, leads_then c.loop-engine.invariant.1 c.in_ok-take_round.ensures.leads)
