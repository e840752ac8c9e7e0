use Rattle.std.proofs.Common.{[], ◌∷◌, length, length-append, sym, ap, subst, arith}
use Rattle.dw_core.proofs.NewCores.{AreFresh, agrees_new, one_more}
use Rattle.dw_core.proofs.cores.Core.new.Goals as goal

pub loop-init : goal.loop-init
loop-init c = (ap length c.new-sessions.ensures.items, subst AreFresh (sym c.new-sessions.ensures.items) tt)

pub loop-preserved : goal.loop-preserved
loop-preserved c =
    let items = c.in_ok-push.ensures.items in
    let one = c.fresh.ensures in (
      omega (arith, ap length items, length-append c.loop.sessions.items (c.fresh.result ∷ []), c.loop.invariant.0),
      subst AreFresh (sym items) (one_more c.loop.sessions.items c.fresh.result c.loop.invariant.1 one),
    )

pub invariant_of-result : goal.invariant_of-result
invariant_of-result c =
    agrees_new c.args.shape c.args.world c.new-2.result.items c.loop.sessions.items c.new-3.result _ _ _ c.new-2.ensures.items c.loop.invariant.1 c.new-3.ensures.stands c.in_ok-locks.ensures c.new-2.ensures.len
    (omega (arith, c.loop.invariant.0, c.loop-test.false, c.requires.sessions)) c.requires.sessions c.requires.short
