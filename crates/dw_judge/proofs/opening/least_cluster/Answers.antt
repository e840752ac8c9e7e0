use Rattle.std.proofs.Common.{◌+◌, ◌-◌, sym, ◌∙◌, arith}
use Rattle.dw_judge.specs.Judging.{takes_kept}
use Rattle.dw_judge.proofs.Opened.{find_here, find_next, past_stamps}
use Rattle.dw_judge.proofs.opening.least_cluster.Goals as goal

pub loop-before-preserved : goal.loop-before-preserved
loop-before-preserved c =
    let before = c.loop-before.before in
    let takes = takes_kept c.args.events.now c.args.sessions.now c.args.stamps.now c.args.slots c.args.snapshot in
    sym (find_next takes before c.args.clusters (omega arith) (sym c.can_take.ensures ∙ c.if-can_take.false)) ∙ c.loop-before.invariant

pub returns-then-cluster-stamps : goal.returns-then-cluster-stamps
returns-then-cluster-stamps c =
    let before = c.loop-before.before in
    sym (past_stamps c.args.events.now c.args.sessions.now c.args.stamps.now c.args.slots c.args.snapshot (before + 1) (c.args.clusters - before) (omega (arith, c.if-cluster-stamps.true))) ∙ c.loop-before.invariant

pub returns-then-can_take : goal.returns-then-can_take
returns-then-can_take c =
    let before = c.loop-before.before in
    let takes = takes_kept c.args.events.now c.args.sessions.now c.args.stamps.now c.args.slots c.args.snapshot in
    sym (find_here takes before c.args.clusters (omega arith) (sym c.can_take.ensures ∙ c.if-can_take.true)) ∙ c.loop-before.invariant
