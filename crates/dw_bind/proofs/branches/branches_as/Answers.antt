-- Each turn takes the last branch that is left.
use Rattle.std.proofs.Common.{◌≡◌}
use Rattle.dw_bind.proofs.FromTheEnd.{onto-turn, branch_step, branches_as-onto}
use Rattle.dw_bind.proofs.branches.branches_as.Goals as goal

pub loop-arm-init : goal.loop-arm-init
loop-arm-init c = branches_as-onto c.args.kind c.args.arms

pub loop-arm-preserved : goal.loop-arm-preserved
loop-arm-preserved c =
    let kind = c.args.kind in
    let value = c.as_kind-value.ensures in
    let made = c.in_ok-bound.ensures in
    let one : branch_step kind c.in-Some.arm c.loop-arm.bound ≡ c.in_ok-bound.bound = cc (value, made) in
    onto-turn (branch_step kind) c.loop-arm.arms c.pop.new.self c.in-Some.arm c.loop-arm.bound c.in_ok-bound.bound _ c.in-Some.ensures one c.loop-arm.invariant
