-- Each turn takes the last argument that is left.
use Rattle.std.proofs.Common.{◌≡◌}
use Rattle.dw_bind.proofs.FromTheEnd.{onto-turn, list_step, list_as-onto}
use Rattle.dw_bind.proofs.branches.list_as.Goals as goal

pub loop-a-init : goal.loop-a-init
loop-a-init c = list_as-onto c.args.kind c.args.list

pub loop-a-preserved : goal.loop-a-preserved
loop-a-preserved c =
    let kind = c.args.kind in
    let value = c.as_kind-a.ensures in
    let made = c.in_ok-bound.ensures in
    let one : list_step kind c.in-Some.a c.loop-a.bound ≡ c.in_ok-bound.bound = cc (value, made) in
    onto-turn (list_step kind) c.loop-a.list c.pop.new.self c.in-Some.a c.loop-a.bound c.in_ok-bound.bound _ c.in-Some.ensures one c.loop-a.invariant
