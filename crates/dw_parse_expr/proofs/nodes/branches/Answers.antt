-- Each turn takes the last branch that is left.
use Rattle.dw_parse_expr.proofs.FromTheEnd.{branches-alone, branches-turn}
use Rattle.dw_parse_expr.proofs.nodes.branches.Goals as goal

pub loop-arm-init : goal.loop-arm-init
loop-arm-init c = branches-alone c.args.list

pub loop-arm-preserved : goal.loop-arm-preserved
loop-arm-preserved c =
    branches-turn c.loop-arm.list c.pop.new.self c.in-Some.arm c.loop-arm.row c.in_ok-row.row _ c.in-Some.ensures c.in_ok-row.ensures c.loop-arm.invariant
