-- Each turn takes the last expression that is left.
use Rattle.dw_parse_expr.proofs.FromTheEnd.{trees-alone, trees-turn}
use Rattle.dw_parse_expr.proofs.nodes.trees.Goals as goal

pub loop-a-init : goal.loop-a-init
loop-a-init c = trees-alone c.args.list

pub loop-a-preserved : goal.loop-a-preserved
loop-a-preserved c =
    trees-turn c.loop-a.list c.pop.new.self c.in-Some.a c.loop-a.row c.in_ok-row.row _ c.in-Some.ensures c.in_ok-row.ensures c.loop-a.invariant
