use Rattle.std.proofs.Common.{◌<◌, arith, rules, sym}
use Rattle.dw_value.specs.Kinds.{scale_of}
use Rattle.dw_expr.proofs.Bringing.{raised_less}
use Rattle.dw_expr.proofs.casting.brought_number.Goals as goal

pub returns-else-scale : goal.returns-else-scale
returns-else-scale c =
    let less : scale_of c.args.kind < scale_of c.args.from =
    grind (arith, c.scale.ensures, c.scale-2.ensures, c.if-scale.false) in
    rw (sym (raised_less (scale_of c.args.kind) (scale_of c.args.from) c.args.number less)) (search rules)
