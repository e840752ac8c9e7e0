use Rattle.std.proofs.Common.{◌∙◌, sym}
use Rattle.dw_block.proofs.Admitted.{IsValueOf-admitted}
use Rattle.dw_block.proofs.tests.held_one.Goals as goal

pub returns-in-Ok : goal.returns-in-Ok
returns-in-Ok c = IsValueOf-admitted c.args.kind c.args.value c.in-Ok.held (sym c.goes_with.ensures ∙ c.if-not-goes_with.false) (sym c.in-Ok.ensures)
