use Rattle.std.proofs.Common.{sym, ◌∙◌, arith}
use Rattle.dw_judge.proofs.Violated.{written_none}
use Rattle.dw_judge.proofs.violations.is_written_at.Goals as goal

pub returns : goal.returns
returns c =
    sym (written_none c.args.commits.now c.loop-left.left c.args.low c.args.snapshot c.args.object.now c.loop-left.invariant.0 (omega arith)) ∙ c.loop-left.invariant.1
