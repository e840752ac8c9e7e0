use Rattle.std.proofs.Common.{◌+ℤ◌, FitsSigned}
use Rattle.std.specs.Int.{w128}
use Rattle.dw_codec_plain.proofs.Signed.{wide, at_bits}
use Rattle.dw_codec_plain.proofs.step.sum_within.Goals as goal

pub returns-in_err-sum-clause-none : goal.returns-in_err-sum-clause-none
returns-in_err-sum-clause-none c =
    rw c.from_residual.ensures (λ fits. c.in_err-sum.ensures
    (at_bits (λ base small. FitsSigned w128 (base +ℤ small)) c.args.base c.args.small c.ranges.base c.ranges.small
    (wide c.args.width c.requires (c.args.base +ℤ c.args.small) fits)))
