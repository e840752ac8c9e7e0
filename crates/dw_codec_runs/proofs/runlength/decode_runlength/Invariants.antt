use Rattle.std.specs.Ordering.{int_eq}
use Rattle.dw_codec_plain.specs.Numbers.{FitsWidth, number}
use Rattle.dw_codec_runs.proofs.RunsDecoding.{IsDecoding}
use Rattle.dw_codec_runs.proofs.runlength.decode_runlength.Given as goal

abbrev pub invariant-loop-left : goal.invariant-loop-left
invariant-loop-left l = IsDecoding int_eq (number l.width) (FitsWidth l.width) l.count l.bytes l.values.items l.left l.before l.rest

abbrev pub decreases-loop-left : goal.decreases-loop-left
decreases-loop-left l = l.left
