use Rattle.std.proofs.Common.{◌≡◌, take}
use Rattle.dw_codec_plain.specs.Encodings.{mostly}
use Rattle.dw_codec_plain.proofs.mostly.encode_mostly.Given as goal

abbrev pub invariant-loop-value : goal.invariant-loop-value
invariant-loop-value l = l.bytes.items ≡ mostly l.width l.step (take l.value-index l.values)
