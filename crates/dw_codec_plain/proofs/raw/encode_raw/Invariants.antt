use Rattle.std.proofs.Common.{◌≡◌, take}
use Rattle.dw_codec_plain.specs.Encodings.{raw}
use Rattle.dw_codec_plain.proofs.raw.encode_raw.Given as goal

abbrev pub invariant-loop-value : goal.invariant-loop-value
invariant-loop-value l = l.bytes.items ≡ raw l.width (take l.value-index l.values)
