use Rattle.std.proofs.Common.{◌≡◌, take, None}
use Rattle.dw_codec_plain.proofs.Items.{last_of}
use Rattle.dw_codec_delta.specs.Delta.{delta}
use Rattle.dw_codec_delta.proofs.list.encode_delta.Given as goal

abbrev pub invariant-loop-value : goal.invariant-loop-value
invariant-loop-value l = record {
  written : l.bytes.items ≡ delta l.width l.step (take l.value-index l.values);
  last : l.before ≡ last_of None (take l.value-index l.values);
}
