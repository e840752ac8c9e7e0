use Rattle.std.proofs.Common.{◌≡◌, take}
use Rattle.dw_codec_plain.specs.Encodings.{raw_texts}
use Rattle.dw_codec_plain.proofs.texts.encode_raw_texts.Given as goal

abbrev pub invariant-loop-text : goal.invariant-loop-text
invariant-loop-text l = l.bytes.items ≡ raw_texts (take l.text-index l.values)
