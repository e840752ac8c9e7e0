use Rattle.std.proofs.Common.{take}
use Rattle.dw_codec_plain.specs.Numbers.{IsNumberWithin}
use Rattle.dw_codec_plain.specs.Spelling.{Begins}
use Rattle.dw_codec_plain.proofs.numbers.longest_front.Given as goal

abbrev pub invariant-loop-len : goal.invariant-loop-len
invariant-loop-len l = Begins (IsNumberWithin l.width l.low l.high) (take l.len l.bytes)
