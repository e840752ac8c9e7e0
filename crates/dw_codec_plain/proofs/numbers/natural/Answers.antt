use Rattle.std.proofs.Common.{◌∙◌, ap}
use Rattle.std.specs.Int.{w128, from_le_bytes}
use Rattle.dw_codec_plain.specs.Numbers.{natural_of}
use Rattle.dw_codec_plain.proofs.Naturals.{padded_is, eight_bytes}
use Rattle.dw_codec_plain.proofs.numbers.natural.Goals as goal

pub returns-in_default : goal.returns-in_default
returns-in_default c = c.from_le_bytes.ensures ∙ (ap (from_le_bytes w128) c.padded.ensures ∙ padded_is c.args.bytes.now c.requires)

pub returns-in-len8 : goal.returns-in-len8
returns-in-len8 c = c.natural_of_eight.ensures ∙ ap natural_of (eight_bytes c.args.bytes.now c.in-len8.len_at_least c.in-len8.len_below)
