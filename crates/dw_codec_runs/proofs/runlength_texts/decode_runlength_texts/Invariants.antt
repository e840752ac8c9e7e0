use Rattle.std.specs.Option.{option_copied}
use Rattle.std.specs.Str.{bytes_eq}
use Rattle.dw_codec_plain.specs.Encodings.{IsText, raw_text}
use Rattle.dw_codec_runs.proofs.RunsDecoding.{IsDecoding}
use Rattle.dw_codec_runs.proofs.runlength_texts.decode_runlength_texts.Given as goal

abbrev pub invariant-loop-left : goal.invariant-loop-left
invariant-loop-left l = IsDecoding bytes_eq raw_text IsText l.count l.bytes l.values.items l.left (option_copied l.before) l.rest

abbrev pub decreases-loop-left : goal.decreases-loop-left
decreases-loop-left l = l.left
