use Rattle.std.proofs.Common.{arith}
use Rattle.std.specs.Option.{option_copied}
use Rattle.std.specs.Str.{bytes_eq}
use Rattle.dw_codec_plain.specs.Encodings.{IsText, raw_text}
use Rattle.dw_codec_runs.proofs.RunsValues.{times_stop, times_go}
use Rattle.dw_codec_runs.proofs.RunsTexts.{text_code}
use Rattle.dw_codec_runs.proofs.runlength_texts.run_front.Goals as goal

pub returns-in-Some : goal.returns-in-Some
returns-in-Some c =
    times_go bytes_eq raw_text IsText text_code (option_copied c.args.before) c.args.left c.other_front.result c.in-Some.field-0-0 c.args.bytes.now c.in-Some.behind.now
    (omega (arith, c.requires.most)) c.in-Some.ensures.times c.in-Some.ensures.spells c.other_front.ensures

pub returns-in-None : goal.returns-in-None
returns-in-None c =
    times_stop bytes_eq raw_text IsText text_code (option_copied c.args.before) c.args.left c.times_front.result c.args.bytes.now c.in-None.ensures.none c.times_front.ensures
