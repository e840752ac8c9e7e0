use Rattle.std.proofs.Common.{arith}
use Rattle.std.specs.Option.{option_copied}
use Rattle.std.specs.Str.{bytes_eq}
use Rattle.dw_codec_plain.specs.Encodings.{IsText, raw_text}
use Rattle.dw_codec_runs.proofs.RunsValues.{value_none, same_value_none}
use Rattle.dw_codec_runs.proofs.RunsTexts.{text_code}
use Rattle.dw_codec_runs.proofs.runlength_texts.run_at.Goals as goal

pub returns-then-is_same-clause-none : goal.returns-then-is_same-clause-none
returns-then-is_same-clause-none c =
    value_none bytes_eq raw_text IsText text_code (option_copied c.args.before) c.args.left c.in_ok-times.times c.args.bytes.now c.in_ok-times.behind.now (omega (arith, c.requires))
    c.in_ok-times.ensures.times c.in_ok-times.ensures.spells
    (same_value_none bytes_eq raw_text IsText text_code (option_copied c.args.before) c.in_ok-times.behind.now c.in_ok-text.text.now c.in_ok-text.after.now c.in_ok-text.ensures.text
    (c.is_same.ensures.0 c.if-is_same.true) c.in_ok-text.ensures.spells)
