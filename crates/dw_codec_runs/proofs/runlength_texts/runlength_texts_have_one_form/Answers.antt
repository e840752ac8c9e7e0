use Rattle.std.specs.Str.{bytes_eq}
use Rattle.dw_codec_plain.specs.Encodings.{IsText, raw_text}
use Rattle.dw_codec_runs.proofs.RunsForm.{one_form}
use Rattle.dw_codec_runs.proofs.RunsTexts.{text_code}
use Rattle.dw_codec_runs.proofs.runlength_texts.runlength_texts_have_one_form.Goals as goal

pub returns : goal.returns
returns c = λ values others most most' fits fits' same. one_form bytes_eq raw_text IsText text_code values others most most' fits fits' same
