use Rattle.dw_codec_runs.proofs.DictionaryValues.{bytedict_form}
use Rattle.dw_codec_runs.proofs.dictionary.bytedict_has_one_form.Goals as goal

pub returns : goal.returns
returns c = bytedict_form
