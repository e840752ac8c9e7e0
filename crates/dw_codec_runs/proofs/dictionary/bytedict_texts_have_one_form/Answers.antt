use Rattle.dw_codec_runs.proofs.DictionaryValues.{bytedict_texts_form}
use Rattle.dw_codec_runs.proofs.dictionary.bytedict_texts_have_one_form.Goals as goal

pub returns : goal.returns
returns c = bytedict_texts_form
