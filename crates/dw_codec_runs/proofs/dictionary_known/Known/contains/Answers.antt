use Rattle.std.proofs.Common.{Vec, Global, ℕ, ap, ◌∙◌}
use Rattle.dw_codec_runs.specs.Dictionary.{is_known}
use Rattle.dw_codec_runs.proofs.DictionaryKnown.{known_keys}
use Rattle.dw_codec_runs.proofs.dictionary_known.Known.contains.Goals as goal

pub returns : goal.returns
returns c = c.contains.ensures ∙ (known_keys (λ (k : Vec ℕ Global). k.items) c.args.item.now c.self.inside.items.keys ∙ ap (λ known. is_known known c.args.item.now) c.self.view_is)
