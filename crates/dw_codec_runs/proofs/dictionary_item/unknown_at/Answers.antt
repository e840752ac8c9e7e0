use Rattle.std.proofs.Common.{sym, ◌∙◌}
use Rattle.dw_codec_runs.proofs.DictionaryLengths.{known_none}
use Rattle.dw_codec_runs.proofs.dictionary_item.unknown_at.Goals as goal

pub returns-then-contains-clause-none : goal.returns-then-contains-clause-none
returns-then-contains-clause-none c =
    known_none c.args.shape c.requires c.args.bytes.now c.args.known.now c.in_ok-len.len c.in_ok-len.ensures.item (sym c.contains.ensures ∙ c.if-contains.true)
