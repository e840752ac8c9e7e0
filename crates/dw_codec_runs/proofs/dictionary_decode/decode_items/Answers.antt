use Rattle.std.proofs.Common.{Bool, subst}
use Rattle.dw_codec_plain.specs.Spelling.{IsLongestFront}
use Rattle.dw_codec_runs.specs.DictionaryParts.{IsHead, NoneFirst}
use Rattle.dw_codec_runs.proofs.DictionaryDecoding.{head_damaged}
use Rattle.dw_codec_runs.proofs.dictionary_decode.decode_items.Goals as goal

pub returns-in-Err-clause-fault : goal.returns-in-Err-clause-fault
returns-in-Err-clause-fault c =
    head_damaged c.args.shape c.requires.shape c.args.count c.args.bytes.now c.in-Err.place
    (subst (λ (w : Bool). NoneFirst (IsHead w c.args.count) c.args.bytes.now) c.wide.ensures c.in-Err.ensures.none)
    (subst (λ (w : Bool). IsLongestFront (IsHead w c.args.count) c.args.bytes.now c.in-Err.place) c.wide.ensures c.in-Err.ensures.front)
