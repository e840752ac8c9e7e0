use Rattle.std.proofs.Common.{sym, subst, take}
use Rattle.dw_codec_runs.specs.DictionaryParts.{IsWanted, NoneFirst}
use Rattle.dw_codec_runs.proofs.dictionary_item.next_item.Goals as goal

pub returns-in-Some-unknown_at-clause-item : goal.returns-in-Some-unknown_at-clause-item
returns-in-Some-unknown_at-clause-item c =
    subst (λ any. IsWanted c.args.shape c.args.known.now any (take c.in-Some-unknown_at.len c.args.bytes.now)) (sym c.if-any.false) c.in-Some-unknown_at.ensures.item

pub returns-in-None-unknown_at-clause-none : goal.returns-in-None-unknown_at-clause-none
returns-in-None-unknown_at-clause-none c =
    subst (λ any. NoneFirst (IsWanted c.args.shape c.args.known.now any) c.args.bytes.now) (sym c.if-any.false) c.in-None-unknown_at.ensures.none
