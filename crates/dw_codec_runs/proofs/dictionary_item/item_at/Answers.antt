use Rattle.std.proofs.Common.{sym, subst, Option, ℕ, arith}
use Rattle.std.specs.Prelude.{IfNone, length}
use Rattle.dw_codec_plain.specs.Spelling.{IsLongestFront}
use Rattle.dw_codec_runs.specs.DictionaryParts.{IsItemOf, NoneFirst}
use Rattle.dw_codec_runs.proofs.DictionaryLengths.{head_none, head_front, item_none, item_front, item_whole}
use Rattle.dw_codec_runs.proofs.dictionary_item.item_at.Goals as goal

pub returns-in_err-len-clause-none : goal.returns-in_err-len-clause-none
returns-in_err-len-clause-none c =
    subst (λ (o : Option ℕ). IfNone o (NoneFirst (IsItemOf c.args.shape) c.args.bytes.now)) (sym c.from_residual.ensures) (head_none c.args.shape c.requires c.args.bytes.now c.in_err-len.ensures.none)

pub returns-in_err-len-clause-front : goal.returns-in_err-len-clause-front
returns-in_err-len-clause-front c =
    subst (λ (o : Option ℕ). IfNone o (IsLongestFront (IsItemOf c.args.shape) c.args.bytes.now (length c.args.bytes.now))) (sym c.from_residual.ensures)
    (head_front c.args.shape c.requires c.args.bytes.now c.in_err-len.ensures.none)

pub returns-then-bytes-len-clause-none : goal.returns-then-bytes-len-clause-none
returns-then-bytes-len-clause-none c = item_none c.args.shape c.requires c.args.bytes.now c.in_ok-len.len c.in_ok-len.ensures.some c.if-bytes-len.true

pub returns-then-bytes-len-clause-front : goal.returns-then-bytes-len-clause-front
returns-then-bytes-len-clause-front c = item_front c.args.shape c.requires c.args.bytes.now c.in_ok-len.len c.in_ok-len.ensures.some c.if-bytes-len.true

pub returns-clause-item : goal.returns-clause-item
returns-clause-item c = item_whole c.args.shape c.requires c.args.bytes.now c.in_ok-len.len c.in_ok-len.ensures.some (omega arith)
