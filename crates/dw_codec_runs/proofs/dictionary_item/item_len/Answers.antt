use Rattle.std.proofs.Common.{◌+◌, ◌<◌, sym, refl, subst, arith}
use Rattle.dw_codec_plain.specs.Numbers.{IsWidth}
use Rattle.dw_codec_plain.proofs.TextItems.{said_below}
use Rattle.dw_codec_runs.specs.DictionaryParts.{IsShape, IsItemAt, IsCutHead}
use Rattle.dw_codec_runs.specs.declared.dictionary_item.Shape.TheVariants.{Number}
use Rattle.dw_codec_runs.proofs.DictionaryLengths.{number_len, text_cut, text_len}
use Rattle.dw_codec_runs.proofs.dictionary_item.item_len.Goals as goal

pub returns-then-bytes-lt2-clause-none : goal.returns-then-bytes-lt2-clause-none
returns-then-bytes-lt2-clause-none c =
    subst (λ shape. IsCutHead shape c.args.bytes.now) (sym c.in-Text.is) (text_cut c.args.bytes.now (λ i. omega (arith, c.type_inv.bytes i)) c.if-bytes-lt2.true)

pub overflow_cast-result : goal.overflow_cast-result
overflow_cast-result c =
    let below : c.natural.result < 65536 = said_below c.args.bytes.now (λ i. omega (arith, c.type_inv.bytes i)) c.if-bytes-lt2.false c.natural.result c.natural.ensures in omega arith

pub overflow_add-result : goal.overflow_add-result
overflow_add-result c =
    let below : c.natural.result < 65536 = said_below c.args.bytes.now (λ i. omega (arith, c.type_inv.bytes i)) c.if-bytes-lt2.false c.natural.result c.natural.ensures in omega arith

pub returns-in-Number-clause-some : goal.returns-in-Number-clause-some
returns-in-Number-clause-some c =
    let is : IsWidth c.in-Number.width = subst IsShape c.in-Number.is c.requires in
    subst (λ shape. IsItemAt shape c.args.bytes.now c.from.result) (sym c.in-Number.is)
    (subst (λ len. IsItemAt (Number c.in-Number.width) c.args.bytes.now len) (sym c.from.ensures) (number_len c.in-Number.width is c.args.bytes.now (λ i. omega (arith, c.type_inv.bytes i))))

pub returns-else-bytes-lt2-clause-some : goal.returns-else-bytes-lt2-clause-some
returns-else-bytes-lt2-clause-some c =
    subst (λ shape. IsItemAt shape c.args.bytes.now (2 + c.natural.result)) (sym c.in-Text.is)
    (text_len c.args.bytes.now c.natural.result (2 + c.natural.result) (λ i. omega (arith, c.type_inv.bytes i)) c.if-bytes-lt2.false c.natural.ensures refl)
