use Rattle.std.proofs.Common.{◌≡◌, ◌≤◌, ◌<◌, None, length, take, drop, arith, ap, ◌∙◌, subst, sym}
use Rattle.dw_codec_plain.specs.Numbers.{natural_of}
use Rattle.dw_codec_plain.specs.Encodings.{IsText}
use Rattle.dw_codec_plain.proofs.TextItems.{text_front_short, text_front_cut, text_read}
use Rattle.dw_codec_plain.proofs.texts.text_at.Goals as goal

pub returns-then-bytes-lt2-clause-front : goal.returns-then-bytes-lt2-clause-front
returns-then-bytes-lt2-clause-front c = text_front_short None c.args.bytes.now (λ i. omega (arith, c.type_inv.bytes i)) c.if-bytes-lt2.true

pub returns-then-tail-len-clause-front : goal.returns-then-tail-len-clause-front
returns-then-tail-len-clause-front c =
    let is : c.natural-len.result ≡ natural_of (take 2 c.args.bytes.now) = c.natural-len.ensures ∙ ap natural_of c.split_at.ensures.front in
    text_front_cut c.args.bytes.now (λ i. omega (arith, c.type_inv.bytes i)) c.if-bytes-lt2.false c.natural-len.result is None
    (let cut : length c.split_at.result.1.now < c.natural-len.result = omega arith in omega (arith, cut, ap length c.split_at.ensures.back))

pub returns-clause-text : goal.returns-clause-text
returns-clause-text c =
    let is : c.natural-len.result ≡ natural_of (take 2 c.args.bytes.now) = c.natural-len.ensures ∙ ap natural_of c.split_at.ensures.front in
    let r = text_read c.args.bytes.now (λ i. omega (arith, c.type_inv.bytes i)) c.if-bytes-lt2.false c.natural-len.result is
    (let cut : c.natural-len.result ≤ length c.split_at.result.1.now = omega arith in omega (arith, cut, ap length c.split_at.ensures.back)) in
    let e : c.split_at-2.result.0.now ≡ take c.natural-len.result (drop 2 c.args.bytes.now) = c.split_at-2.ensures.front ∙ ap (take c.natural-len.result) c.split_at.ensures.back in
    subst IsText (sym e) r.0
