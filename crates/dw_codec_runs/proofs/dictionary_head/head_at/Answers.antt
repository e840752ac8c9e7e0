use Rattle.std.proofs.Common.{◌≡◌, ℕ, take, sym, ap, ◌∙◌, arith}
use Rattle.std.proofs.lemmas.Bool.{false≢true}
use Rattle.dw_codec_plain.specs.Numbers.{low_bytes}
use Rattle.dw_codec_runs.specs.DictionaryParts.{IsHead, IsShortHead, NoneFirst}
use Rattle.dw_codec_runs.proofs.DictionaryReady.{two_bytes, head_none, head_short}
use Rattle.dw_codec_runs.proofs.dictionary_head.head_at.Goals as goal

pub returns-then-bytes-lt2-clause-none : goal.returns-then-bytes-lt2-clause-none
returns-then-bytes-lt2-clause-none c = head_short c.args.wide c.args.count c.args.bytes.now c.if-bytes-lt2.true

pub returns-then-bytes-lt2-clause-front : goal.returns-then-bytes-lt2-clause-front
returns-then-bytes-lt2-clause-front c = c.head_front.ensures c.args.wide (head_short c.args.wide c.args.count c.args.bytes.now c.if-bytes-lt2.true)

pub returns-then-is_number-clause-head : goal.returns-then-is_number-clause-head
returns-then-is_number-clause-head c =
    let n : ℕ = c.natural-number.result in
    let is : low_bytes 2 n ≡ take 2 c.args.bytes.now = two_bytes c.args.bytes.now n (λ i. omega (arith, c.type_inv.bytes i)) c.if-bytes-lt2.false c.natural-number.ensures in
    let head : IsShortHead c.args.count n (low_bytes 2 n) = c.is_number.ensures.0 c.if-is_number.true in
    record { most = head.most; enough = head.enough; some = head.some; is = sym is }

pub returns-then-is_sign-clause-head : goal.returns-then-is_sign-clause-head
returns-then-is_sign-clause-head c =
    let n : ℕ = c.natural-number.result in
    let is : low_bytes 2 n ≡ take 2 c.args.bytes.now = two_bytes c.args.bytes.now n (λ i. omega (arith, c.type_inv.bytes i)) c.if-bytes-lt2.false c.natural-number.ensures in
    let sign = c.is_sign.ensures.0 c.if-is_sign.true in
    record { room = sign.0; enough = sign.1; is = sym is ∙ ap (λ (k : ℕ). low_bytes 2 k) sign.2 }

none_first : (c : goal.After-head_front-2) → NoneFirst (IsHead c.args.wide c.args.count) c.args.bytes.now
none_first c =
    head_none c.args.wide c.args.count c.args.bytes.now c.natural-number.result c.natural-number.ensures
    (λ head. false≢true (sym c.if-is_number.false ∙ c.is_number.ensures.1 head))
    (λ sign. false≢true (sym c.if-is_sign.false ∙ c.is_sign.ensures.1 sign))

pub returns-clause-none : goal.returns-clause-none
returns-clause-none c = none_first c

pub returns-clause-front : goal.returns-clause-front
returns-clause-front c = c.head_front-2.ensures c.args.wide (none_first c)
