use Rattle.std.proofs.Common.{◌≡◌, ◌≤◌, ◌+◌, ◌-◌, ◌<◌, inl, inr, true, length, take, refl, sym, ◌∙◌, arith}
use Rattle.std.proofs.lemmas.Bool.{false≢true}
use Rattle.std.proofs.lemmas.List.{length-take-le}
use Rattle.dw_codec_runs.specs.DictionaryParts.{is_wide, IsExhausted}
use Rattle.dw_codec_runs.proofs.DictionaryLengths.{filled_len, unknown_head, unknown_place, exhausted_place, wide_len}
use Rattle.dw_codec_runs.proofs.dictionary_item.unknown_front.Goals as goal

pub returns-in-None : goal.returns-in-None
returns-in-None c = unknown_head c.args.shape c.requires.shape c.args.bytes.now c.args.known.now c.in-None.ensures.none c.requires.most

pub overflow_sub-len : goal.overflow_sub-len
overflow_sub-len c =
    let some : 0 < c.in-Some.len = filled_len c.args.shape c.requires.shape c.args.bytes.now c.args.known.now c.in-Some.len c.in-Some.ensures.some _ refl in omega arith

pub is_exhausted-requires : goal.is_exhausted-requires
is_exhausted-requires c =
    let some : 0 < c.in-Some.len = filled_len c.args.shape c.requires.shape c.args.bytes.now c.args.known.now c.in-Some.len c.in-Some.ensures.some _ refl in
    omega (arith, some, length-take-le c.min-front.result c.args.bytes.now (omega arith))

pub overflow_sub-result : goal.overflow_sub-result
overflow_sub-result c =
    let ex : IsExhausted c.args.shape c.args.known.now c.in-Some.len (take c.min-front.result c.args.bytes.now) = c.is_exhausted.ensures.0 c.if-is_exhausted.true in
    let wide : is_wide c.args.shape ≡ true = elim c.requires.room [ inl few ↦ absurd (let full : 256 ≤ length c.args.known.now = ex.full in omega arith) | inr wide ↦ wide ] in
    let two : 2 ≤ c.in-Some.len = wide_len c.args.shape c.args.bytes.now c.in-Some.len c.requires.shape c.in-Some.ensures.some wide in
    let last : length (take c.min-front.result c.args.bytes.now) + 1 ≡ c.in-Some.len = ex.last in
    omega (arith, two, last, length-take-le c.min-front.result c.args.bytes.now (omega arith))

pub returns-then-is_exhausted : goal.returns-then-is_exhausted
returns-then-is_exhausted c =
    let ex : IsExhausted c.args.shape c.args.known.now c.in-Some.len (take c.min-front.result c.args.bytes.now) = c.is_exhausted.ensures.0 c.if-is_exhausted.true in
    let some : 1 ≤ c.min-front.result = overflow_sub-result c in
    exhausted_place c.args.shape c.requires.shape c.args.bytes.now c.args.known.now c.in-Some.len c.in-Some.ensures.some c.min-front.result c.min-front.ensures c.requires.none
    (c.min-front.result - 1) (omega arith) c.requires.most c.requires.new c.requires.each ex

pub returns-else-is_exhausted : goal.returns-else-is_exhausted
returns-else-is_exhausted c =
    unknown_place c.args.shape c.requires.shape c.args.bytes.now c.args.known.now c.in-Some.len c.in-Some.ensures.some c.min-front.result c.min-front.ensures c.requires.none c.requires.most
    (λ ex. false≢true (sym c.if-is_exhausted.false ∙ c.is_exhausted.ensures.1 ex))
