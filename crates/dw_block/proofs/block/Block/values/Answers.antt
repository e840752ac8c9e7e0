use Rattle.std.proofs.Common.{◌≡◌, ◌∙◌, ◌-◌, ◌≤◌, ap, sym, subst, length, List, ℕ, ℤ, take, drop, arith}
use Rattle.std.specs.Prelude.{All, Result, IfOk}
use Rattle.std.specs.declared.alloc.AllocError.{AllocError}
use Rattle.std.proofs.lemmas.Result.{IfOk-weaker}
use Rattle.dw_value.specs.declared.kinds.Kind.{Kind}
use Rattle.dw_value.specs.declared.kinds.Encoding.{Encoding}
use Rattle.dw_value.specs.declared.values.Value.{Value}
use Rattle.dw_codec_plain.specs.Numbers.{FitsWidth}
use Rattle.dw_codec_plain.specs.Spelling.{IsSpelling}
use Rattle.dw_block.specs.Nulls.{null_len}
use Rattle.dw_value.specs.Encodings.{width}
use Rattle.dw_block.specs.declared.zone.Zone.{Zone}
use Rattle.dw_block.specs.Blocks.{encoded_numbers, IsValueOf, IsBlockText, BlockView}
use Rattle.dw_block.specs.Stored.{Content}
use Rattle.dw_block.proofs.Reading.{few, front_within, nulls_within, numbers_spelled, texts_spelled, numbers_found, texts_found, texts_stored, each_is, few_values}
use Rattle.dw_block.proofs.block.Block.values.Goals as goal

-- the values are of the block's kind, and at most 4,096
record IsStored (block : BlockView) : Type 0 where
  pub each : All (IsValueOf block.kind) block.values
  pub few : length block.values ≤ 4096

stored : (encoding : Encoding) (kind : Kind) (count : ℕ) (bytes : List ℕ) (zone : Zone) (x : Content encoding kind count bytes zone) →
    IsStored (record { encoding = encoding; kind = kind; values = x.0 })
stored encoding kind count bytes zone x = record { each = each_is encoding kind count bytes zone x; few = few_values encoding kind count bytes zone x }

-- what is told of values that are the block's
record Told (result : Result (List Value) AllocError) (block : BlockView) : Type 0 where
  pub values : IfOk result (λ values. values ≡ block.values)
  pub each : IfOk result (λ values. All (IsValueOf block.kind) values)
  pub few : IfOk result (λ values. length values ≤ 4096)

tells : (result : Result (List Value) AllocError) (block : BlockView) → IsStored block → IfOk result (λ values. values ≡ block.values) → Told result block
tells result block is same = record {
  values = same;
  each = IfOk-weaker result _ _ (λ values e. subst (All (IsValueOf block.kind)) (sym e) is.each) same;
  few = IfOk-weaker result _ _ (λ values e. omega (arith, is.few, ap (length {A = Value}) e)) same;
}

pub null_len-requires : goal.null_len-requires
null_len-requires c = let b = c.self.inside in few b.encoding b.kind b.count b.bytes.items b.zone b.content

pub split_at-requires : goal.split_at-requires
split_at-requires c =
    let b = c.self.inside in
    omega (arith, front_within b.encoding b.kind b.count b.bytes.items b.zone b.content, c.null_len.ensures.value, ap length c.as_slice.ensures.value)

pub overflow_sub-present : goal.overflow_sub-present
overflow_sub-present c = let b = c.self.inside in nulls_within b.encoding b.kind b.count b.bytes.items b.zone b.content

pub read_numbers-requires-clause-bytes : goal.read_numbers-requires-clause-bytes
read_numbers-requires-clause-bytes c =
    let b = c.self.inside in
    let back : c.split_at.result.1.now ≡ drop (null_len b.count) b.bytes.items =
    c.split_at.ensures.back ∙ ap (λ (n : ℕ). drop n c.as_slice.result.now) c.null_len.ensures.value ∙ ap (drop (null_len b.count)) c.as_slice.ensures.value in
    subst (λ (w : ℕ). ∥ IsSpelling (encoded_numbers b.encoding w) (FitsWidth w) (b.count - b.zone.nulls) c.split_at.result.1.now ∥₁) (sym c.width.ensures.value)
    (numbers_spelled b.encoding b.kind b.count b.bytes.items b.zone b.content (sym c.takes_texts.ensures ∙ c.if-takes_texts.false) c.split_at.result.1.now back)

pub read_texts-requires-clause-bytes : goal.read_texts-requires-clause-bytes
read_texts-requires-clause-bytes c =
    let b = c.self.inside in
    let back : c.split_at.result.1.now ≡ drop (null_len b.count) b.bytes.items =
    c.split_at.ensures.back ∙ ap (λ (n : ℕ). drop n c.as_slice.result.now) c.null_len.ensures.value ∙ ap (drop (null_len b.count)) c.as_slice.ensures.value in
    texts_spelled b.encoding b.kind b.count b.bytes.items b.zone b.content (sym c.takes_texts.ensures ∙ c.if-takes_texts.true) c.split_at.result.1.now back

pub returns-in_ok-numbers : goal.returns-in_ok-numbers
returns-in_ok-numbers c =
    let b = c.self.inside in
    let front : c.split_at.result.0.now ≡ take (null_len b.count) b.bytes.items =
    c.split_at.ensures.front ∙ ap (λ (n : ℕ). take n c.as_slice.result.now) c.null_len.ensures.value ∙ ap (take (null_len b.count)) c.as_slice.ensures.value in
    let back : c.split_at.result.1.now ≡ drop (null_len b.count) b.bytes.items =
    c.split_at.ensures.back ∙ ap (λ (n : ℕ). drop n c.as_slice.result.now) c.null_len.ensures.value ∙ ap (drop (null_len b.count)) c.as_slice.ensures.value in
    let same : (others : List ℤ) → length others ≤ 4096 → All (FitsWidth (width b.kind)) others → c.split_at.result.1.now ≡ encoded_numbers b.encoding (width b.kind) others → c.in_ok-numbers.numbers.items ≡ others =
    subst (λ (w : ℕ). (others : List ℤ) → length others ≤ 4096 → All (FitsWidth w) others → c.split_at.result.1.now ≡ encoded_numbers b.encoding w others → c.in_ok-numbers.numbers.items ≡ others) c.width.ensures.value c.in_ok-numbers.ensures.same in
    let told : Told c.place_numbers.result c.args.self.now =
    tells c.place_numbers.result c.args.self.now (subst IsStored c.self.view_is (stored b.encoding b.kind b.count b.bytes.items b.zone b.content)) (IfOk-weaker c.place_numbers.result _ _ (λ found finds.
    numbers_found b.encoding b.kind b.count b.bytes.items b.zone b.content (sym c.takes_texts.ensures ∙ c.if-takes_texts.false) c.split_at.result.0.now c.split_at.result.1.now
    c.as_slice-else-takes_texts.result.now found front back (λ others few fits is. c.as_slice-else-takes_texts.ensures.value ∙ same others few fits is) finds
    ∙ ap (λ s. s.values) c.self.view_is) c.place_numbers.ensures) in
    record { values = told.values; each = told.each; few = told.few }

pub place_texts-requires-clause-stored : goal.place_texts-requires-clause-stored
place_texts-requires-clause-stored c =
    let b = c.self.inside in
    let back : c.split_at.result.1.now ≡ drop (null_len b.count) b.bytes.items =
    c.split_at.ensures.back ∙ ap (λ (n : ℕ). drop n c.as_slice.result.now) c.null_len.ensures.value ∙ ap (drop (null_len b.count)) c.as_slice.ensures.value in
    subst (All IsBlockText) (sym c.as_slice-then-takes_texts.ensures.value)
    (texts_stored b.encoding b.kind b.count b.bytes.items b.zone b.content (sym c.takes_texts.ensures ∙ c.if-takes_texts.true) c.split_at.result.1.now c.in_ok-texts.texts.items back c.in_ok-texts.ensures)

pub returns-in_ok-texts : goal.returns-in_ok-texts
returns-in_ok-texts c =
    let b = c.self.inside in
    let front : c.split_at.result.0.now ≡ take (null_len b.count) b.bytes.items =
    c.split_at.ensures.front ∙ ap (λ (n : ℕ). take n c.as_slice.result.now) c.null_len.ensures.value ∙ ap (take (null_len b.count)) c.as_slice.ensures.value in
    let back : c.split_at.result.1.now ≡ drop (null_len b.count) b.bytes.items =
    c.split_at.ensures.back ∙ ap (λ (n : ℕ). drop n c.as_slice.result.now) c.null_len.ensures.value ∙ ap (drop (null_len b.count)) c.as_slice.ensures.value in
    let told : Told c.place_texts.result c.args.self.now =
    tells c.place_texts.result c.args.self.now (subst IsStored c.self.view_is (stored b.encoding b.kind b.count b.bytes.items b.zone b.content)) (IfOk-weaker c.place_texts.result _ _ (λ found finds.
    texts_found b.encoding b.kind b.count b.bytes.items b.zone b.content (sym c.takes_texts.ensures ∙ c.if-takes_texts.true) c.split_at.result.0.now c.split_at.result.1.now
    c.as_slice-then-takes_texts.result.now found front back (λ others few fits is. c.as_slice-then-takes_texts.ensures.value ∙ c.in_ok-texts.ensures others few fits is) finds
    ∙ ap (λ s. s.values) c.self.view_is) c.place_texts.ensures) in
    record { values = told.values; each = told.each; few = told.few }
