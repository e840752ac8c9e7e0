use Rattle.std.proofs.Common.{◌∙◌, ◌++◌, ◌∷◌, ◌+◌, [], ℕ, List, sym, ap, subst, refl}
use Rattle.dw_value.specs.declared.values.Value.{Value}
use Rattle.dw_value.specs.declared.values.Value.TheVariants.{Words, Null}
use Rattle.dw_block.specs.Blocks.{text_in}
use Rattle.dw_block.proofs.Places.{IsFound, null_place, item_place, no_item, some_text}
use Rattle.dw_block.proofs.placing.place_texts.Goals as goal

pub loop-place-preserved-then-bit_at : goal.loop-place-preserved-then-bit_at
loop-place-preserved-then-bit_at c =
    let next : IsFound text_in c.args.kind c.args.nulls.now c.args.texts.now c.args.count (c.loop-place.place + 1) c.loop-place.next (c.loop-place.values ++ Null ∷ []) =
    null_place text_in Words c.args.kind (some_text c.args.kind c.requires.kind) refl c.args.nulls.now c.args.texts.now c.args.count
    c.loop-place.place c.loop-place.next c.loop-place.values c.loop-place-test.true (sym c.bit_at.ensures ∙ c.if-bit_at.true) c.loop-place.invariant in
    subst (λ (l : List Value). IsFound text_in c.args.kind c.args.nulls.now c.args.texts.now c.args.count (c.loop-place.place + 1) c.loop-place.next l) (sym c.in_ok-push.ensures.ok) next

pub returns-then-next-texts : goal.returns-then-next-texts
returns-then-next-texts c = λ values placed.
    absurd (no_item text_in Words c.args.kind (some_text c.args.kind c.requires.kind) refl c.args.nulls.now c.args.texts.now c.args.count
    c.loop-place.place c.loop-place.next c.loop-place.values c.loop-place-test.true (sym c.bit_at.ensures ∙ c.if-bit_at.false) c.if-next-texts.true c.loop-place.invariant values placed)

pub loop-place-preserved : goal.loop-place-preserved
loop-place-preserved c =
    let text : List ℕ = c.index-texts-next.result in
    let next : IsFound text_in c.args.kind c.args.nulls.now c.args.texts.now c.args.count (c.loop-place.place + 1) (c.loop-place.next + 1) (c.loop-place.values ++ Words text ∷ []) =
    item_place text_in Words c.args.kind (some_text c.args.kind c.requires.kind) refl c.args.nulls.now c.args.texts.now c.args.count
    c.loop-place.place c.loop-place.next c.loop-place.values text c.loop-place-test.true (sym c.bit_at.ensures ∙ c.if-bit_at.false) c.if-next-texts.false c.index-texts-next.is c.loop-place.invariant in
    subst (λ (l : List Value). IsFound text_in c.args.kind c.args.nulls.now c.args.texts.now c.args.count (c.loop-place.place + 1) (c.loop-place.next + 1) l)
    (sym (c.in_ok-push-2.ensures.ok ∙ ap (λ (v : Value). c.loop-place.values ++ v ∷ []) c.in_ok-text_of.ensures)) next
