use Rattle.std.proofs.Common.{◌≡◌, ◌∙◌, ◌++◌, ◌∷◌, ◌+◌, ◌<◌, [], ℕ, zero, suc, length, arith, ℤ, pos, List, get_or, sym, ap, subst, refl}
use Rattle.std.proofs.lemmas.List.Elements.{All-get_or}
use Rattle.dw_value.specs.declared.values.Value.{Value}
use Rattle.dw_value.specs.declared.values.Value.TheVariants.{Null}
use Rattle.dw_codec_plain.specs.Numbers.{FitsWidth}
use Rattle.dw_codec_plain.proofs.Signed.{same_bits}
use Rattle.dw_value.specs.Encodings.{width}
use Rattle.dw_block.specs.Blocks.{number_in, value_of}
use Rattle.dw_block.proofs.Forms.{IsWidth-width}
use Rattle.dw_block.proofs.Places.{IsFound, null_place, item_place, no_item, some_number}
use Rattle.dw_block.proofs.placing.place_numbers.Goals as goal

get_or_default : (l : List ℤ) (i : ℕ) (d e : ℤ) → i < length l → get_or l i d ≡ get_or l i e
get_or_default [] i d e lt = absurd (omega arith)
get_or_default (x ∷ xs) zero d e lt = refl
get_or_default (x ∷ xs) (suc i) d e lt = get_or_default xs i d e (omega arith)

pub loop-place-preserved-then-bit_at : goal.loop-place-preserved-then-bit_at
loop-place-preserved-then-bit_at c =
    let next : IsFound number_in c.args.kind c.args.nulls.now c.args.numbers.now c.args.count (c.loop-place.place + 1) c.loop-place.next (c.loop-place.values ++ Null ∷ []) =
    null_place number_in (value_of c.args.kind) c.args.kind (some_number c.args.kind c.requires.kind) refl c.args.nulls.now c.args.numbers.now c.args.count
    c.loop-place.place c.loop-place.next c.loop-place.values c.loop-place-test.true (sym c.bit_at.ensures ∙ c.if-bit_at.true) c.loop-place.invariant in
    subst (λ (l : List Value). IsFound number_in c.args.kind c.args.nulls.now c.args.numbers.now c.args.count (c.loop-place.place + 1) c.loop-place.next l) (sym c.in_ok-push.ensures.ok) next

pub returns-then-next-numbers : goal.returns-then-next-numbers
returns-then-next-numbers c = λ values placed.
    absurd (no_item number_in (value_of c.args.kind) c.args.kind (some_number c.args.kind c.requires.kind) refl c.args.nulls.now c.args.numbers.now c.args.count
    c.loop-place.place c.loop-place.next c.loop-place.values c.loop-place-test.true (sym c.bit_at.ensures ∙ c.if-bit_at.false) c.if-next-numbers.true c.loop-place.invariant values placed)

pub loop-place-preserved : goal.loop-place-preserved
loop-place-preserved c =
    let number : ℤ = get_or c.args.numbers.now c.loop-place.next (pos 0) in
    let fits : FitsWidth (width c.args.kind) number = All-get_or (FitsWidth (width c.args.kind)) c.args.numbers.now c.loop-place.next (pos 0) c.if-next-numbers.false c.requires.fit in
    let is : c.value_of.result ≡ value_of c.args.kind number =
    c.value_of.ensures ∙ ap (value_of c.args.kind) (same_bits (width c.args.kind) (IsWidth-width c.args.kind) number fits) in
    let next : IsFound number_in c.args.kind c.args.nulls.now c.args.numbers.now c.args.count (c.loop-place.place + 1) (c.loop-place.next + 1) (c.loop-place.values ++ value_of c.args.kind number ∷ []) =
    item_place number_in (value_of c.args.kind) c.args.kind (some_number c.args.kind c.requires.kind) refl c.args.nulls.now c.args.numbers.now c.args.count
    c.loop-place.place c.loop-place.next c.loop-place.values number c.loop-place-test.true (sym c.bit_at.ensures ∙ c.if-bit_at.false) c.if-next-numbers.false (get_or_default c.args.numbers.now c.loop-place.next (pos 0) number c.if-next-numbers.false) c.loop-place.invariant in
    subst (λ (l : List Value). IsFound number_in c.args.kind c.args.nulls.now c.args.numbers.now c.args.count (c.loop-place.place + 1) (c.loop-place.next + 1) l)
    (sym (c.in_ok-push-2.ensures.ok ∙ ap (λ (v : Value). c.loop-place.values ++ v ∷ []) is)) next
