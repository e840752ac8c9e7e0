use Rattle.std.proofs.Common.{◌≡◌, ◌++◌, ◌∷◌, ◌+◌, [], ℕ, ℤ, Option, None, Some, length, take, to_z, of_z, arith, sym, ap, ◌∙◌, refl, subst}
use Rattle.std.specs.Int.{w128}
use Rattle.std.proofs.lemmas.Bool.{eqb-false}
use Rattle.std.proofs.lemmas.List.{length_push}
use Rattle.dw_codec_plain.specs.Numbers.{FitsWidth}
use Rattle.dw_codec_plain.specs.Spelling.{IsItem, NoItem, IsLongestFront}
use Rattle.dw_codec_plain.proofs.Items.{last_of, last_of-push}
use Rattle.dw_codec_plain.proofs.Decoding.{decoding_goes_on, decoding_stops, decoding_trails}
use Rattle.dw_codec_plain.proofs.Forms.{width_of_step}
use Rattle.dw_codec_plain.proofs.Signed.{same_bits}
use Rattle.dw_codec_delta.specs.Delta.{delta_item}
use Rattle.dw_codec_delta.proofs.DeltaItems.{mostly_step, delta_free, last_fits, read_is}
use Rattle.dw_codec_delta.proofs.list.decode_delta.Goals as goal

pub item_front-front-requires-clause-before : goal.item_front-front-requires-clause-before
item_front-front-requires-clause-before c = λ x e.
    last_fits (FitsWidth c.args.width) None c.loop.values.items (λ y f. absurd cc) c.loop.invariant.decoding.each x (sym c.loop.invariant.last ∙ e)

pub returns-in-None-clause-fault : goal.returns-in-None-clause-fault
returns-in-None-clause-fault c =
    let is = width_of_step c.args.step (mostly_step c.args.step c.requires.step) in
    let none : NoItem (delta_item c.args.width c.args.step) (FitsWidth c.args.width) (last_of None c.loop.values.items) c.loop.rest.now =
    subst (λ o. NoItem (delta_item c.args.width c.args.step) (FitsWidth c.args.width) o c.loop.rest.now) c.loop.invariant.last c.in-None.ensures.none in
    let front : IsLongestFront (IsItem (delta_item c.args.width c.args.step) (FitsWidth c.args.width) (last_of None c.loop.values.items)) c.loop.rest.now c.item_front-front.result =
    subst (λ o. IsLongestFront (IsItem (delta_item c.args.width c.args.step) (FitsWidth c.args.width) o) c.loop.rest.now c.item_front-front.result) c.loop.invariant.last c.item_front-front.ensures in
    decoding_stops (delta_item c.args.width c.args.step) (FitsWidth c.args.width) (delta_free c.args.width c.args.step c.requires.width is) c.args.bytes.now c.loop.values.items c.loop.rest.now c.args.count
    c.item_front-front.result _ c.loop.invariant.decoding (omega arith) refl none front

pub loop-preserved : goal.loop-preserved
loop-preserved c =
    let value : ℤ = c.in-Some.value in
    let fits : FitsWidth c.args.width value = c.in-Some.ensures.fits in
    let now : Option ℤ = last_of None c.loop.values.items in
    let spells : take c.in-Some.size c.loop.rest.now ≡ delta_item c.args.width c.args.step now value =
    c.in-Some.ensures.spells ∙ ap (λ (o : Option ℤ). delta_item c.args.width c.args.step o value) c.loop.invariant.last in
    let is : c.loop.rest.now ≡ delta_item c.args.width c.args.step now value ++ c.split_at.result.1.now =
    read_is c.in-Some.size (delta_item c.args.width c.args.step now value) c.loop.rest.now c.split_at.result.1.now spells c.split_at.ensures.back in
    let bits : to_z w128 (of_z w128 value) ≡ value = same_bits c.args.width c.requires.width value fits in
    let pushed : c.push.new.self.items ≡ c.loop.values.items ++ value ∷ [] =
    c.in_ok-push-in-Some.ensures.items ∙ ap (λ (z : ℤ). c.loop.values.items ++ z ∷ []) bits in
    let final : last_of None c.push.new.self.items ≡ Some value = ap (last_of None) pushed ∙ last_of-push None c.loop.values.items value in
    record {
      decoding = rw pushed (decoding_goes_on (delta_item c.args.width c.args.step) (FitsWidth c.args.width) c.args.bytes.now c.loop.values.items c.loop.rest.now c.split_at.result.1.now value
          c.loop.invariant.decoding fits is);
      counted = rw pushed (length_push c.loop.values.items value ∙ ap (λ (n : ℕ). n + 1) c.loop.invariant.counted);
      last = ap (λ (z : ℤ). Some z) bits ∙ sym final;
    }

pub returns-then-not-is_empty-clause-fault : goal.returns-then-not-is_empty-clause-fault
returns-then-not-is_empty-clause-fault c =
    let is = width_of_step c.args.step (mostly_step c.args.step c.requires.step) in
    let some : length c.loop.rest.now ≡ 0 → ⊥ = eqb-false _ _ (sym c.is_empty.ensures ∙ c.if-not-is_empty.true) in
    decoding_trails (delta_item c.args.width c.args.step) (FitsWidth c.args.width) (delta_free c.args.width c.args.step c.requires.width is) c.args.bytes.now c.loop.values.items c.loop.rest.now c.args.count
    _ c.loop.invariant.decoding (omega arith) refl (omega arith)
