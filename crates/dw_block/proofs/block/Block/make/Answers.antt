use Rattle.std.proofs.Common.{◌≡◌, ◌∙◌, ◌++◌, ◌≤◌, refl, ap, sym, subst, arith, length, List, ℕ}
use Rattle.std.specs.Prelude.{All}
use Rattle.dw_value.specs.declared.kinds.Kind.{Kind}
use Rattle.dw_value.specs.declared.kinds.Encoding.{Encoding}
use Rattle.dw_block.specs.declared.zone.Zone.{Zone}
use Rattle.dw_value.specs.declared.values.Value.{Value}
use Rattle.dw_block.specs.Zones.{zone_of}
use Rattle.dw_block.specs.Nulls.{null_bits}
use Rattle.dw_block.specs.Blocks.{items_bytes, IsValueOf}
use Rattle.dw_block.specs.Stored.{Spells, IsSpelled}
use Rattle.dw_block.proofs.Reading.{content_is}
use Rattle.dw_block.proofs.SameBytes.{unique}
use Rattle.dw_block.proofs.block.Block.make.Goals as goal

-- what the parts of the block spell
made : (encoding : Encoding) (kind : Kind) (given slice : List Value) (nulls items slice_items bytes : List ℕ) (zone : Zone) → slice ≡ given → length given ≤ 4096 → All (IsValueOf kind) given → IsSpelled kind slice
    → nulls ≡ null_bits slice → items ≡ items_bytes encoding kind slice → slice_items ≡ items → bytes ≡ nulls ++ slice_items → zone ≡ zone_of slice → Spells encoding kind (length slice) bytes zone slice
made encoding kind given slice nulls items slice_items bytes zone same few each spelled a b c d z = record {
  counted = refl;
  few = omega (arith, few, ap length same);
  each = subst (All (IsValueOf kind)) (sym same) each;
  spelled = spelled;
  bytes_are = d ∙ ap (λ (l : List ℕ). l ++ slice_items) a ∙ ap (λ (l : List ℕ). null_bits slice ++ l) (c ∙ b);
  zone_is = z;
}

pub invariant_of-result : goal.invariant_of-result
invariant_of-result c =
    let spells : Spells c.args.encoding c.args.kind (length c.as_slice-values.result.now) c.extend_from_slice.new.self.items c.in_ok-zone.zone c.as_slice-values.result.now =
    made c.args.encoding c.args.kind c.args.values.now c.as_slice-values.result.now c.in_ok-bytes.bytes.items c.in_ok-items.items.items c.as_slice.result.now
    c.extend_from_slice.new.self.items c.in_ok-zone.zone c.as_slice-values.ensures.items c.requires.few c.requires.each c.in_ok-items.ensures.spelled c.in_ok-bytes.ensures c.in_ok-items.ensures.bytes
    c.as_slice.ensures.value c.in_ok-extend_from_slice.ensures.items c.in_ok-zone.ensures in (
      (
        c.as_slice-values.result.now,
        record { spells = ∣ spells ∣₁; only = λ others other. unique _ _ _ _ _ others _ other spells },
      ),
      tt,
    )

pub returns-clause-values : goal.returns-clause-values
returns-clause-values c =
    content_is c.args.encoding c.args.kind (length c.as_slice-values.result.now) c.extend_from_slice.new.self.items c.in_ok-zone.zone c.result-1.given.0 c.as_slice-values.result.now
    (made c.args.encoding c.args.kind c.args.values.now c.as_slice-values.result.now c.in_ok-bytes.bytes.items c.in_ok-items.items.items c.as_slice.result.now
    c.extend_from_slice.new.self.items c.in_ok-zone.zone c.as_slice-values.ensures.items c.requires.few c.requires.each c.in_ok-items.ensures.spelled c.in_ok-bytes.ensures c.in_ok-items.ensures.bytes
    c.as_slice.ensures.value c.in_ok-extend_from_slice.ensures.items c.in_ok-zone.ensures)
    ∙ c.as_slice-values.ensures.items
