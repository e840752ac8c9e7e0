use Rattle.std.proofs.Common.{◌≡◌, ◌<◌, ◌^◌, ◌+◌, ◌*◌, take, sym, ◌∙◌, true, false}
use Rattle.dw_block.specs.Nulls.{null_number}
use Rattle.dw_block.proofs.NullBits.{null_step}
use Rattle.dw_block.proofs.nulls.null_byte.Goals as goal
use Rattle.dw_block.proofs.nulls.null_byte.Goals.{then-is_null, else-is_null}

pub loop-value-preserved : goal.loop-value-preserved
loop-value-preserved c =
    let r : (c.if-is_null.byte ≡ null_number (take (c.loop-value.value-index + 1) c.args.values.now)) × (c.loop-value.weight * 2 ≡ 2 ^ (c.loop-value.value-index + 1)) × (c.if-is_null.byte < c.loop-value.weight * 2) =
    elim c.if-is_null.branch [
      | then-is_null w ↦
          null_step c.args.values.now c.loop-value.value-index c.value-item.result c.loop-value.byte c.loop-value.weight c.if-is_null.byte true c.loop-value-test.true c.value-item.is
          (sym c.is_null.ensures ∙ w.if-is_null.true) c.loop-value.invariant.bits c.loop-value.invariant.weight c.loop-value.invariant.below w.byte-is
      | else-is_null w ↦
          null_step c.args.values.now c.loop-value.value-index c.value-item.result c.loop-value.byte c.loop-value.weight c.if-is_null.byte false c.loop-value-test.true c.value-item.is
          (sym c.is_null.ensures ∙ w.if-is_null.false) c.loop-value.invariant.bits c.loop-value.invariant.weight c.loop-value.invariant.below w.byte-is
    ] in
    record { bits = r.0; weight = r.1; below = r.2 }
