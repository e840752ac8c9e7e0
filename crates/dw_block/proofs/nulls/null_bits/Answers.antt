use Rattle.std.proofs.Common.{◌≡◌, ◌-◌, ◌+◌, suc, length, arith, ap, ◌++◌, ◌∷◌, [], ℕ, ◌∙◌}
use Rattle.dw_block.specs.Nulls.{null_len, null_bits}
use Rattle.dw_block.proofs.NullBits.{bytes_step}
use Rattle.dw_block.proofs.nulls.null_bits.Goals as goal

pub loop-preserved : goal.loop-preserved
loop-preserved c =
    let n : ℕ = null_len (length c.args.values.now) in
    let next : n - c.loop.counter ≡ suc (n - (c.loop.counter + 1)) = omega (arith, c.null_len-len.ensures.value) in
    bytes_step (n - c.loop.counter) (n - (c.loop.counter + 1)) c.min.result c.loop.rest.now c.split_at.result.0.now c.split_at.result.1.now (null_bits c.args.values.now) c.loop.bytes.items c.push.new.self.items
    c.loop.invariant next (omega arith) c.split_at.ensures.front c.split_at.ensures.back
    (c.in_ok-push.ensures.items ∙ ap (λ (n : ℕ). c.loop.bytes.items ++ n ∷ []) c.null_byte.ensures)
