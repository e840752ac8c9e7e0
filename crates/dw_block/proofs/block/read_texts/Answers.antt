use mathlib.Core.Logic.{∥∥₁_elim}
use Rattle.dw_block.proofs.block.read_texts.Goals as goal

pub unreachable-requires : goal.unreachable-requires
unreachable-requires c =
    let fault = rw c.in-Err-Damaged.field-0-is at c.in-Err-Damaged.ensures.fault in
    ∥∥₁_elim c.requires.bytes (λ x y. absurd x) (λ s. fault.spells_none s)
