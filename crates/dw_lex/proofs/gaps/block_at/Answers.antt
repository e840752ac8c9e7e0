use Rattle.std.proofs.Common.{◌≡◌, ℕ, ◌+◌, ◌-◌, Some, drop, sym, ap, ◌∙◌, arith}
use Rattle.dw_lex.specs.Gaps.{blocks_end}
use Rattle.dw_lex.proofs.BlockLemmas.{ends_step, opens_step, other_step, never_ended}
use Rattle.dw_lex.proofs.gaps.block_at.Goals as goal

pub returns-then-blocks-eq1-clause-end : goal.returns-then-blocks-eq1-clause-end
returns-then-blocks-eq1-clause-end c =
    let bytes = c.args.inside.now in
    let at = c.loop-at.at in
    let step = ends_step bytes at c.loop-at.blocks c.loop-at-test.true c.loop-at.invariant.some (sym c.if-ends_block.ensures) in
    let none : c.loop-at.blocks - 1 ≡ 0 = omega arith in
    let place : at + 4 ≡ at + 2 + 2 = omega arith in
    ap (λ (n : ℕ). Some n) place
    ∙ ap (λ (k : ℕ). blocks_end k (drop (at + 2) bytes) (at + 2 + 2)) (sym none)
    ∙ sym step
    ∙ c.loop-at.invariant.here

pub loop-at-preserved-then-ends_block : goal.loop-at-preserved-then-ends_block
loop-at-preserved-then-ends_block c =
    let step = ends_step c.args.inside.now c.loop-at.at c.loop-at.blocks c.loop-at-test.true c.loop-at.invariant.some (sym c.if-ends_block.ensures) in
    record {
      here = sym step ∙ c.loop-at.invariant.here;
      some = omega arith;
      few = omega arith;
      within = omega arith;
    }

pub loop-at-preserved-then-begins_block : goal.loop-at-preserved-then-begins_block
loop-at-preserved-then-begins_block c =
    let step = opens_step c.args.inside.now c.loop-at.at c.loop-at.blocks c.loop-at-test.true c.loop-at.invariant.some (sym c.if-ends_block.ensures) (sym c.if-begins_block.ensures) in
    record {
      here = sym step ∙ c.loop-at.invariant.here;
      some = omega arith;
      few = omega arith;
      within = omega arith;
    }

pub loop-at-preserved : goal.loop-at-preserved
loop-at-preserved c =
    let step = other_step c.args.inside.now c.loop-at.at c.loop-at.blocks c.loop-at-test.true c.loop-at.invariant.some (sym c.if-ends_block.ensures) (sym c.if-begins_block.ensures) in
    record {
      here = sym step ∙ c.loop-at.invariant.here;
      some = omega arith;
      few = omega arith;
      within = omega arith;
    }

pub returns-clause-end : goal.returns-clause-end
returns-clause-end c =
    sym (never_ended c.args.inside.now c.loop-at.at c.loop-at.blocks c.loop-at-test.false c.loop-at.invariant.some) ∙ c.loop-at.invariant.here
