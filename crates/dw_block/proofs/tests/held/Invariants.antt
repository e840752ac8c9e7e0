-- The values so far are of the kind.
use Rattle.std.specs.Prelude.{All}
use Rattle.dw_block.specs.Blocks.{IsValueOf}
use Rattle.dw_block.proofs.tests.held.Given as goal

abbrev pub invariant-loop-value : goal.invariant-loop-value
invariant-loop-value l = All (IsValueOf l.fn.kind) l.values
