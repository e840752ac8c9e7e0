-- The rows with copies of those that the loop has passed.
use Rattle.std.proofs.Common.{◌≡◌, ◌++◌, take}
use Rattle.dw_commit.proofs.installing.add_copies.Given as goal

abbrev pub invariant-loop-row : goal.invariant-loop-row
invariant-loop-row l = l.rows ≡ l.fn.rows ++ take l.row-index l.more
