-- The rows of the changes that the loop has passed.
use Rattle.std.proofs.Common.{◌≡◌, take}
use Rattle.dw_journal.specs.Contents.{added_by}
use Rattle.dw_commit.proofs.installing.rows_added.Given as goal

abbrev pub invariant-loop-change : goal.invariant-loop-change
invariant-loop-change l = l.rows ≡ added_by (take l.change-index l.changes) l.name
