-- Commits are seen whole.
use Rattle.dw_slice.proofs.Seen.{seen_before, seen_after}
use Rattle.dw_slice.proofs.laws.snapshots_see_whole_commits.Goals as goal

pub returns-clause-before : goal.returns-clause-before
returns-clause-before c = seen_before

pub returns-clause-after : goal.returns-clause-after
returns-clause-after c = seen_after
