use Rattle.std.proofs.Common.{◌≡◌}
use Rattle.dw_locks.specs.Walks.{waits_in, reached_level}
use Rattle.dw_locks.proofs.cycles.lowest_level.Given as goal

-- the sessions so far are told
abbrev pub invariant-loop-ones : goal.invariant-loop-ones
invariant-loop-ones l = l.level ≡ reached_level (waits_in l.waits) l.session l.ones-index 0
