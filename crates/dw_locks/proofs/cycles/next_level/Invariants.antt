use Rattle.std.proofs.Common.{◌≡◌, map, get_or, false}
use Rattle.std.specs.List.{list_any, range_with_len}
use Rattle.dw_locks.specs.Walks.{waits_in}
use Rattle.dw_locks.proofs.cycles.next_level.Given as goal

-- the sessions so far are told
abbrev pub invariant-loop-ones : goal.invariant-loop-ones
invariant-loop-ones l =
    l.level ≡ map (λ from. list_any (λ one. get_or l.fewer one false) (waits_in l.waits from)) (range_with_len 0 l.ones-index)
