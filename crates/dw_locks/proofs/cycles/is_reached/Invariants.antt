use Rattle.std.proofs.Common.{◌≡◌, drop, get_or, false}
use Rattle.std.specs.List.{list_any}
use Rattle.dw_locks.proofs.cycles.is_reached.Given as goal

-- none so far is reached
abbrev pub invariant-loop-one : goal.invariant-loop-one
invariant-loop-one l =
    list_any (λ one. get_or l.level one false) l.ones ≡ list_any (λ one. get_or l.level one false) (drop l.one-index l.ones)
