use Rattle.std.proofs.Common.{◌≡◌, drop}
use Rattle.std.specs.List.{list_any}
use Rattle.dw_journal.specs.Locks.{stands_in_way}
use Rattle.dw_locks.proofs.entries.stand_in_way.Given as goal

-- none so far stands in the way
abbrev pub invariant-loop-lock : goal.invariant-loop-lock
invariant-loop-lock l =
    list_any (λ lock. list_any (stands_in_way lock) l.wants) l.held
    ≡ list_any (λ lock. list_any (stands_in_way lock) l.wants) (drop l.lock-index l.held)
