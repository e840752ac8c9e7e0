use Rattle.std.proofs.Common.{◌≡◌, drop}
use Rattle.std.specs.List.{list_any}
use Rattle.dw_locks.specs.LockTable.{same_lock}
use Rattle.dw_locks.proofs.entries.is_held.Given as goal

-- none so far is it
abbrev pub invariant-loop-lock : goal.invariant-loop-lock
invariant-loop-lock l = list_any (same_lock l.want) l.held ≡ list_any (same_lock l.want) (drop l.lock-index l.held)
