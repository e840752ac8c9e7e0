use Rattle.std.proofs.Common.{◌≡◌, ◌&&◌, drop}
use Rattle.std.specs.List.{list_any}
use Rattle.dw_model.specs.Binding.{same_name}
use Rattle.dw_locks.specs.LockTable.{is_exclusive}
use Rattle.dw_locks.proofs.entries.have_exclusively.Given as goal

-- none so far is one
abbrev pub invariant-loop-lock : goal.invariant-loop-lock
invariant-loop-lock l =
    list_any (λ lock. same_name lock.table l.table && is_exclusive lock.mode) l.held
    ≡ list_any (λ lock. same_name lock.table l.table && is_exclusive lock.mode) (drop l.lock-index l.held)
