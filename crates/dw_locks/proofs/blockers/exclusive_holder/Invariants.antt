use Rattle.std.proofs.Common.{◌≡◌, ◌-◌, length}
use Rattle.std.specs.List.{find, range_with_len}
use Rattle.dw_locks.specs.LockTable.{entry_of, holds_exclusively}
use Rattle.dw_locks.proofs.blockers.exclusive_holder.Given as goal

-- none so far has it
abbrev pub invariant-loop-place : goal.invariant-loop-place
invariant-loop-place l =
    find (λ session. holds_exclusively l.table (entry_of l.entries session)) (range_with_len 0 (length l.entries))
    ≡ find (λ session. holds_exclusively l.table (entry_of l.entries session)) (range_with_len l.place (length l.entries - l.place))
