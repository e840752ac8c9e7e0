use Rattle.std.proofs.Common.{◌≡◌, ◌<◌, length, map}
use Rattle.std.specs.Prelude.{All}
use Rattle.std.specs.List.{range_with_len}
use Rattle.dw_locks.specs.LockTable.{table_would_wait_for}
use Rattle.dw_locks.proofs.blockers.all_waits.Given as goal

-- the sessions so far are told
abbrev pub invariant-loop-place : goal.invariant-loop-place
invariant-loop-place l = record {
  is : l.waits ≡ map (table_would_wait_for l.entries l.session l.wants) (range_with_len 0 l.place);
  within : All (All (λ other. other < length l.entries)) l.waits;
}
