use Rattle.std.proofs.Common.{◌≡◌, ◌<◌, length}
use Rattle.std.specs.Prelude.{All}
use Rattle.std.specs.List.{filter, range_with_len}
use Rattle.dw_locks.specs.LockTable.{is_blocker}
use Rattle.dw_locks.proofs.blockers.blockers.Given as goal

-- those so far are told
abbrev pub invariant-loop-place : goal.invariant-loop-place
invariant-loop-place l = record {
  is : l.holders ≡ filter (is_blocker l.entries l.session l.wants) (range_with_len 0 l.place);
  within : All (λ other. other < length l.entries) l.holders;
}
