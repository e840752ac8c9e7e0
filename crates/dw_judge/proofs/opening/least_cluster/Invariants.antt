-- The least of the clusters that are left is the least of all.
use Rattle.std.proofs.Common.{◌≡◌, ◌+◌, ◌-◌}
use Rattle.std.specs.List.{find, range_with_len}
use Rattle.dw_judge.specs.Judging.{takes_kept}
use Rattle.dw_judge.proofs.opening.least_cluster.Given as goal

abbrev pub invariant-loop-before : goal.invariant-loop-before
invariant-loop-before l =
    find (takes_kept l.events l.sessions l.stamps l.slots l.snapshot) (range_with_len (l.before + 1) (l.clusters - l.before))
    ≡ find (takes_kept l.events l.sessions l.stamps l.slots l.snapshot) (range_with_len 1 l.clusters)
