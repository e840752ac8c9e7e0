use Rattle.std.proofs.Common.{◌≡◌, ◌+◌, ◌≤◌, [], All, vec_len}
use Rattle.dw_history.specs.Calls.{known, most_passes, IsPassOf}
use Rattle.dw_history.proofs.tests.split_all.Given as goal

abbrev pub invariant-loop-number : goal.invariant-loop-number
invariant-loop-number l =
    IsPassOf (λ diary. tt) l.kept l.first × ((known l.first).number ≡ 0) × ((known l.first).made ≡ l.number) × ((known l.first).joined ≡ []) × (vec_len l.jobs + 1 ≡ l.number) × (l.count ≤ most_passes l.kept) × All (λ job. IsPassOf (λ diary. tt) l.kept job.pass × ((known job.pass).number ≡ job.number)) l.jobs.items
