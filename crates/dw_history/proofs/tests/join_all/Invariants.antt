use Rattle.std.proofs.Common.{◌≡◌, ◌+◌, length, All, vec_len}
use Rattle.dw_history.specs.Calls.{known, IsPassOf}
use Rattle.dw_history.proofs.tests.join_all.Given as goal

abbrev pub invariant-loop-job : goal.invariant-loop-job
invariant-loop-job l =
    IsPassOf (λ diary. tt) l.kept l.first × ((known l.first).number ≡ 0) × ((known l.first).made ≡ vec_len l.jobs + length (known l.first).joined + 1) × All (λ job. IsPassOf (λ diary. tt) l.kept job.pass × ((known job.pass).number ≡ job.number)) l.jobs.items

abbrev pub decreases-loop-job : goal.decreases-loop-job
decreases-loop-job l = vec_len l.jobs
