use Rattle.std.proofs.Common.{◌≡◌, map, take}
use Rattle.dw_ssn.specs.Summaries.{newest_at}
use Rattle.dw_ssn.proofs.summaries.writers_before.Given as goal

abbrev pub invariant-loop-object : goal.invariant-loop-object
invariant-loop-object l = l.before ≡ map (λ object. (newest_at object l.objects l.stamps).writer) (take l.object-index l.writes)
