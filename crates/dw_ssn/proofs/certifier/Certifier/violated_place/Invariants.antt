use Rattle.std.proofs.Common.{◌≡◌, ◌<◌, take}
use Rattle.std.specs.Prelude.{slice_get, option_and_then, IfSome}
use Rattle.std.specs.List.{filter}
use Rattle.dw_journal.specs.Watermarks.{least_object, written_at_low}
use Rattle.dw_ssn.specs.CommitList.{CommitList}
use Rattle.dw_ssn.specs.Summaries.{StandsFor}
use Rattle.dw_ssn.proofs.certifier.Certifier.violated_place.Given as goal

abbrev pub invariant-loop-place : goal.invariant-loop-place
invariant-loop-place l = record {
  least : (list : CommitList) → StandsFor l.self list → option_and_then (slice_get l.reads) l.least
      ≡ least_object (filter (written_at_low l.low l.snapshot list.commits) (take l.place l.reads));
  within : IfSome l.least (λ place. place < l.place);
}
