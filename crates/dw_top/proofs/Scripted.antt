-- A run of the same scripts under the same moves.
use Rattle.std.proofs.Common.{◌≡◌, ℕ, List, subst}
use Rattle.std.specs.Prelude.{Result, IfOk}
use Rattle.std.specs.Prelude.{Ok as Had, Err as Refused}
use Rattle.dw_journal.specs.declared.Journal.{Journal}
use Rattle.dw_journal.specs.declared.World.{World}
use Rattle.dw_journal.specs.Driven.{Move}
use Rattle.dw_print.specs.Report.{report}
use Rattle.dw_top.specs.Run.{IsPrintedRun}

-- a run of the same scripts under the same moves
pub run_same : {E : Type 0} (result : Result (List ℕ) E) (world same : World) (moves alike : List Move) → world ≡ same → moves ≡ alike
    → IfOk result (λ bytes. (journal : Journal) × IsPrintedRun world moves journal × (bytes ≡ report world journal))
    → IfOk result (λ bytes. (journal : Journal) × IsPrintedRun same alike journal × (bytes ≡ report same journal))
run_same (Refused error) world same moves alike are go run = tt
run_same (Had bytes) world same moves alike are go run = (
  run.0,
  subst (λ (moves : List Move). IsPrintedRun same moves run.0) go (subst (λ (world : World). IsPrintedRun world moves run.0) are run.1),
  subst (λ (world : World). bytes ≡ report world run.0) are run.2,
)
