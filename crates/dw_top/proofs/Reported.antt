-- What a run's report tells of.
use Rattle.std.proofs.Common.{◌≡◌, ℕ, List, map, ap, ◌∙◌}
use Rattle.std.specs.Prelude.{Result, Ok, Err, IfOk}
use Rattle.dw_model.specs.Databases.{Tables}
use Rattle.dw_journal.specs.declared.Journal.{Journal}
use Rattle.dw_journal.specs.declared.World.{World}
use Rattle.dw_journal.specs.Shapes.{standard_shape}
use Rattle.dw_journal.specs.Worlds.{session_count}
use Rattle.dw_journal.specs.History.{history_of}
use Rattle.dw_journal.specs.Contents.{contents}
use Rattle.dw_journal.specs.Serial.{serial_order}
use Rattle.dw_journal.specs.Legal.{IsLegal}
use Rattle.dw_journal.specs.Driven.{Move, IsDriven}
use Rattle.dw_journal.proofs.StepLemmas.{EachFollows-steps, EachIsLegal-steps}
use Rattle.dw_serial.proofs.Theorem.{legal_serial}
use Rattle.dw_print.specs.Report.{report, report_of}
use Rattle.dw_print.specs.Typed.{IsOfTypes}
use Rattle.dw_top.specs.Run.{IsRun, IsPrintedRun}

-- a journal that arises from the moves is legal, follows from the scripts and is serial
pub run_driven : (world : World) (moves : List Move) (journal : Journal) → journal.shape ≡ standard_shape (session_count world)
    → IsDriven world moves journal → IsRun world moves journal
run_driven world moves journal shape driven =
    let legal : IsLegal world journal = record {
      follows = EachFollows-steps journal.shape world driven.steps;
      legal = EachIsLegal-steps journal.shape world driven.steps;
    } in
    record {
      shape = shape;
      driven = driven;
      legal = legal;
      follows = record {
        each = EachFollows-steps journal.shape world driven.steps;
        sessions = ap (λ shape. shape.sessions) shape;
        ends = driven.ends;
      };
      serial = legal_serial world journal legal;
    }

-- the text of the journal beside the committed tables and the stamps in serial order is its report, and what is printed is of types
pub reported : {E : Type 0} (world : World) (moves : List Move) (journal : Journal) (tables : Tables) (stamps : List ℕ) (result : Result (List ℕ) E)
    → IsRun world moves journal → tables ≡ contents (history_of world journal) → stamps ≡ map (λ transaction. transaction.stamp) (serial_order journal)
    → IfOk result (λ bytes. bytes ≡ report_of journal tables stamps) → IfOk result (λ bytes. IsOfTypes journal)
    → IfOk result (λ bytes. (journal : Journal) × IsPrintedRun world moves journal × (bytes ≡ report world journal))
reported world moves journal tables stamps (Ok bytes) run committed ordered is types = (
  journal,
  record { run = run; types = types },
  is ∙ ap (λ tables. report_of journal tables stamps) committed ∙ ap (λ stamps. report_of journal (contents (history_of world journal)) stamps) ordered,
)
reported world moves journal tables stamps (Err error) run committed ordered is types = tt
