-- Which words name a right report, beside its scripts.
use Rattle.std.specs.Prelude.{◌≡◌, ℕ, List, length, map, zip, Some, None}
use Rattle.std.specs.Prelude.{Ok as Had}
use Rattle.dw_io.specs.Outside.{Held}
use Rattle.dw_journal.specs.declared.Journal.{Journal}
use Rattle.dw_journal.specs.declared.World.{World}
use Rattle.dw_journal.specs.Follows.{Follows}
use Rattle.dw_journal.specs.Legal.{IsLegal}
use Rattle.dw_print.specs.Report.{report}
use Rattle.dw_print.specs.Typed.{IsOfTypes}
use Rattle.dw_read_report.specs.Readable.{IsWithinLimits}
use Rattle.dw_input.specs.Words.{names_of}
use Rattle.dw_input.specs.Files.{file_of, files_of}
use Rattle.dw_input.specs.Scripts.{bad_script, givens_of, world_of}
use Rattle.dw_check.specs.Answers.{journal_limit}

-- a journal that a report can tell and that is right: its shape is within the limits, its numbers and texts are of the
-- types of their fields, it is legal, and it follows from the scripts
pub record IsRightJournal (world : World) (journal : Journal) : Type 0 where
  pub limits : IsWithinLimits journal.shape
  pub types : IsOfTypes journal
  pub legal : IsLegal world journal
  pub follows : Follows world journal

-- The words name such a journal's report and its scripts: they have the form of the command, the report and the scripts
-- are there and within their limits, each script is well formed, and the report's bytes are those of the journal's
-- report beside the scripts.
pub record NamesReport (words : List (List ℕ)) (held : Held) : Type 0 where
  pub report_name : List ℕ
  pub script_names : List (List ℕ)
  pub bytes : List ℕ
  pub scripts : List (List ℕ)
  pub journal : Journal
  pub form : names_of words ≡ Some (report_name, script_names)
  pub report_there : file_of held journal_limit 0 report_name ≡ Had bytes
  pub scripts_there : files_of held (length bytes) script_names ≡ Had scripts
  pub well_formed : bad_script (zip script_names scripts) ≡ None
  pub right : IsRightJournal (world_of (map givens_of scripts)) journal
  pub printed : bytes ≡ report (world_of (map givens_of scripts)) journal
