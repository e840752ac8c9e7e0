-- The report of a right journal is answered as right, and where words name one, that is due.
use Rattle.std.proofs.Common.{◌≡◌, ℕ, List, length, map, ap, sym, subst, refl, ◌∙◌, arith}
use Rattle.std.specs.Prelude.{Result}
use Rattle.dw_io.specs.Outside.{Held}
use Rattle.dw_script.specs.declared.status.Status.{Status}
use Rattle.dw_script.specs.declared.status.Status.TheVariants.{Ok}
use Rattle.dw_journal.specs.declared.Journal.{Journal}
use Rattle.dw_journal.specs.declared.World.{World}
use Rattle.dw_journal.specs.Contents.{contents}
use Rattle.dw_journal.specs.Follows.{Follows}
use Rattle.dw_journal.specs.History.{history_of}
use Rattle.dw_journal.specs.Legal.{IsLegal}
use Rattle.dw_journal.specs.Serial.{serial_order}
use Rattle.dw_journal.specs.Shapes.{standard_shape}
use Rattle.dw_print.specs.Report.{report}
use Rattle.dw_print.specs.Typed.{IsOfTypes}
use Rattle.dw_read_report.specs.Items.{EachHasItems}
use Rattle.dw_read_report.specs.Readable.{IsFromTo, IsReadable, IsWithinLimits}
use Rattle.dw_read_report.proofs.AgainLines.{report_again}
use Rattle.dw_read_report.proofs.LegalWords.{journal_words}
use Rattle.dw_input.specs.Files.{bytes_under}
use Rattle.dw_input.specs.Scripts.{givens_of, world_of, world_under}
use Rattle.dw_input.proofs.FilesHad.{bytes_there, scripts_had}
use Rattle.dw_check.specs.Answers.{IsAnswer, IsAnswered, IsDue, IsDueAfter, IsDueOf, due_of_bytes, due_of_files, due_of_names, due_of_scripts, journal_limit, read_by}
use Rattle.dw_check.specs.NamedReports.{NamesReport}
use Rattle.dw_check.proofs.ItemLemmas.{read_items}

-- the report of a readable journal is read back to it
pub readable_answer : (world : World) (journal : Journal) → IsReadable journal → IsLegal world journal → Follows world journal → IsAnswer world (report world journal) Ok
readable_answer world journal readable legal follows =
    let again = report_again journal (contents (history_of world journal)) (map (λ commit. commit.stamp) (serial_order journal)) readable in
    subst (λ (read : Result (Journal × List ℕ) ℕ). IsAnswered world (report world journal) (read_by (report world journal) read) Ok) (sym again)
    (legal, follows, refl)

-- a legal journal of scripts whose SELECTs have items is readable
pub right_answer : (world : World) (journal : Journal) → EachHasItems world → IsOfTypes journal → IsWithinLimits journal.shape → IsLegal world journal → Follows world journal
    → IsAnswer world (report world journal) Ok
right_answer world journal items types limits legal follows =
    readable_answer world journal (record { types = types; limits = limits; words = journal_words world journal items legal }) legal follows

-- the shape of a run's journal is within its limits
pub shape_within : (sessions : ℕ) → IsFromTo 1 64 sessions → IsWithinLimits (standard_shape sessions)
shape_within sessions within = (
  (omega arith, omega arith),
  (omega arith, omega arith),
  (omega arith, omega arith),
  (omega arith, omega arith),
  within,
)

module _ (words : List (List ℕ)) (held : Held) (named : NamesReport words held) where
  abbrev beside : World
  beside = world_of (map givens_of named.scripts)

  answer : IsAnswer beside named.bytes Ok
  answer =
      let right = right_answer beside named.journal (read_items named.scripts) named.right.types named.right.limits named.right.legal named.right.follows in
      subst (λ (bytes : List ℕ). IsAnswer beside bytes Ok) (sym named.printed) right

  -- nothing comes before the report is looked at
  before : due_of_names named.report_name named.script_names held ≡ Ok
  before =
      ap (λ file. due_of_files named.script_names file held) named.report_there
      ∙ ap (due_of_bytes named.script_names) named.scripts_there
      ∙ ap due_of_scripts named.well_formed

  pub named_due : IsDue words held Ok
  named_due =
      let world = ap world_of (scripts_had held (length named.bytes) named.script_names named.scripts named.scripts_there) in
      let there = bytes_there held journal_limit 0 named.report_name named.bytes named.report_there in
      let under = subst (λ (world : World). IsAnswer world named.bytes Ok) world answer in
      let held_bytes = subst (λ (bytes : List ℕ). IsAnswer (world_under named.script_names held) bytes Ok) (sym there) under in
      let after =
      subst (λ (first : Status). IsDueAfter first (world_under named.script_names held) (bytes_under held named.report_name) Ok) (sym before) held_bytes in
      subst (λ names. IsDueOf names held Ok) (sym named.form) after
