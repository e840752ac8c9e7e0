-- What a report is answered with: the first thing that is wrong with it, or that it is right. The statuses and their order
-- are this project's own.
use Rattle.std.specs.Prelude.{◌≡◌, ℕ, ◌-◌, List, [], length, map, zip, Option, Some, None, Result}
use Rattle.std.specs.Prelude.{Ok as Had, Err as Refused}
use Rattle.dw_io.specs.Outside.{Held}
use Rattle.dw_script.specs.declared.status.Status.{Status}
use Rattle.dw_script.specs.declared.status.Status.TheVariants.{Ok, Usage, ReadFault, WriteFault, Memory, BadJournal, NotLegal, NotFollows, WrongEnd}
use Rattle.dw_journal.specs.declared.Journal.{Journal}
use Rattle.dw_journal.specs.declared.World.{World}
use Rattle.dw_journal.specs.Follows.{Follows}
use Rattle.dw_journal.specs.Legal.{IsLegal}
use Rattle.dw_judge.specs.Verdicts.{IsNotLegal, DoesNotFollow}
use Rattle.dw_journal.specs.Serial.{IsSerial, serial_order}
use Rattle.dw_print.specs.Checked.{checked_text}
use Rattle.dw_print.specs.Report.{report}
use Rattle.dw_read_report.specs.ReportReading.{journal_at, line_at}
use Rattle.dw_input.specs.Words.{names_of}
use Rattle.dw_input.specs.Files.{file_of, files_of, bytes_under}
use Rattle.dw_input.specs.Scripts.{bad_script, world_of, world_under}
use Rattle.dw_check.specs.Ends.{wrong_line}

-- the most bytes that a journal may have: 64 MiB
abbrev pub journal_limit : ℕ
journal_limit = 67108864

-- the journal of a report, or the number of the first line that isn't in the report's grammar
abbrev pub read_by : List ℕ → Result (Journal × List ℕ) ℕ → Result Journal ℕ
read_by bytes (Had read) = Had read.0
read_by bytes (Refused left) = Refused (line_at (length bytes - left) bytes)

abbrev pub journal_read : List ℕ → Result Journal ℕ
journal_read bytes = read_by bytes (journal_at bytes)

-- What a report is answered with whose journal is this one: the first event that isn't legal, or that doesn't follow from
-- the scripts; then the first line that isn't that of the journal's report; else that all is right.
abbrev pub IsJudged : World → List ℕ → Journal → Status → Type 0
IsJudged world bytes journal (NotLegal event) = IsNotLegal world journal event
IsJudged world bytes journal (NotFollows event) = DoesNotFollow world journal event
IsJudged world bytes journal (WrongEnd line) =
    IsLegal world journal × Follows world journal × (wrong_line bytes (report world journal) ≡ Some line)
IsJudged world bytes journal Ok = IsLegal world journal × Follows world journal × (bytes ≡ report world journal)
IsJudged world bytes journal status = ⊥

-- a line that isn't in the grammar comes before all that
abbrev pub IsAnswered : World → List ℕ → Result Journal ℕ → Status → Type 0
IsAnswered world bytes (Refused line) status = status ≡ BadJournal line
IsAnswered world bytes (Had journal) status = IsJudged world bytes journal status

-- what these bytes are answered with beside their scripts
abbrev pub IsAnswer : World → List ℕ → Status → Type 0
IsAnswer world bytes status = IsAnswered world bytes (journal_read bytes) status

-- What comes before a report is looked at, and Ok where it is: words that haven't the form of the command; the first file
-- that is absent or past a limit, of the journal and then of each script; the first script that isn't well formed.
abbrev pub due_of_scripts : Option Status → Status
due_of_scripts None = Ok
due_of_scripts (Some bad) = bad

abbrev pub due_of_bytes : List (List ℕ) → Result (List (List ℕ)) Status → Status
due_of_bytes names (Refused status) = status
due_of_bytes names (Had scripts) = due_of_scripts (bad_script (zip names scripts))

abbrev pub due_of_files : List (List ℕ) → Result (List ℕ) Status → Held → Status
due_of_files names (Refused status) held = status
due_of_files names (Had journal) held = due_of_bytes names (files_of held (length journal) names)

abbrev pub due_of_names : List ℕ → List (List ℕ) → Held → Status
due_of_names journal names held = due_of_files names (file_of held journal_limit 0 journal) held

-- what is due of a call that judges the report of this name beside these scripts
abbrev pub IsDueAfter : Status → World → List ℕ → Status → Type 0
IsDueAfter Ok world bytes status = IsAnswer world bytes status
IsDueAfter before world bytes status = status ≡ before

abbrev pub IsDueOfNames : List ℕ → List (List ℕ) → Held → Status → Type 0
IsDueOfNames journal names held status =
    IsDueAfter (due_of_names journal names held) (world_under names held) (bytes_under held journal) status

abbrev pub IsDueOf : Option (List ℕ × List (List ℕ)) → Held → Status → Type 0
IsDueOf None held status = status ≡ Usage
IsDueOf (Some names) held status = IsDueOfNames names.0 names.1 held status

-- what these words call for, where these files are held
abbrev pub IsDue : List (List ℕ) → Held → Status → Type 0
IsDue words held status = IsDueOf (names_of words) held status

-- whether a status may be answered: what is due, or want of memory, or a fault; a fault of writing only where the report is
-- right
abbrev pub MayAnswer : (Status → Type 0) → Status → Type 0
MayAnswer IsDue Memory = Unit {0}
MayAnswer IsDue ReadFault = Unit {0}
MayAnswer IsDue WriteFault = IsDue Ok
MayAnswer IsDue status = IsDue status

-- the world and the bytes that the words name among these files
abbrev pub world_named : Option (List ℕ × List (List ℕ)) → Held → World
world_named None held = world_of []
world_named (Some names) held = world_under names.1 held

abbrev pub world_in : List (List ℕ) → Held → World
world_in words held = world_named (names_of words) held

abbrev pub bytes_named : Option (List ℕ × List (List ℕ)) → Held → List ℕ
bytes_named None held = []
bytes_named (Some names) held = bytes_under held names.0

abbrev pub bytes_in : List (List ℕ) → Held → List ℕ
bytes_in words held = bytes_named (names_of words) held

-- what is written where all is right: how many events and commits there are, and the serial order
unfoldable pub right_text : Journal → List ℕ
right_text journal =
    let stamps = map (λ commit. commit.stamp) (serial_order journal) in
    checked_text (length journal.events) (length stamps) stamps

-- the report is that of a journal that is legal and follows from the scripts, and is serial
pub record IsReportOf (world : World) (bytes : List ℕ) (journal : Journal) : Type 0 where
  pub legal : IsLegal world journal
  pub follows : Follows world journal
  pub serial : IsSerial world journal
  pub same : bytes ≡ report world journal
