-- How the journal of a report is read, line by line. Where a line isn't one of the report's, its place is told by how many
-- bytes there are from where it begins, or should begin, to the end.
use Rattle.std.specs.Prelude.{◌≡◌, ℕ, zero, suc, ◌+◌, ◌-◌, Bool, true, ◌==◌, if◌then◌else◌, Option, Some, None, Result, Ok, Err, List, [], ◌∷◌, ◌++◌, length, take, drop, codes}
use Rattle.std.specs.List.{AllByRecursion}
use Rattle.std.specs.Option.{is_some}
use Rattle.dw_value.specs.declared.values.Field.{Field}
use Rattle.dw_model.specs.declared.answers.Answer.TheVariants as answers
use Rattle.dw_model.specs.declared.answers.Word.TheVariants as words
use Rattle.dw_journal.specs.declared.Shape.{Shape}
use Rattle.dw_journal.specs.declared.Event.{Event}
use Rattle.dw_journal.specs.declared.Event.TheVariants as events
use Rattle.dw_journal.specs.declared.Journal.{Journal}
use Rattle.dw_read_report.specs.declared.faults.LineFault.{LineFault}
use Rattle.dw_read_report.specs.declared.faults.LineFault.TheVariants as lines
use Rattle.dw_read_report.specs.declared.faults.PartFault.{PartFault}
use Rattle.dw_read_report.specs.declared.faults.PartFault.TheVariants as faults
use Rattle.dw_read_report.specs.declared.faults.ReportFault.{ReportFault}
use Rattle.dw_read_report.specs.declared.faults.ReportFault.TheVariants as reports
use Rattle.dw_read_report.specs.declared.reading.ReadReport.{ReadReport}
use Rattle.dw_read_report.specs.declared.read_events.Head.{Head}
use Rattle.dw_read_report.specs.declared.read_events.Head.TheVariants as heads
use Rattle.dw_print.specs.Events.{journal_lines}
use Rattle.dw_read_report.specs.Readable.{IsReadableEvent, IsWithinLimits}
use Rattle.dw_print.specs.Report.{header}
use Rattle.dw_read_report.specs.Reading.{Reading, after, after_label, both, line, names_at, number_at, row_at}
use Rattle.dw_read_report.specs.EventReading.{head_at}

-- what is read of some lines, with the bytes after them; or how many bytes are left from where the first bad line begins
abbrev pub LineReading : Type 0 → Type 0
LineReading A = List ℕ → Result (A × List ℕ) ℕ

-- what comes after lines that were read
abbrev pub on_ok : {A B : Type 0} → Result A ℕ → (A → Result B ℕ) → Result B ℕ
on_ok (Ok value) next = next value
on_ok (Err left) next = Err left

-- the fault of a line that begins so many bytes before the end
abbrev pub fault_at : LineFault → ℕ → PartFault
fault_at lines.Bad left = faults.Bad left
fault_at lines.Memory left = faults.Memory

-- what a function fails with, where reading gives this
abbrev pub FailsAt : {Y : Type 0} → PartFault → Result Y ℕ → Type 0
FailsAt (faults.Bad left) read = read ≡ Err left
FailsAt faults.Memory read = Unit {0}

-- what a function returns, seen by `view`, is what reading gives, unless memory ran out
abbrev pub GivesLines : {X Y : Type 0} → (X → Y) → Result X PartFault → Result Y ℕ → Type 0
GivesLines view (Ok value) read = read ≡ Ok (view value)
GivesLines view (Err fault) read = FailsAt fault read

-- a line, which is bad where it isn't read
abbrev pub or_left : {A : Type 0} → Option A → ℕ → Result A ℕ
or_left None left = Err left
or_left (Some value) left = Ok value

abbrev pub lined : {A : Type 0} → Reading A → LineReading A
lined read bytes = or_left (read bytes) (length bytes)

-- these items before those that are read
abbrev pub with_items : {A : Type 0} → List A → Result (List A × List ℕ) ℕ → Result (List A × List ℕ) ℕ
with_items front read = on_ok read (λ x. Ok (front ++ x.0, x.1))

-- so many rows of an answer, a line each
abbrev pub rows_at : ℕ → LineReading (List (List Field))
rows_at zero bytes = Ok ([], bytes)
rows_at (suc count) bytes = on_ok (lined row_at bytes) (λ row. with_items (row.0 ∷ []) (rows_at count row.1))

-- the event that begins with this line
abbrev pub event_after : Head → LineReading Event
event_after (heads.Whole event) bytes = Ok (event, bytes)
event_after (heads.WithRows session statement count) bytes =
    on_ok (lined names_at bytes) (λ names. on_ok (rows_at count names.1) (λ rows.
    Ok (events.Answer session statement (answers.Rows words.Select names.0 rows.0), rows.1)))

-- the event of this number
unfoldable pub event_at : ℕ → LineReading Event
event_at number bytes = on_ok (lined (head_at number) bytes) (λ head. event_after head.0 head.1)

-- whether the journal ends before these bytes: they are none, or begin with `tables`
abbrev pub ends_journal : List ℕ → Bool
ends_journal [] = true
ends_journal (byte ∷ bytes) = is_some (after_label (codes "tables") (byte ∷ bytes))

-- up to so many events, which are numbered upwards from `number`, to the end of the journal
abbrev pub events_at : ℕ → ℕ → LineReading (List Event)
events_at zero number bytes = Ok ([], bytes)
events_at (suc most) number bytes =
    if ends_journal bytes then Ok ([], bytes)
    else on_ok (event_at number bytes) (λ event. with_items (event.0 ∷ []) (events_at most (number + 1) event.1))

-- all events, which are no more than the bytes, numbered from 1
unfoldable pub all_events_at : LineReading (List Event)
all_events_at bytes = events_at (length bytes) 1 bytes

-- the first line: the shape of the warehouse, within its limits
abbrev pub shape_of : (((ℕ × ℕ) × ℕ) × ℕ) × ℕ → Shape
shape_of x = record { nodes = x.0.0.0.0; slices = x.0.0.0.1; clusters = x.0.0.1; slots = x.0.1; sessions = x.1 }

unfoldable pub shape_at : Reading Shape
shape_at =
    line shape_of
    (both (both (both (both (after (codes "warehouse nodes ") (number_at 1 16)) (after (codes " slices ") (number_at 1 16)))
    (after (codes " clusters ") (number_at 0 9))) (after (codes " slots ") (number_at 1 50)))
    (after (codes " sessions ") (number_at 1 64)))

-- the journal of a report
unfoldable pub journal_at : LineReading Journal
journal_at bytes = on_ok (lined shape_at bytes) (λ shape. on_ok (all_events_at shape.1) (λ events.
    Ok (record { shape = shape.0; events = events.0 }, events.1)))

-- how many lines end in these bytes, and the number of the line that begins at this place of bytes
abbrev pub line_feeds : List ℕ → ℕ
line_feeds [] = 0
line_feeds (byte ∷ bytes) = (if byte == 10 then 1 else 0) + line_feeds bytes

abbrev pub line_at : ℕ → List ℕ → ℕ
line_at place bytes = 1 + line_feeds (take place bytes)

-- what is read of a report: a journal, and the place and the number of the line after it
abbrev pub IsReadOf : List ℕ → ReadReport → Journal × List ℕ → Type 0
IsReadOf bytes read part =
    (part.0 ≡ read.journal) × (read.place ≡ length bytes - length part.1) × (read.line ≡ line_at read.place bytes)

-- what reading a report returns, unless memory ran out
abbrev pub GivesReport : Result ReadReport ReportFault → List ℕ → Result (Journal × List ℕ) ℕ → Type 0
GivesReport (Ok read) bytes part = (x : Journal × List ℕ) × (part ≡ Ok x) × IsReadOf bytes read x
GivesReport (Err reports.Memory) bytes part = Unit {0}
GivesReport (Err (reports.Bad number)) bytes part = (left : ℕ) × (part ≡ Err left) × (number ≡ line_at (length bytes - left) bytes)

-- the journal that was read is printed at the front of the bytes, up to the place of the line after it, and it fits
abbrev pub IsPrintedIn : List ℕ → ReadReport → Type 0
IsPrintedIn bytes read =
    (bytes ≡ header read.journal.shape ++ journal_lines 1 read.journal.events ++ drop read.place bytes)
    × IsWithinLimits read.journal.shape × AllByRecursion IsReadableEvent read.journal.events
